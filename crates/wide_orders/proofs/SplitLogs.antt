-- Where the accesses of some lines have an order, the log of their pieces has one.
use Rattle.std.proofs.Common.{◌≡◌, ◌∙◌, ℕ, zero, suc, ◌+◌, ◌<◌, ◌≤◌, eqb, nat_eq, cond, not, ◌||◌, Bool, true, false, List, [], ◌∷◌, ◌++◌, length, map, Some, inl, inr, refl, sym, ap, subst, eq-eqb, arith}
use Rattle.std.specs.List.{AllByRecursion, Contains, flat_map, list_any, range_with_len, slice_index_or}
use Rattle.std.proofs.lemmas.Bool.{false≢true}
use Rattle.std.proofs.lemmas.List.Elements.{recursion_from_All, All-weaker, All-contains_itself}
use Rattle.run_lines.specs.declared.arguments.Widths.{Widths}
use Rattle.tso_ops.specs.declared.events.Event.{Event}
use Rattle.tso_ops.specs.declared.settings.Order.TheVariants.{Tso as OrderTso, Pso as OrderPso}
use Rattle.tso_ops.specs.Settings.{setting_of_first}
use Rattle.tso_ops.specs.Values.{TraceValue, trace_of_lists}
use Rattle.tso_ops.specs.Events.{event_at, events_of, IsEvent}
use Rattle.tso_model.specs.Axioms.{place, IsConsistent}
use Rattle.tso_model.proofs.Places.{place_same}
use Rattle.log_text.specs.declared.lines.LogLine.{LogLine}
use Rattle.log_text.specs.declared.lines.LogLine.TheVariants.{Note, Pso, First, Issued, Unknown, Memory, End}
use Rattle.log_text.specs.declared.lines.SaidLine.{SaidLine}
use Rattle.log_text.specs.declared.logs.LogOperation.{LogOperation}
use Rattle.log_text.specs.declared.logs.LogOperation.TheVariants.{Ld, St, Sw, Mb, Sb}
use Rattle.log_text.specs.LogTexts.{order_of, first_values, unknown_in, processors_in, issued_by, log_of_lines}
use Rattle.log_text.specs.LogValues.{log_operations, logged_outcomes}
use Rattle.log_text.specs.Splits.{address_in, boundaries, boundaries_in, boundaries_of_lines, has_bytes, pieces, line_on_piece, split_line, split_lines}
use Rattle.log_thinning.proofs.RankModels.{order_of_ranks}
use Rattle.wide_orders.specs.WideOrders.{WideOperation, wide_issued_in, wide_issued_by, plain_lines, wide_lists, wide_trace, event_widths_of, width_of_event, has_cell, first_cell, IsUnknownCell, IsWideOrder, HasWideOrder, names_place, AreWideLines}
use Rattle.wide_orders.proofs.Members.{Has, has_map, has_flat, has_filter, from_filter}
use Rattle.wide_orders.proofs.Pieces.{IsPiece, IsPlace, IsWithin, piece_of, of_place, shared_within, cell_within}
use Rattle.wide_orders.proofs.Homes.{IsWideRank}
use Rattle.wide_orders.proofs.SplitRanks.{IsSplit, load_there}
use Rattle.wide_orders.proofs.SplitReads.{Share, IsCut, cut_ranks}
use Rattle.wide_orders.proofs.CutTraces.{AreCut, IsPlacedOperation, cut_outcomes, cut_lists, origin_number, piece_at, cut_split, cut_parts, cut_places, cut_all}
use Rattle.wide_orders.proofs.FirstCells.{one_first}
use Rattle.wide_orders.proofs.SplitLines.{split_processors, split_model, is_kept, lines_told}

-- ---- lists

-- what is an element stands there
pub contains_has : {X : Type 0} (xs : List X) (x : X) (k : ℕ) → k < length xs → slice_index_or xs k x ≡ x → Has xs x
contains_has [] x k below is = absurd (omega (arith, below))
contains_has (z ∷ xs) x zero below is = inl is
contains_has (z ∷ xs) x (suc k) below is = inr (contains_has xs x k (omega (arith, below)) is)

-- what stands there is found
found_among : (b : ℕ) (xs : List ℕ) → Has xs b → list_any (nat_eq b) xs ≡ true
found_among b [] has = absurd has
found_among b (x ∷ xs) (inl same) = first (nat_eq b x) (list_any (nat_eq b) xs) (eq-eqb b x (sym same))
  where
    first : (s t : Bool) → s ≡ true → (s || t) ≡ true
    first true t is = refl
    first false t is = absurd (false≢true is)
found_among b (x ∷ xs) (inr later) = second (nat_eq b x) (list_any (nat_eq b) xs) (found_among b xs later)
  where
    second : (s t : Bool) → t ≡ true → (s || t) ≡ true
    second true t is = refl
    second false t is = is

-- what holds of all images
pub all_of_map : {X Y : Type 0} (P : Y → Type 0) (f : X → Y) → ((x : X) → P (f x)) → (xs : List X) → AllByRecursion P (map f xs)
all_of_map P f each [] = tt
all_of_map P f each (x ∷ xs) = (each x, all_of_map P f each xs)

-- what holds of all of two lists
all_append : {X : Type 0} (P : X → Type 0) (xs ys : List X) → AllByRecursion P xs → AllByRecursion P ys → AllByRecursion P (xs ++ ys)
all_append P [] ys first second = second
all_append P (x ∷ xs) ys first second = (first.0, all_append P xs ys first.1 second)

-- images of images that are the same
same_images : {X Y Z W : Type 0} (f : Y → W) (g : X → Y) (h : Z → W) (k : X → Z) → ((x : X) → f (g x) ≡ h (k x)) → (xs : List X) → map f (map g xs) ≡ map h (map k xs)
same_images f g h k each [] = refl
same_images f g h k each (x ∷ xs) = ap (λ w. w ∷ map f (map g xs)) (each x) ∙ ap (λ ws. h (k x) ∷ ws) (same_images f g h k each xs)

-- no place is behind the end
place_within : (order : List ℕ) (n : ℕ) → place order n ≤ length order
place_within [] n = omega arith
place_within (x ∷ order) n = by_test (eqb x n) (place_within order n)
  where
    by_test : (t : Bool) → place order n ≤ length order → cond t 0 (suc (place order n)) ≤ suc (length order)
    by_test true low = omega arith
    by_test false low = omega (arith, low)

-- ---- places

-- both ends of a place are boundaries of it
ends : (a width : ℕ) → 0 < width → Has (boundaries a width) a × Has (boundaries a width) (a + width)
ends a zero wide = absurd (omega (arith, wide))
ends a (suc count) wide = (inl refl, inr (inl refl))

module _ (widths : Widths) (lines : List SaidLine) (wide : AreWideLines widths lines) where
  -- the places are bytes
  abbrev bytes : Bool
  bytes = has_bytes widths

  -- their boundaries
  abbrev bs : List ℕ
  bs = boundaries_of_lines widths lines

  -- a line that names a place names one
  placed_as : (b : Bool) → has_bytes widths ≡ b → (s : SaidLine) → Contains lines s → names_place s.line ≡ true → IsPlace b (cond b (flat_map boundaries_in lines) []) (address_in s.line) s.width
  placed_as true is s has names =
      let some = wide.bytes s has is names in
      let both = ends (address_in s.line) s.width some in
      let here = contains_has lines s has.0 has.1 has.2 in (
        some,
        found_among (address_in s.line) (flat_map boundaries_in lines) (has_flat boundaries_in lines s (address_in s.line) here both.0),
        found_among (address_in s.line + s.width) (flat_map boundaries_in lines) (has_flat boundaries_in lines s (address_in s.line + s.width) here both.1),
      )
  placed_as false is s has names = wide.locations s has is

  -- of each line
  abbrev HasPlace : SaidLine → Type 0
  HasPlace s = names_place s.line ≡ true → IsPlace bytes bs (address_in s.line) s.width

  -- each such line does
  line_placed : (s : SaidLine) → Contains lines s → HasPlace s
  line_placed s has = placed_as (has_bytes widths) refl s has

  -- all do
  pub places : AllByRecursion HasPlace lines
  places = recursion_from_All HasPlace lines (All-weaker (Contains lines) HasPlace line_placed lines (All-contains_itself lines))

  -- the others have no width
  others : AllByRecursion (λ (s : SaidLine). names_place s.line ≡ false → s.width ≡ 0) lines
  others =
      recursion_from_All (λ (s : SaidLine). names_place s.line ≡ false → s.width ≡ 0) lines
      (All-weaker (Contains lines) (λ (s : SaidLine). names_place s.line ≡ false → s.width ≡ 0) (λ s has. wide.others s has) lines (All-contains_itself lines))

  -- the operations have places
  abbrev HasItsPlace : WideOperation → Type 0
  HasItsPlace x = IsPlacedOperation bytes bs x.width x.operation

  -- those of a line
  operation_placed : (p width : ℕ) (line : LogLine) → (names_place line ≡ true → IsPlace bytes bs (address_in line) width) → AllByRecursion HasItsPlace (wide_issued_in p width line)
  operation_placed p width Note placed = tt
  operation_placed p width Pso placed = tt
  operation_placed p width (First a v) placed = tt
  operation_placed p width (Unknown q a) placed = tt
  operation_placed p width Memory placed = tt
  operation_placed p width End placed = tt
  operation_placed p width (Issued q x) placed = by_owner (eqb p q)
    where
      its : (y : LogOperation) → (names_place (Issued q y) ≡ true → IsPlace bytes bs (address_in (Issued q y)) width) → IsPlacedOperation bytes bs width y
      its (Ld a r) own = own refl
      its (St a v) own = own refl
      its (Sw a r v) own = own refl
      its Mb own = tt
      its Sb own = tt

      by_owner : (t : Bool) → AllByRecursion HasItsPlace (cond t (record { operation = x; width = width } ∷ []) [])
      by_owner true = (its x placed, tt)
      by_owner false = tt

  -- those of lines
  pub operations_placed : (p : ℕ) (some : List SaidLine) → AllByRecursion HasPlace some → AllByRecursion HasItsPlace (flat_map (λ (s : SaidLine). wide_issued_in p s.width s.line) some)
  operations_placed p [] placed = tt
  operations_placed p (s ∷ some) placed =
      all_append HasItsPlace (wide_issued_in p s.width s.line) (flat_map (λ (x : SaidLine). wide_issued_in p x.width x.line) some) (operation_placed p s.width s.line placed.0)
      (operations_placed p some placed.1)

  -- ---- pieces that are left out

  -- the addresses at which operations are left out
  abbrev pub unknown : List ℕ
  unknown = flat_map unknown_in (split_lines widths lines)

  -- whether a piece is kept
  abbrev pub keep : ℕ × ℕ → Bool
  keep = is_kept unknown

  -- a piece with a cell to which something unknown was done is left out
  left_out : (c : ℕ) (piece : ℕ × ℕ) → IsPiece bytes bs piece → has_cell piece.0 piece.1 c ≡ true → IsUnknownCell lines c → keep piece ≡ true → ⊥
  left_out c piece is_piece here (s, p, a, contains, is, has) kept =
      let address : address_in s.line ≡ a = ap address_in is in
      let placed : IsPlace bytes bs (address_in s.line) s.width = line_placed s contains (ap names_place is) in
      let there : has_cell (address_in s.line) s.width c ≡ true = subst (λ b. has_cell b s.width c ≡ true) (sym address) has in
      let own = of_place bytes bs (address_in s.line) s.width placed piece is_piece (shared_within bytes bs (address_in s.line) s.width placed piece is_piece c here there) in
      let line : Has (split_line bs s) (Unknown p piece.0) =
      subst (Has (split_line bs s)) (ap (λ l. line_on_piece l piece) is) (has_map (line_on_piece s.line) (pieces bs (address_in s.line) s.width) piece own) in
      let among : Has unknown piece.0 =
      has_flat unknown_in (split_lines widths lines) (Unknown p piece.0) piece.0
      (has_flat (split_line bs) lines s (Unknown p piece.0) (contains_has lines s contains.0 contains.1 contains.2) line) (inl refl) in
      false≢true (sym (ap not (found_among piece.0 unknown among)) ∙ kept)

  -- ---- the traces

  -- that of the accesses
  abbrev t : TraceValue
  t = wide_trace lines

  -- the widths of the places of its events
  abbrev width : ℕ → ℕ
  width = width_of_event lines

  -- and that of the pieces
  abbrev u : TraceValue
  u = trace_of_lists (setting_of_first (order_of (split_lines widths lines)) (first_values (split_lines widths lines))) (map (cut_outcomes bytes bs keep) (wide_lists lines))

  -- these are the pieces of those
  pub cut : AreCut bytes bs keep 1 (events_of t) (flat_map event_widths_of (wide_lists lines)) (events_of u)
  unfolding events_of
  cut =
      cut_lists bytes bs keep 0 (wide_lists lines)
      (all_of_map (AllByRecursion HasItsPlace) (wide_issued_by lines) (λ p. operations_placed p lines places) (range_with_len 0 (processors_in (plain_lines lines)))) 1

  -- the event and the piece that an event comes from
  abbrev g : ℕ → ℕ
  g = origin_number bytes bs keep cut.parts

  -- its piece
  abbrev part : ℕ → ℕ × ℕ
  part = piece_at bytes bs keep cut.parts

  -- they stand as they should
  split : IsSplit t u g part
  split = cut_split bytes bs keep t u (flat_map event_widths_of (wide_lists lines)) cut

  -- it is the log's
  pub same_lists : map logged_outcomes (map (issued_by (split_lines widths lines)) (range_with_len 0 (processors_in (split_lines widths lines)))) ≡ map (cut_outcomes bytes bs keep) (wide_lists lines)
  same_lists =
      ap (λ n. map logged_outcomes (map (issued_by (split_lines widths lines)) (range_with_len 0 n))) (split_processors bs lines)
      ∙ same_images logged_outcomes (issued_by (split_lines widths lines)) (cut_outcomes bytes bs keep) (wide_issued_by lines) (λ p. lines_told bytes bs unknown p lines others 1)
      (range_with_len 0 (processors_in (plain_lines lines)))

  -- ---- its order

  module _ (order : List ℕ) (right : IsWideOrder lines order) where
    -- the places of the accesses in their order are ranks
    wide_rank : IsWideRank t (Share t width) (place order)
    wide_rank = record {
      apart = λ m n event_m event_n same. place_same order m n (let once = right.memory_order.once n event_n in omega (arith, once)) same;
      load_op = right.load_op;
      store_store = right.store_store;
      stbar = right.stbar;
      membar = right.membar;
      swap = right.swap;
      atomicity = right.atomicity;
    }

    -- an event comes from one with its piece
    record IsFrom (n : ℕ) : Type 0 where
      d : Event
      at : event_at t (g n) ≡ Some d
      own : Has (pieces bs d.a (width (g n))) (part n)
      kept : keep (part n) ≡ true
      is : IsPiece bytes bs (part n)
      within : IsWithin (part n) d.a (width (g n))

    -- each does
    from : (n : ℕ) → IsEvent u n → IsFrom n
    from n event =
        let origin = split.comes n event.0 event.1 in
        let both = from_filter keep (pieces bs origin.0.a (width (g n))) (part n)
        (cut_parts bytes bs keep t u (flat_map event_widths_of (wide_lists lines)) cut n origin.0 event origin.1) in
        let place = cut_places bytes bs keep t u (flat_map event_widths_of (wide_lists lines)) cut (g n) origin.0 origin.1 in
        let piece = piece_of bytes bs origin.0.a (width (g n)) place (part n) both.0 in
        record { d = origin.0; at = origin.1; own = both.0; kept = both.1; is = piece.0; within = piece.1 }

    -- all that the pieces need
    is_cut : IsCut t u width bytes bs (place order) (first_cell lines) g part
    is_cut = record {
      split = split;
      setting = ap (λ b. cond b OrderPso OrderTso) (split_model bs lines);
      places = cut_places bytes bs keep t u (flat_map event_widths_of (wide_lists lines)) cut;
      parts = λ n d event at. (from_filter keep (pieces bs d.a (width (g n))) (part n) (cut_parts bytes bs keep t u (flat_map event_widths_of (wide_lists lines)) cut n d event at)).0;
      all = λ n s f event at has.
          cut_all bytes bs keep t u (flat_map event_widths_of (wide_lists lines)) cut s f (part n) at (has_filter keep (pieces bs f.a (width s)) (part n) has (from n event).kept);
      reads = λ n c load has.
          let origin = from n (load.0, load.1) in
          right.value (g n) c (load_there t u g part split n load) (origin.d, origin.at, cell_within (part n) origin.d.a (width (g n)) c origin.within has)
          (λ is_unknown. left_out c (part n) origin.is has is_unknown origin.kept);
      firsts = λ n event. one_first bytes bs (part n) (from n event).is lines places;
    }

    -- the trace of the pieces has an order
    pieces_consistent : IsConsistent u
    pieces_consistent =
        order_of_ranks u _
        (cut_ranks t u width bytes bs (place order) (first_cell lines) g part is_cut wide_rank (suc (length order)) (λ n. (let low = place_within order n in omega (arith, low))))

-- where the accesses of some lines have an order, the log of their pieces has one
pub split_consistent : (widths : Widths) (lines : List SaidLine) → AreWideLines widths lines → HasWideOrder lines → IsConsistent (log_operations (log_of_lines (split_lines widths lines)))
split_consistent widths lines wide (order, right) =
    subst (λ lists. IsConsistent (trace_of_lists (setting_of_first (order_of (split_lines widths lines)) (first_values (split_lines widths lines))) lists))
    (sym (same_lists widths lines wide)) (pieces_consistent widths lines wide order right)
