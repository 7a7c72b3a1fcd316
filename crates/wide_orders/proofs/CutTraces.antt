-- A trace with its accesses cut: where the events of the pieces come from.
use Rattle.std.proofs.Common.{◌≡◌, ◌∙◌, ◌⊎◌, ℕ, zero, suc, ◌+◌, ◌<◌, Bool, true, false, IsTrue, List, [], ◌∷◌, ◌++◌, map, Option, None, Some, slice_get, get_or, inl, inr, refl, sym, ap, subst, arith}
use Rattle.std.specs.List.{AllByRecursion, flat_map}
use Rattle.std.specs.Option.{option_map}
use Rattle.std.proofs.lemmas.Bool.{false≢true}
use Rattle.std.proofs.lemmas.Option.{none-some, same_Some, slice_get-map, get_or_from_slice_get}
use Rattle.tso_ops.specs.declared.ops.Outcome.{Outcome}
use Rattle.tso_ops.specs.declared.events.Event.{Event}
use Rattle.tso_ops.specs.Values.{TraceValue}
use Rattle.tso_ops.specs.Events.{events_from, events_of_lists, events_of, event_at, IsEvent, IsSwapLoad}
use Rattle.tso_ops.proofs.NumberFacts.{event_unique}
use Rattle.log_text.specs.declared.logs.LogOperation.{LogOperation}
use Rattle.log_text.specs.declared.logs.LogOperation.TheVariants.{Ld, St, Sw, Mb, Sb}
use Rattle.log_text.specs.LogValues.{logged_outcome}
use Rattle.log_text.specs.Splits.{operation_on_piece, piece_value}
use Rattle.wide_orders.specs.WideOrders.{WideOperation, event_widths_of, numbered_width}
use Rattle.wide_orders.proofs.Members.{Has, has_place, at_place}
use Rattle.wide_orders.proofs.Pieces.{IsPlace}
use Rattle.wide_orders.proofs.SplitRanks.{IsSplit, piece_event}
use Rattle.wide_orders.proofs.Parts.{Part, part_event, part_of, parts_of_swap, ordered_at, ArePartsOf, kept_pieces, no_parts, one_more, swap_more}

-- the place of an operation
abbrev pub IsPlacedOperation : Bool → List ℕ → ℕ → LogOperation → Type 0
IsPlacedOperation bytes bs width (Ld a r) = IsPlace bytes bs a width
IsPlacedOperation bytes bs width (St a v) = IsPlace bytes bs a width
IsPlacedOperation bytes bs width (Sw a r v) = IsPlace bytes bs a width
IsPlacedOperation bytes bs width Mb = Unit {0}
IsPlacedOperation bytes bs width Sb = Unit {0}

module _ (bytes : Bool) (bs : List ℕ) (keep : ℕ × ℕ → Bool) where
  -- what is done to the pieces that are kept
  abbrev pub cut_operation : ℕ → LogOperation → List LogOperation
  cut_operation width (Ld a r) = map (operation_on_piece (Ld a r)) (kept_pieces bytes bs keep a width)
  cut_operation width (St a v) = map (operation_on_piece (St a v)) (kept_pieces bytes bs keep a width)
  cut_operation width (Sw a r v) = map (operation_on_piece (Sw a r v)) (kept_pieces bytes bs keep a width)
  cut_operation width Mb = Mb ∷ []
  cut_operation width Sb = Sb ∷ []

  -- of some operations
  abbrev pub cut_operations : List WideOperation → List LogOperation
  cut_operations ops = flat_map (λ x. cut_operation x.width x.operation) ops

  -- as operations of traces
  abbrev pub whole_outcomes : List WideOperation → List Outcome
  whole_outcomes ops = map (λ x. logged_outcome x.operation) ops

  -- and those with their pieces
  abbrev pub cut_outcomes : List WideOperation → List Outcome
  cut_outcomes ops = map logged_outcome (cut_operations ops)

  -- These events are those of the pieces of the events, the first of which has this number.
  pub record AreCut (number : ℕ) (events : List Event) (widths : List ℕ) (cut : List Event) : Type 0 where
    pub parts : List Part
    pub is : map part_event parts ≡ cut
    pub right : ArePartsOf bytes bs keep number events widths parts

  module _ (p bars stbars : ℕ) (a : ℕ) (more : List Event) (ops : List LogOperation) (xs : List Part)
      (rest : map part_event xs ≡ events_from p bars stbars (map logged_outcome ops) ++ more) where
    -- the events of the pieces of a load
    load_events : (n r : ℕ) (ps : List (ℕ × ℕ)) →
        map part_event (map (part_of (record { proc = p; load = true; swap = false; a = a; value = r; bars = bars; stbars = stbars }) n) ps ++ xs)
        ≡ events_from p bars stbars (map logged_outcome (map (operation_on_piece (Ld a r)) ps ++ ops)) ++ more
    load_events n r [] = rest
    load_events n r (piece ∷ ps) = ap (λ es. record { proc = p; load = true; swap = false; a = piece.0; value = piece_value a r piece; bars = bars; stbars = stbars } ∷ es) (load_events n r ps)

    -- of a store
    store_events : (n v : ℕ) (ps : List (ℕ × ℕ)) →
        map part_event (map (part_of (record { proc = p; load = false; swap = false; a = a; value = v; bars = bars; stbars = stbars }) n) ps ++ xs)
        ≡ events_from p bars stbars (map logged_outcome (map (operation_on_piece (St a v)) ps ++ ops)) ++ more
    store_events n v [] = rest
    store_events n v (piece ∷ ps) = ap (λ es. record { proc = p; load = false; swap = false; a = piece.0; value = piece_value a v piece; bars = bars; stbars = stbars } ∷ es) (store_events n v ps)

    -- of a swap
    swap_events : (n r v : ℕ) (ps : List (ℕ × ℕ)) →
        map part_event (flat_map (parts_of_swap (record { proc = p; load = true; swap = true; a = a; value = r; bars = bars; stbars = stbars })
        (record { proc = p; load = false; swap = true; a = a; value = v; bars = bars; stbars = stbars }) n) ps ++ xs)
        ≡ events_from p bars stbars (map logged_outcome (map (operation_on_piece (Sw a r v)) ps ++ ops)) ++ more
    swap_events n r v [] = rest
    swap_events n r v (piece ∷ ps) = ap (λ es.
        record { proc = p; load = true; swap = true; a = piece.0; value = piece_value a r piece; bars = bars; stbars = stbars }
        ∷ record { proc = p; load = false; swap = true; a = piece.0; value = piece_value a v piece; bars = bars; stbars = stbars } ∷ es)
        (swap_events n r v ps)

  module _ (events : List Event) (widths : List ℕ) (more : List Event) (p : ℕ) where
    -- the operations are cut
    abbrev AreCutFrom : ℕ → ℕ → ℕ → List WideOperation → Type 0
    AreCutFrom n bars stbars ops =
        AreCut n (events_from p bars stbars (whole_outcomes ops) ++ events) (event_widths_of ops ++ widths) (events_from p bars stbars (cut_outcomes ops) ++ more)

    -- one more of them
    cut_one : (width : ℕ) (x : LogOperation) (ops : List WideOperation) (bars stbars : ℕ) → IsPlacedOperation bytes bs width x → ((m b s : ℕ) → AreCutFrom m b s ops) →
        (n : ℕ) → AreCutFrom n bars stbars (record { operation = x; width = width } ∷ ops)
    cut_one width (Ld a r) ops bars stbars placed rest n =
        let after = rest (suc n) bars stbars in record {
          parts = _;
          is = load_events p bars stbars a more (cut_operations ops) after.parts after.is n r (kept_pieces bytes bs keep a width);
          right = one_more bytes bs keep n _ _ after.parts _ width placed (λ load swap. false≢true swap) after.right;
        }
    cut_one width (St a v) ops bars stbars placed rest n =
        let after = rest (suc n) bars stbars in record {
          parts = _;
          is = store_events p bars stbars a more (cut_operations ops) after.parts after.is n v (kept_pieces bytes bs keep a width);
          right = one_more bytes bs keep n _ _ after.parts _ width placed (λ load swap. false≢true swap) after.right;
        }
    cut_one width (Sw a r v) ops bars stbars placed rest n =
        let after = rest (suc (suc n)) bars stbars in record {
          parts = _;
          is = swap_events p bars stbars a more (cut_operations ops) after.parts after.is n r v (kept_pieces bytes bs keep a width);
          right = swap_more bytes bs keep n _ _ after.parts _ _ width placed (refl, refl) ((λ load. false≢true load), refl) after.right;
        }
    cut_one width Mb ops bars stbars placed rest n = rest n (suc bars) stbars
    cut_one width Sb ops bars stbars placed rest n = rest n bars (suc stbars)

    -- all of them
    cut_from : (ops : List WideOperation) → AllByRecursion (λ x. IsPlacedOperation bytes bs x.width x.operation) ops → ((m : ℕ) → AreCut m events widths more) → (n bars stbars : ℕ) → AreCutFrom n bars stbars ops
    cut_from [] placed rest n bars stbars = rest n
    cut_from (x ∷ ops) placed rest n bars stbars = cut_one x.width x.operation ops bars stbars placed.0 (λ m b s. cut_from ops placed.1 rest m b s) n

  -- those of all processors
  pub cut_lists : (p : ℕ) (lists : List (List WideOperation)) → AllByRecursion (λ ops. AllByRecursion (λ x. IsPlacedOperation bytes bs x.width x.operation) ops) lists →
      (n : ℕ) → AreCut n (events_of_lists p (map whole_outcomes lists)) (flat_map event_widths_of lists) (events_of_lists p (map cut_outcomes lists))
  cut_lists p [] placed n = record { parts = []; is = refl; right = no_parts bytes bs keep n }
  cut_lists p (ops ∷ lists) placed n = cut_from _ _ _ p ops placed.0 (λ m. cut_lists (suc p) lists placed.1 m) n 0 0

  -- ---- by numbers

  -- none in particular
  no_part : Part
  no_part = record { origin = record { proc = 0; load = true; swap = true; a = 0; value = 0; bars = 0; stbars = 0 }; number = 0; piece = (0, 0) }

  -- the piece that event n is at
  part_at : List Part → ℕ → Part
  part_at parts zero = no_part
  part_at parts (suc k) = get_or parts k no_part

  -- and the event that it comes from
  pub origin_number : List Part → ℕ → ℕ
  origin_number parts n = (part_at parts n).number

  -- and its piece
  pub piece_at : List Part → ℕ → ℕ × ℕ
  piece_at parts n = (part_at parts n).piece

  module _ (t u : TraceValue) (widths : List ℕ) (cut : AreCut 1 (events_of t) widths (events_of u)) where
    -- the number of the event that an event of the cut trace comes from
    abbrev number_of : ℕ → ℕ
    number_of = origin_number cut.parts

    -- its piece
    abbrev piece_of_event : ℕ → ℕ × ℕ
    piece_of_event = piece_at cut.parts

    -- an event is that of its piece
    found_part : (k : ℕ) (e : Event) → slice_get (events_of u) k ≡ Some e → (x : Part) × (slice_get cut.parts k ≡ Some x) × (part_event x ≡ e)
    found_part k e at = by_part (slice_get cut.parts k) refl (sym (slice_get-map part_event cut.parts k) ∙ ap (λ es. slice_get es k) cut.is ∙ at)
      where
        by_part : (o : Option Part) → slice_get cut.parts k ≡ o → option_map part_event o ≡ Some e → (x : Part) × (slice_get cut.parts k ≡ Some x) × (part_event x ≡ e)
        by_part None is none = absurd (none-some e none)
        by_part (Some x) is some = (x, is, same_Some (part_event x) e some)

    -- Event n of the cut trace is that of a piece.
    record IsCutEvent (n : ℕ) (e : Event) : Type 0 where
      k : ℕ
      next : n ≡ suc k
      x : Part
      at : slice_get cut.parts k ≡ Some x
      is : part_event x ≡ e
      number : number_of n ≡ x.number
      piece : piece_of_event n ≡ x.piece

    -- each is
    cut_event : (n : ℕ) (e : Event) → event_at u n ≡ Some e → IsCutEvent n e
    unfolding event_at origin_number piece_at part_at
    cut_event zero e at = absurd (none-some e at)
    cut_event (suc k) e at =
        let found = found_part k e at in
        let same = get_or_from_slice_get cut.parts k found.0 no_part found.1 in
        record { k = k; next = refl; x = found.0; at = found.1; is = found.2; number = ap (λ (x : Part). x.number) same; piece = ap (λ (x : Part). x.piece) same }

    -- the event of a part
    event_of_part : (x : Part) → Has cut.parts x → (m : ℕ) × IsEvent u m × (number_of m ≡ x.number) × (piece_of_event m ≡ x.piece)
    unfolding event_at origin_number piece_at part_at
    event_of_part x has =
        let found = has_place cut.parts x has in
        let same = get_or_from_slice_get cut.parts found.0 x no_part found.1 in (
          suc found.0,
          (part_event x, ap (λ es. slice_get es found.0) (sym cut.is) ∙ slice_get-map part_event cut.parts found.0 ∙ ap (option_map part_event) found.1),
          ap (λ (y : Part). y.number) same,
          ap (λ (y : Part). y.piece) same,
        )

    -- where a part comes from
    record HasOrigin (x : Part) : Type 0 where
      at : event_at t x.number ≡ Some x.origin
      kept : Has (kept_pieces bytes bs keep x.origin.a (numbered_width widths x.number)) x.piece

    -- each comes from one
    origin_of : (x : Part) → Has cut.parts x → HasOrigin x
    unfolding event_at
    origin_of x has = by_number (cut.right.origin x has)
      where
        by_number : (i : ℕ) × (width : ℕ) × (x.number ≡ 1 + i) × (slice_get (events_of t) i ≡ Some x.origin) × (slice_get widths i ≡ Some width) × Has (kept_pieces bytes bs keep x.origin.a width) x.piece → HasOrigin x
        by_number (i, width, number, at, at_width, kept) =
            let is : x.number ≡ suc i = omega (arith, number) in
            let same : numbered_width widths x.number ≡ width = ap (numbered_width widths) is ∙ get_or_from_slice_get widths i width 0 at_width in
            record { at = ap (event_at t) is ∙ at; kept = subst (λ w. Has (kept_pieces bytes bs keep x.origin.a w) x.piece) (sym same) kept }

    -- each event of the cut trace comes from one
    pub cut_split : IsSplit t u (origin_number cut.parts) (piece_at cut.parts)
    unfolding origin_number part_at
    cut_split = record {
      comes = λ n e at.
          let event = cut_event n e at in
          let from = origin_of event.x (at_place cut.parts event.k event.x event.at) in
          (event.x.origin, ap (event_at t) event.number ∙ from.at, sym event.is ∙ ap (piece_event event.x.origin) (sym event.piece));
      ordered = λ m n first second less. in_order m n (cut_event m first.0 first.1) (cut_event n second.0 second.1) less;
      swap = λ l swap. next_number l (cut_event l swap.0 swap.1) swap.2 swap.3;
    }
      where
        in_order : (m n : ℕ) {d e : Event} → IsCutEvent m d → IsCutEvent n e → m < n →
            (number_of m < number_of n) ⊎ (((number_of m ≡ number_of n) × ((piece_of_event m).0 < (piece_of_event n).0))
            ⊎ ((number_of m ≡ suc (number_of n)) × IsSwapLoad t (number_of n) × ((piece_of_event m).0 < (piece_of_event n).0)))
        in_order m n first second less =
            let up = first.next in
            let down = second.next in
            let number_m = first.number in
            let number_n = second.number in
            let place_m = ap (λ (p : ℕ × ℕ). p.0) first.piece in
            let place_n = ap (λ (p : ℕ × ℕ). p.0) second.piece in
            elim (ordered_at cut.parts cut.right.ordered first.k second.k first.x second.x (omega (arith, less, up, down)) first.at second.at) [
              | inl before ↦ inl (omega (arith, before, number_m, number_n))
              | inr (inl same) ↦ (let one = same.0 in let low = same.1 in inr (inl (omega (arith, one, number_m, number_n), omega (arith, low, place_m, place_n))))
              | inr (inr swap) ↦ (
                  let one = swap.0 in
                  let low = swap.2 in
                  let from = origin_of second.x (at_place cut.parts second.k second.x second.at) in
                  inr (inr (omega (arith, one, number_m, number_n), (second.x.origin, ap (event_at t) number_n ∙ from.at, swap.1.0, swap.1.1), omega (arith, low, place_m, place_n)))
                  )
            ]

        next_number : (l : ℕ) {e : Event} → IsCutEvent l e → IsTrue e.load → IsTrue e.swap → number_of (suc l) ≡ suc (number_of l)
        next_number l event load swap =
            let next = cut.right.paired event.k event.x event.at (ap (λ (x : Event). x.load) event.is ∙ load) (ap (λ (x : Event). x.swap) event.is ∙ swap) in
            ap (λ k. (get_or cut.parts k no_part).number) event.next ∙ ap (λ (x : Part). x.number) (get_or_from_slice_get cut.parts (suc event.k) next.0 no_part next.1)
            ∙ next.2 ∙ ap suc (sym event.number)

    -- the piece is a kept one of its place
    pub cut_parts : (n : ℕ) (d : Event) → IsEvent u n → event_at t (number_of n) ≡ Some d → Has (kept_pieces bytes bs keep d.a (numbered_width widths (number_of n))) (piece_of_event n)
    cut_parts n d (e, at) at_d =
        let event = cut_event n e at in
        let from = origin_of event.x (at_place cut.parts event.k event.x event.at) in
        let same : event.x.origin ≡ d = event_unique t (number_of n) event.x.origin d (ap (event_at t) event.number ∙ from.at) at_d in
        subst (λ (y : Event). Has (kept_pieces bytes bs keep y.a (numbered_width widths (number_of n))) (piece_of_event n)) same
        (subst (λ k. Has (kept_pieces bytes bs keep event.x.origin.a (numbered_width widths k)) (piece_of_event n)) (sym event.number)
        (subst (Has (kept_pieces bytes bs keep event.x.origin.a (numbered_width widths event.x.number))) (sym event.piece) from.kept))

    -- the place of an event is one
    pub cut_places : (n : ℕ) (e : Event) → event_at t n ≡ Some e → IsPlace bytes bs e.a (numbered_width widths n)
    unfolding event_at
    cut_places zero e at = absurd (none-some e at)
    cut_places (suc i) e at =
        let placed = cut.right.placed i e at in subst (IsPlace bytes bs e.a) (sym (get_or_from_slice_get widths i placed.0 0 placed.1)) placed.2

    -- each kept piece of an event has one
    pub cut_all : (s : ℕ) (f : Event) (piece : ℕ × ℕ) → event_at t s ≡ Some f → Has (kept_pieces bytes bs keep f.a (numbered_width widths s)) piece →
        (m : ℕ) × IsEvent u m × (number_of m ≡ s) × (piece_of_event m ≡ piece)
    unfolding event_at
    cut_all zero f piece at has = absurd (none-some f at)
    cut_all (suc i) f piece at has =
        let placed = cut.right.placed i f at in
        let same = get_or_from_slice_get widths i placed.0 0 placed.1 in
        let found = cut.right.all i placed.0 f piece at placed.1 (subst (λ w. Has (kept_pieces bytes bs keep f.a w) piece) same has) in
        let event = event_of_part found.0 found.1 in
        let number = found.2 in
        let own = event.2 in
        (event.0, event.1, omega (arith, number, own), event.3 ∙ found.3)
