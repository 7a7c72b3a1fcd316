-- A run at bytes that holds is one at locations that holds, of which each line is one for each piece.
use Rattle.std.proofs.Common.{◌≡◌, ◌∙◌, sym, ap, refl, subst, inl, inr, ℕ, suc, ◌+◌, ◌-◌, ◌*◌, ◌<◌, ◌≤◌, ◌⊎◌, ◌==◌, not, false, cond, nat_le, nat_lt, Option, None, Some, List, [], ◌∷◌, ◌++◌, length, map, filter, append-nil, eqb-true, arith}
use Rattle.std.specs.List.{AllByRecursion, remove}
use Rattle.std.specs.Option.{option_map_or}
use Rattle.std.proofs.lemmas.Bool.{cases_eq, cases_lt, not-false, or_parts}
use Rattle.std.proofs.lemmas.Bool.Decides.{nat_tests}
use Rattle.tso_ops.specs.declared.settings.Order.{Order}
use Rattle.tso_ops.specs.declared.settings.Order.TheVariants.{Tso, Pso}
use Rattle.run_steps.specs.declared.cells.Cell.TheVariants.{Stored}
use Rattle.run_steps.specs.declared.places.Place.{Place}
use Rattle.run_steps.specs.declared.processors.WaitingStore.{WaitingStore}
use Rattle.run_steps.specs.declared.refusals.CellContent.{CellContent}
use Rattle.run_steps.specs.declared.steps.RunStep.{RunStep}
use Rattle.run_steps.specs.declared.steps.RunStep.TheVariants.{Load, Store, Drain, Write, Swap, Reserve, StoreReserved, Membar, Stbar, Unknown, Last}
use Rattle.run_steps.specs.Machine.{ProcessorState, MachineState, admitted, draining, keeps_back, next_state, processor_in, reaching, storing, view_of, waits_of, with_processor, with_reserved, with_store, with_waits}
use Rattle.run_steps.specs.Places.{cell_count, overlaps}
use Rattle.run_steps.specs.Reads.{Memory, read_from, read_in, seen_in, sees}
use Rattle.run_steps.specs.Steps.{IsRead, MayDrain, MayStep}
use Rattle.log_text.specs.declared.logs.LogOperation.TheVariants.{Ld, St, Sw}
use Rattle.log_text.specs.Splits.{piece_value}
use Rattle.run_orders.specs.RunLogs.{IsAtLocation}
use Rattle.run_orders.specs.SplitLogs.{IsAtBytes}
use Rattle.run_orders.proofs.Waiting.{value_seen}
use Rattle.run_orders.proofs.Lists.{all-append, all-parts}
use Rattle.run_orders.proofs.States.{IsSame, admitted_same, admitted_within, other_processor, own_processor, reaching_same, reserved_same, same_after, tag_of}
use Rattle.run_orders.proofs.Told.{is_said}
use Rattle.run_orders.proofs.Drains.{none_older, parted_at}
use Rattle.log_text.proofs.PieceFacts.{ArePieces, pieces_in, pieces_stop}
use Rattle.run_orders.proofs.PieceReads.{IsKnownFrom, read_same, read_width}
use Rattle.run_orders.proofs.Pieces.{AreCutWaits, AreLow, IsCut, IsSameMemory, IsSeenSame, low_pieces, parts_seen, pieces_cut, pieces_known, pieces_of, sees_same, split-append, split_waits, steps_of, waits_for, waits_from, wide_cells}
use Rattle.run_orders.proofs.PieceMemory.{put_same}
use Rattle.run_orders.proofs.PieceSteps.{ArePut, Follows, IsKept, Leads, Passes, drains, loads, stores, writes}
use Rattle.run_orders.proofs.PieceLines.{IsCutStep, place_cut, said_pieces, steps_length, steps_located, steps_said, steps_silent, told_by}
use Rattle.run_orders.proofs.PieceStates.{Split, split_led, split_same}

module _ (bs : List ℕ) where
  -- ---- one step

  -- Steps at the pieces of a step, which lead to what the state is after it.
  pub record SplitStep (order : Order) (p n : ℕ) (s_next t : MachineState) (step : RunStep) : Type 0 where
    pub steps : List RunStep
    pub to : MachineState
    pub follows : Follows order p (8 * n) t steps to
    pub split : Split bs s_next to
    pub few : length steps ≤ 8
    pub locations : AllByRecursion IsAtLocation steps
    pub said : filter is_said (map (told_by p) steps) ≡ said_pieces bs p step

  -- The same of a store that reaches memory at once, whatever it says.
  record AtOnce (order : Order) (p n : ℕ) (s_next t : MachineState) (steps : List RunStep) : Type 0 where
    to : MachineState
    follows : Follows order p (8 * n) t steps to
    split : Split bs s_next to

  module _ (order : Order) (n p : ℕ) (s t : MachineState) (there : p < length s.processors) (split : Split bs s t) where
    seen : IsSeenSame bs (view_of s p) (view_of t p)
    seen =
        subst (λ ws. IsSeenSame bs (view_of s p) (sees t.memory ws)) (sym (split.waits p))
        (sees_same bs s.memory t.memory split.memory (waits_of s p) (split.cut p))

    few_steps : (f : Place → ℕ → ℕ → RunStep) (place : Place) (r v : ℕ) → IsCut bs place → length (steps_of f place.address r v (pieces_of bs place) (low_pieces bs place)) ≤ 8
    few_steps f place r v cut =
        let same = steps_length f place.address r v (pieces_of bs place) (low_pieces bs place) in
        let most = pieces_stop bs place.address (place.address + place.width) (pieces_of bs place) (pieces_cut bs place cut) in
        let cells = wide_cells place.width cut.wide in
        let few : cell_count place ≤ 8 = place.few in
        omega (arith, same, few, most, cells)

    -- what is read at a place, as its pieces
    abbrev IsReadBy : (ℕ → Option CellContent) → Place → ℕ → Type 0
    IsReadBy view place v = AllByRecursion (λ piece. value_seen (view piece.0) ≡ Some (piece_value place.address v piece)) (pieces_of bs place)

    -- the value that a place has
    place_known : (look view : ℕ → Option CellContent) → IsSeenSame bs look view → (place : Place) → IsCut bs place → IsKnownFrom look place.address place.width
    place_known look view same place cut =
        let known = pieces_known bs look view same place.address (place.address + place.width) (pieces_of bs place) (pieces_cut bs place cut) in
        let count : (place.address + place.width) - place.address ≡ place.width = omega arith in
        subst (IsKnownFrom look place.address) count known

    known_read : (look : ℕ → Option CellContent) (place : Place) → IsCut bs place → read_in place look ≡ read_from 1 look place.address place.width
    known_read look place cut = ap (read_from place.width look place.address) (wide_cells place.width cut.wide) ∙ read_width place.width cut.wide look place.address place.width

    parts_read : (look view : ℕ → Option CellContent) → IsSeenSame bs look view → (place : Place) (v : ℕ) → IsCut bs place → IsRead place look v →
        IsReadBy view place v
    parts_read look view same place v cut read =
        let known = place_known look view same place cut in
        let is : known.value ≡ v = read known.value (known_read look place cut ∙ known.is) in
        parts_seen bs look view same place.address place.width v (known.is ∙ ap Some is) (pieces_of bs place)
        (pieces_in bs place.address place.address (place.address + place.width) (pieces_of bs place) (omega arith) (pieces_cut bs place cut))

    -- memories that have the same cells
    memory_like : (m n m_next n_next : Memory) → IsSameMemory bs m n → ((b : ℕ) → m_next b ≡ m b) → ((b : ℕ) → n_next b ≡ n b) → IsSameMemory bs m_next n_next
    memory_like m n m_next n_next same left right start count piece =
        let here = same start count piece in
        record {
          value = here.value;
          bytes = read_same (sees m_next []) (sees m []) start count (λ b from below. ap seen_in (left b)) ∙ here.bytes;
          whole = ap (λ c. value_seen (seen_in c)) (right start) ∙ here.whole;
        }

    -- a load, of a state that is no other
    load : (s_next : MachineState) → ((b : ℕ) → s_next.memory b ≡ s.memory b) → ((q : ℕ) → IsSame s_next s q) → (place : Place) (v : ℕ) → IsCut bs place → IsRead place (view_of s p) v →
        SplitStep order p n s_next t (Load place v)
    load s_next memory same place v cut read =
        let ps = pieces_of bs place in
        let low = low_pieces bs place in
        let steps = steps_of (λ place r x. Load place x) place.address v v ps low in
        let led = loads order p place.address v ps low (8 * n) t (parts_read (view_of s p) (view_of t p) seen place v cut read) in
        let led_split = subst (λ ws. Leads order p (8 * n) t steps ws (IsKept t.memory)) (split.waits p) led in
        let after = split_led bs order p (8 * n) steps s t s (IsKept t.memory) split led_split
        (memory_like s.memory t.memory s.memory led_split.to.memory split.memory (λ b. refl) led_split.becomes) refl (λ q other. (refl, refl)) (split.cut p) in
        record {
          steps = steps;
          to = led_split.to;
          follows = led_split.follows;
          split = split_same bs s led_split.to s_next led_split.to after
              (memory_like s.memory t.memory s_next.memory led_split.to.memory split.memory memory led_split.becomes) same (λ q. (refl, refl));
          few = few_steps (λ place r x. Load place x) place v v cut;
          locations = steps_located (λ place r x. Load place x) (λ place r x at. at) place.address v v ps low;
          said = steps_said (λ place r x. Load place x) p place.address v v (Ld place.address v) (λ piece within. refl) ps low;
        }

    store : (place : Place) (v : ℕ) → IsCut bs place → SplitStep order p n (next_state n p (Store place v) s) t (Store place v)
    store place v cut =
        let ps = pieces_of bs place in
        let low = low_pieces bs place in
        let x = with_store n place v (processor_in s p) in
        let s_next = with_processor s p x in
        let own = own_processor s p x there in
        let w : WaitingStore = record { store = n; place = place; value = v; stbar = tag_of s p } in
        let waits_next : waits_of s_next p ≡ waits_of s p ++ w ∷ [] = ap (λ (y : ProcessorState). y.waits) own in
        let steps = steps_of (λ place r x. Store place x) place.address v v ps low in
        let led = stores order p (split_waits bs (waits_of s p)) (8 * tag_of s p) place.address v ps low (8 * n) t (split.waits p) (split.tags p) in
        let is : split_waits bs (waits_of s p) ++ waits_for bs w ≡ split_waits bs (waits_of s_next p) =
        ap (λ ws. split_waits bs (waits_of s p) ++ ws) (sym (append-nil (waits_for bs w))) ∙ sym (split-append bs (waits_of s p) (w ∷ [])) ∙ ap (split_waits bs) (sym waits_next) in
        let led_split = subst (λ ws. Leads order p (8 * n) t steps ws (IsKept t.memory)) is led in
        record {
          steps = steps;
          to = led_split.to;
          follows = led_split.follows;
          split = split_led bs order p (8 * n) steps s t s_next (IsKept t.memory) split led_split
              (memory_like s.memory t.memory s.memory led_split.to.memory split.memory (λ b. refl) led_split.becomes)
              (ap (λ (y : ProcessorState). y.stbar) own) (λ q other. other_processor s p x q other)
              (subst (AreCutWaits bs) (sym waits_next) (all-append (λ y. IsCut bs y.place) (waits_of s p) (w ∷ []) (split.cut p) (cut, tt)));
          few = few_steps (λ place r x. Store place x) place v v cut;
          locations = steps_located (λ place r x. Store place x) (λ place r x at. at) place.address v v ps low;
          said = steps_said (λ place r x. Store place x) p place.address v v (St place.address v) (λ piece within. refl) ps low;
        }

    -- ---- stores that reach memory at once

    at_once : (f : Place → ℕ → ℕ → RunStep) → ((place : Place) (r v : ℕ) (t : MachineState) → waits_of t p ≡ [] → IsRead place (sees t.memory []) r → MayStep order p (f place r v) t) →
        ((n : ℕ) (place : Place) (r v : ℕ) (t : MachineState) → next_state n p (f place r v) t ≡ storing n p place v t) → (place : Place) (r v : ℕ) → IsCut bs place → waits_of s p ≡ [] →
        IsRead place (sees s.memory []) r →
        AtOnce order p n (storing n p place v s) t (steps_of f place.address r v (pieces_of bs place) (low_pieces bs place))
    at_once f may next place r v cut none read =
        let ps = pieces_of bs place in
        let low = low_pieces bs place in
        let stop = place.address + place.width in
        let w : WaitingStore = record { store = n; place = place; value = v; stbar = 0 } in
        let s_next = storing n p place v s in
        let kept = reaching_same n p w s in
        let none_next : waits_of s_next p ≡ [] = (kept p).0 ∙ none in
        let steps = steps_of f place.address r v ps low in
        let Put = ArePut bs place.address v place.address stop t.memory in
        let led = writes order p bs f may next place.address r v place.address stop ps low (pieces_cut bs place cut) (8 * n) t (split.waits p ∙ ap (split_waits bs) none)
        (parts_read (sees s.memory []) (sees t.memory []) split.memory place r cut read) in
        let led_split = subst (λ ws. Leads order p (8 * n) t steps ws Put) (sym (ap (split_waits bs) none_next)) led in
        record {
          to = led_split.to;
          follows = led_split.follows;
          split = split_led bs order p (8 * n) steps s t s_next Put split led_split
              (put_same bs (λ x. Stored x n n) (λ x. refl) place v cut s.memory t.memory led_split.to.memory split.memory led_split.becomes)
              (kept p).1 (λ q other. kept q) (subst (AreCutWaits bs) (sym none_next) tt);
        }

    write : (place : Place) (v : ℕ) → IsCut bs place → waits_of s p ≡ [] → SplitStep order p n (storing n p place v s) t (Write place v)
    write place v cut none =
        let known = place_known (sees s.memory []) (sees t.memory []) split.memory place cut in
        let r = known.value in
        let done = at_once (λ place r x. Write place x) (λ place r x t none read. none) (λ n place r x t. refl) place r v cut none
        (λ has is. some_same has r (sym is ∙ known_read (sees s.memory []) place cut ∙ known.is)) in
        record {
          steps = steps_of (λ place r x. Write place x) place.address r v (pieces_of bs place) (low_pieces bs place);
          to = done.to;
          follows = done.follows;
          split = done.split;
          few = few_steps (λ place r x. Write place x) place r v cut;
          locations = steps_located (λ place r x. Write place x) (λ place r x at. at) place.address r v (pieces_of bs place) (low_pieces bs place);
          said = steps_said (λ place r x. Write place x) p place.address r v (St place.address v) (λ piece within. refl) (pieces_of bs place) (low_pieces bs place);
        }
      where
        some_same : (x y : ℕ) → Some x ≡ Some y → x ≡ y
        some_same x y is = cc

    swap : (place : Place) (r v : ℕ) → IsCut bs place → waits_of s p ≡ [] → IsRead place (sees s.memory []) r → SplitStep order p n (storing n p place v s) t (Swap place r v)
    swap place r v cut none read =
        let done = at_once (λ place r x. Swap place r x) (λ place r x t none read. (none, read)) (λ n place r x t. refl) place r v cut none read in
        record {
          steps = steps_of (λ place r x. Swap place r x) place.address r v (pieces_of bs place) (low_pieces bs place);
          to = done.to;
          follows = done.follows;
          split = done.split;
          few = few_steps (λ place r x. Swap place r x) place r v cut;
          locations = steps_located (λ place r x. Swap place r x) (λ place r x at. at) place.address r v (pieces_of bs place) (low_pieces bs place);
          said = steps_said (λ place r x. Swap place r x) p place.address r v (Sw place.address r v) (λ piece within. refl) (pieces_of bs place) (low_pieces bs place);
        }

    -- ---- drains

    apart_sides : (a m b n : ℕ) → cond (nat_le a b) (nat_lt (b - a) m) (nat_lt (a - b) n) ≡ false → (a + m ≤ b) ⊎ (b + n ≤ a)
    apart_sides a m b n is = elim (cases_lt b a) [
      | inl below ↦ inr (grind (arith, nat_tests))
      | inr above ↦ inl (grind (arith, nat_tests))
    ]

    pieces_pass : (a v line tag from stop : ℕ) (ps : List (ℕ × ℕ)) (low : AreLow ps) → ArePieces bs from stop ps → (start top : ℕ) → (stop ≤ start) ⊎ (top ≤ from) →
        AllByRecursion (Passes order p bs Pso tag start top) (waits_from a v line tag ps low)
    pieces_pass a v line tag from stop [] low are start top sides = tt
    pieces_pass a v line tag from stop (piece ∷ ps) low are start top sides =
        let most = pieces_stop bs (piece.0 + piece.1) stop ps are.2 in (
          (elim sides [ inl before ↦ inl (omega (arith, before, most, are.1.some)) | inr past ↦ inr (omega (arith, past, are.0)) ], refl, refl),
          pieces_pass a v (suc line) tag (piece.0 + piece.1) stop ps low.1 are.2 start top
              (elim sides [ inl before ↦ inl before | inr past ↦ inr (omega (arith, past, are.0)) ]),
        )

    older_pass_pso : (w : WaitingStore) → IsCut bs w.place → (older : List WaitingStore) → AreCutWaits bs older → AllByRecursion (λ x. keeps_back Pso w x ≡ false) older →
        AllByRecursion (Passes order p bs Pso (8 * w.stbar) w.place.address (w.place.address + w.place.width)) (split_waits bs older)
    older_pass_pso w cut [] cuts passes = tt
    older_pass_pso w cut (x ∷ older) cuts passes =
        let both = or_parts (overlaps x.place w.place) (not (x.stbar == w.stbar)) passes.0 in
        let same : x.stbar ≡ w.stbar = eqb-true x.stbar w.stbar (not-false (x.stbar == w.stbar) both.1) in
        let sides = apart_sides x.place.address (cell_count x.place) w.place.address (cell_count w.place) both.0 in
        let cells = wide_cells x.place.width cuts.0.wide in
        let cells_w = wide_cells w.place.width cut.wide in
        let stop = w.place.address + w.place.width in
        all-append (Passes order p bs Pso (8 * w.stbar) w.place.address stop) (waits_for bs x) (split_waits bs older)
        (subst (λ tag. AllByRecursion (Passes order p bs Pso (8 * tag) w.place.address stop) (waits_for bs x)) same
        (pieces_pass x.place.address x.value (8 * x.store) (8 * x.stbar) x.place.address (x.place.address + x.place.width) (pieces_of bs x.place) (low_pieces bs x.place) (pieces_cut bs x.place cuts.0)
        w.place.address stop (elim sides [ inl before ↦ inl (omega (arith, before, cells)) | inr past ↦ inr (omega (arith, past, cells_w)) ])))
        (older_pass_pso w cut older cuts.1 passes.1)

    older_pass : (model : Order) (w : WaitingStore) → IsCut bs w.place → (older : List WaitingStore) → AreCutWaits bs older → AllByRecursion (λ x. keeps_back model w x ≡ false) older →
        AllByRecursion (Passes order p bs model (8 * w.stbar) w.place.address (w.place.address + w.place.width)) (split_waits bs older)
    older_pass Pso w cut older cuts passes = older_pass_pso w cut older cuts passes
    older_pass Tso w cut older cuts passes =
        subst (λ ws. AllByRecursion (Passes order p bs Tso (8 * w.stbar) w.place.address (w.place.address + w.place.width)) (split_waits bs ws)) (sym (none_older w older passes)) tt

    drain : (at : Option Place) (value : Option ℕ) → MayDrain order at (waits_of s p) value → SplitStep order p n (next_state n p (Drain at value) s) t (Drain at value)
    drain at value may =
        let waits = waits_of s p in
        let k = may.number in
        let w = may.store in
        let place = w.place in
        let parts = parted_at waits k w may.waits_there in
        let x : ProcessorState = record (processor_in s p) { waits = remove waits k } in
        let s_less = with_waits s p (remove waits k) in
        let s_next = reaching n p w s_less in
        let kept = reaching_same n p w s_less in
        let own = own_processor s p x there in
        let is : next_state n p (Drain at value) s ≡ s_next =
        ap (λ o. option_map_or (λ n_at. draining n p n_at s) o s) may.is ∙ ap (λ o. option_map_or (λ y. reaching n p y s_less) o s) may.waits_there in
        let cuts = all-parts (λ y. IsCut bs y.place) parts.older w parts.newer (subst (AreCutWaits bs) parts.is (split.cut p)) in
        let waits_next : waits_of s_next p ≡ parts.older ++ parts.newer = (kept p).0 ∙ ap (λ (y : ProcessorState). y.waits) own ∙ parts.removed in
        let ps = pieces_of bs place in
        let low = low_pieces bs place in
        let stop = place.address + place.width in
        let Put = ArePut bs place.address w.value place.address stop t.memory in
        let steps = steps_of (λ place r y. Drain (Some place) None) place.address w.value w.value ps low in
        let led = drains order p bs (8 * w.stbar) place.address w.value (8 * w.store) place.address stop ps low (pieces_cut bs place cuts.1) (split_waits bs parts.older)
        (split_waits bs parts.newer) (8 * n) t
        (older_pass order w cuts.1 parts.older cuts.0 (subst (λ ws. AllByRecursion (λ y. keeps_back order w y ≡ false) ws) parts.taken may.passes))
        (split.waits p ∙ ap (split_waits bs) parts.is ∙ split-append bs parts.older (w ∷ parts.newer)) in
        let led_split = subst (λ ws. Leads order p (8 * n) t steps ws Put) (sym (split-append bs parts.older parts.newer) ∙ ap (split_waits bs) (sym waits_next)) led in
        record {
          steps = steps;
          to = led_split.to;
          follows = led_split.follows;
          split = subst (λ u. Split bs u led_split.to) (sym is)
              (split_led bs order p (8 * n) steps s t s_next Put split led_split
              (put_same bs (λ x. Stored x w.store n) (λ x. refl) place w.value cuts.1 s.memory t.memory led_split.to.memory split.memory led_split.becomes)
              ((kept p).1 ∙ ap (λ (y : ProcessorState). y.stbar) own)
              (λ q other. same_after s_next s_less s q (kept q) (other_processor s p x q other))
              (subst (AreCutWaits bs) (sym waits_next) (all-append (λ y. IsCut bs y.place) parts.older parts.newer cuts.0 cuts.2)));
          few = few_steps (λ place r y. Drain (Some place) None) place w.value w.value cuts.1;
          locations = steps_located (λ place r y. Drain (Some place) None) (λ place r y at. at) place.address w.value w.value ps low;
          said = steps_silent (λ place r y. Drain (Some place) None) p (λ place r y. refl) place.address w.value w.value ps low;
        }

    -- ---- all steps

    reserved : (place : Place) (v : ℕ) → IsCut bs place → waits_of s p ≡ [] → SplitStep order p n (with_reserved (storing n p place v s) p None) t (StoreReserved place v)
    reserved place v cut none =
        let done = write place v cut none in
        record {
          steps = done.steps;
          to = done.to;
          follows = done.follows;
          split = split_same bs (storing n p place v s) done.to (with_reserved (storing n p place v s) p None) done.to done.split done.split.memory
              (reserved_same (storing n p place v s) p None) (λ q. (refl, refl));
          few = done.few;
          locations = done.locations;
          said = done.said;
        }

    barrier : waits_of s p ≡ [] → SplitStep order p n s t Membar
    barrier none = record {
      steps = Membar ∷ [];
      to = admitted p t;
      follows = ((admitted_same p t p).0 ∙ split.waits p ∙ ap (split_waits bs) none, refl);
      split = split_same bs s t s (admitted p t) split split.memory (λ q. (refl, refl)) (admitted_same p t);
      few = omega arith;
      locations = (tt, tt);
      said = refl;
    }

    stbar : SplitStep order p n (next_state n p Stbar s) t Stbar
    stbar =
        let t_in = admitted p t in
        let x : ProcessorState = record (processor_in s p) { stbar = n } in
        let y : ProcessorState = record (processor_in t_in p) { stbar = 8 * n } in
        let s_next = with_processor s p x in
        let t_next = with_processor t_in p y in
        let own_s = own_processor s p x there in
        let own_t = own_processor t_in p y (admitted_within p t) in
        record {
          steps = Stbar ∷ [];
          to = t_next;
          follows = (tt, refl);
          split = record {
            memory = split.memory;
            waits = λ q. elim (cases_eq q p) [
              | inl same ↦
                  ap (waits_of t_next) same ∙ ap (λ (z : ProcessorState). z.waits) own_t ∙ (admitted_same p t p).0 ∙ split.waits p
                  ∙ ap (λ (z : ProcessorState). split_waits bs z.waits) (sym own_s) ∙ ap (λ r. split_waits bs (waits_of s_next r)) (sym same)
              | inr other ↦
                  (other_processor t_in p y q other).0 ∙ (admitted_same p t q).0 ∙ split.waits q ∙ ap (split_waits bs) (sym (other_processor s p x q other).0)
            ];
            tags = λ q. elim (cases_eq q p) [
              | inl same ↦
                  ap (tag_of t_next) same ∙ ap (λ (z : ProcessorState). z.stbar) own_t ∙ ap (λ (z : ProcessorState). 8 * z.stbar) (sym own_s)
                  ∙ ap (λ r. 8 * tag_of s_next r) (sym same)
              | inr other ↦
                  (other_processor t_in p y q other).1 ∙ (admitted_same p t q).1 ∙ split.tags q ∙ ap (λ m. 8 * m) (sym (other_processor s p x q other).1)
            ];
            cut = λ q. elim (cases_eq q p) [
              | inl same ↦
                  subst (λ r. AreCutWaits bs (waits_of s_next r)) (sym same)
                  (subst (λ (z : ProcessorState). AreCutWaits bs z.waits) (sym own_s) (split.cut p))
              | inr other ↦ subst (AreCutWaits bs) (sym (other_processor s p x q other).0) (split.cut q)
            ];
          };
          few = omega arith;
          locations = (tt, tt);
          said = refl;
        }

    pub split_step : (step : RunStep) → IsAtBytes step → IsCutStep bs p step → MayStep order p step s → SplitStep order p n (next_state n p step s) t step
    split_step (Load place v) bytes cut may = load s (λ b. refl) (λ q. (refl, refl)) place v (place_cut bs place (told_by p (Load place v)) bytes refl cut) may
    split_step (Store place v) bytes cut may = store place v (place_cut bs place (told_by p (Store place v)) bytes refl cut)
    split_step (Drain at v) bytes cut may = drain at v may
    split_step (Write place v) bytes cut may = write place v (place_cut bs place (told_by p (Write place v)) bytes refl cut) may
    split_step (Swap place r v) bytes cut may = swap place r v (place_cut bs place (told_by p (Swap place r v)) bytes refl cut) may.0 may.1
    split_step (Reserve place v) bytes cut may =
        let r = Some (record { place = place; taken = None }) in
        let done = load (with_reserved s p r) (λ b. refl) (reserved_same s p r) place v (place_cut bs place (told_by p (Reserve place v)) bytes refl cut) may in
        record { steps = done.steps; to = done.to; follows = done.follows; split = done.split; few = done.few; locations = done.locations; said = done.said }
    split_step (StoreReserved place v) bytes cut may = reserved place v (place_cut bs place (told_by p (StoreReserved place v)) bytes refl cut) may.0
    split_step Membar bytes cut may = barrier may
    split_step Stbar bytes cut may = stbar
    split_step (Unknown place) bytes cut may = absurd (omega (arith, bytes))
    split_step (Last place v) bytes cut may = record { steps = []; to = t; follows = refl; split = split; few = omega arith; locations = tt; said = refl }
