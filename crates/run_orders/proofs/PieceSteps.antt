-- Steps of a run at bytes are steps at each piece as a location.
use Rattle.std.proofs.Common.{◌≡◌, ◌∙◌, sym, ap, refl, subst, inl, inr, ℕ, suc, ◌+◌, ◌-◌, ◌^◌, ◌<◌, ◌≤◌, ◌⊎◌, ◌||◌, ◌&&◌, ◌==◌, not, Bool, true, false, cond, nat_le, nat_lt, Option, None, Some, List, [], ◌∷◌, ◌++◌, length, take, slice_get, append_assoc, append-nil, length-append, arith}
use Rattle.std.specs.List.{AllByRecursion, position, position_or_len, remove}
use Rattle.std.specs.Option.{option_map_or}
use Rattle.std.proofs.lemmas.Bool.{cases_eq, eq-eqb, ne_eqb}
use Rattle.std.proofs.lemmas.Bool.Decides.{nat_tests}
use Rattle.tso_ops.specs.declared.settings.Order.{Order}
use Rattle.tso_ops.specs.declared.settings.Order.TheVariants.{Tso, Pso}
use Rattle.run_steps.specs.declared.cells.Cell.{Cell}
use Rattle.run_steps.specs.declared.cells.Cell.TheVariants.{Stored}
use Rattle.run_steps.specs.declared.places.Place.{Place}
use Rattle.run_steps.specs.declared.processors.WaitingStore.{WaitingStore}
use Rattle.run_steps.specs.declared.refusals.CellContent.{CellContent}
use Rattle.run_steps.specs.declared.steps.RunStep.{RunStep}
use Rattle.run_steps.specs.declared.steps.RunStep.TheVariants.{Load, Store, Drain}
use Rattle.run_steps.specs.Machine.{ProcessorState, MachineState, admitted, draining, keeps_back, next_state, processor_in, reaching, storing, view_of, waits_of, with_processor, with_store, with_waits}
use Rattle.run_steps.specs.Places.{is_place}
use Rattle.run_steps.specs.Widths.{cells_of}
use Rattle.run_steps.specs.Reads.{Memory, seen_in, sees, with_cell}
use Rattle.run_steps.specs.Steps.{IsRead, MayStep}
use Rattle.log_text.specs.Splits.{piece_value}
use Rattle.run_orders.proofs.Waiting.{read_location, value_seen}
use Rattle.run_orders.proofs.Lists.{all_map, get_between, remove_between}
use Rattle.run_orders.proofs.States.{IsSame, admitted_same, admitted_within, other_processor, own_processor, reaching_same, same_after, tag_of, with_cell_here, with_cell_other}
use Rattle.log_text.proofs.PieceFacts.{ArePieces, IsPiece, one_piece, pieces_apart, pieces_stop}
use Rattle.run_orders.proofs.Pieces.{AreLow, location, steps_of, waits_from}

-- the steps of processor p, numbered from a number on, may be taken one after the other, and lead to a state
abbrev pub Follows : Order → ℕ → ℕ → MachineState → List RunStep → MachineState → Type 0
Follows order p n t [] to = to ≡ t
Follows order p n t (x ∷ xs) to = MayStep order p x (admitted p t) × Follows order p (suc n) (next_state n p x (admitted p t)) xs to

-- They lead to a state in which these stores of the processor wait, and memory is so.
pub record Leads (order : Order) (p n : ℕ) (t : MachineState) (steps : List RunStep) (waits : List WaitingStore) (Becomes : Memory → Type 0) : Type 0 where
  pub to : MachineState
  pub follows : Follows order p n t steps to
  pub waits_left : waits_of to p ≡ waits
  pub tag : tag_of to p ≡ tag_of t p
  pub others : (q : ℕ) → (q ≡ p → ⊥) → IsSame to t q
  pub becomes : Becomes to.memory

-- memory is as before
abbrev pub IsKept : Memory → Memory → Type 0
IsKept before after = (b : ℕ) → after b ≡ before b

-- Memory is as before but for pieces of a place at an address, from one address up to another: each holds its part of a value.
pub record ArePut (bs : List ℕ) (a v from stop : ℕ) (before after : Memory) : Type 0 where
  pub inside : (start count : ℕ) → IsPiece bs start count → from ≤ start → start < stop → value_seen (seen_in (after start)) ≡ Some (piece_value a v (start, count))
  pub outside : (start : ℕ) → (start < from) ⊎ (stop ≤ start) → after start ≡ before start

-- what is seen is what a location that is read has
read_seen : (a : ℕ) (within : a + 1 ≤ 2 ^ 64) (look : ℕ → Option CellContent) (v : ℕ) → value_seen (look a) ≡ Some v → IsRead (location a within) look v
read_seen a within look v seen has is =
    let found = read_location (location a within) look v refl seen in
    let same : Some has ≡ Some v = sym is ∙ found in
    cc

module _ (order : Order) (p : ℕ) where
  led_next : (n : ℕ) (t : MachineState) (x : RunStep) (xs : List RunStep) (waits : List WaitingStore) (Becomes : Memory → Type 0) → MayStep order p x (admitted p t) →
      tag_of (next_state n p x (admitted p t)) p ≡ tag_of (admitted p t) p → ((q : ℕ) → (q ≡ p → ⊥) → IsSame (next_state n p x (admitted p t)) (admitted p t) q) →
      Leads order p (suc n) (next_state n p x (admitted p t)) xs waits Becomes → Leads order p n t (x ∷ xs) waits Becomes
  led_next n t x xs waits Becomes may tag others rest = record {
    to = rest.to;
    follows = (may, rest.follows);
    waits_left = rest.waits_left;
    tag = rest.tag ∙ tag ∙ (admitted_same p t p).1;
    others = λ q other.
        let after = next_state n p x (admitted p t) in
        same_after rest.to after t q (rest.others q other) (same_after after (admitted p t) t q (others q other) (admitted_same p t q));
    becomes = rest.becomes;
  }

  led_so : (n : ℕ) (t : MachineState) (xs : List RunStep) (waits : List WaitingStore) (First Second : Memory → Type 0) → ((m : Memory) → First m → Second m) →
      Leads order p n t xs waits First → Leads order p n t xs waits Second
  led_so n t xs waits First Second change led =
      record { to = led.to; follows = led.follows; waits_left = led.waits_left; tag = led.tag; others = led.others; becomes = change led.to.memory led.becomes }

  view_admitted : (t : MachineState) (b : ℕ) → view_of (admitted p t) p b ≡ view_of t p b
  view_admitted t b = ap (λ ws. sees t.memory ws b) (admitted_same p t p).0

  -- ---- loads

  pub loads : (a v : ℕ) (ps : List (ℕ × ℕ)) (low : AreLow ps) (n : ℕ) (t : MachineState) → AllByRecursion (λ piece. value_seen (view_of t p piece.0) ≡ Some (piece_value a v piece)) ps →
      Leads order p n t (steps_of (λ place r x. Load place x) a v v ps low) (waits_of t p) (IsKept t.memory)
  loads a v [] low n t seen = record { to = t; follows = refl; waits_left = refl; tag = refl; others = λ q other. (refl, refl); becomes = λ b. refl }
  loads a v (piece ∷ ps) low n t seen =
      let t_in = admitted p t in
      let steps = steps_of (λ place r x. Load place x) a v v ps low.1 in
      let rest = loads a v ps low.1 (suc n) t_in
      (all_map (λ y. value_seen (view_of t p y.0) ≡ Some (piece_value a v y)) (λ y. value_seen (view_of t_in p y.0) ≡ Some (piece_value a v y))
      (λ y is. ap value_seen (view_admitted t y.0) ∙ is) ps seen.1) in
      led_next n t (Load (location piece.0 low.0) (piece_value a v piece)) steps (waits_of t p) (IsKept t.memory)
      (read_seen piece.0 low.0 (view_of t_in p) (piece_value a v piece) (ap value_seen (view_admitted t piece.0) ∙ seen.0))
      refl (λ q other. (refl, refl))
      (subst (λ ws. Leads order p (suc n) t_in steps ws (IsKept t.memory)) (admitted_same p t p).0 rest)

  -- ---- stores

  pub stores : (waits : List WaitingStore) (tag a v : ℕ) (ps : List (ℕ × ℕ)) (low : AreLow ps) (n : ℕ) (t : MachineState) → waits_of t p ≡ waits → tag_of t p ≡ tag →
      Leads order p n t (steps_of (λ place r x. Store place x) a v v ps low) (waits ++ waits_from a v n tag ps low) (IsKept t.memory)
  stores waits tag a v [] low n t is tagged =
      record { to = t; follows = refl; waits_left = is ∙ sym (append-nil waits); tag = refl; others = λ q other. (refl, refl); becomes = λ b. refl }
  stores waits tag a v (piece ∷ ps) low n t is tagged =
      let t_in = admitted p t in
      let place = location piece.0 low.0 in
      let value = piece_value a v piece in
      let x = with_store n place value (processor_in t_in p) in
      let t_one = with_processor t_in p x in
      let w : WaitingStore = record { store = n; place = place; value = value; stbar = tag } in
      let own = own_processor t_in p x (admitted_within p t) in
      let tag_in : tag_of t_in p ≡ tag = (admitted_same p t p).1 ∙ tagged in
      let waits_one : waits_of t_one p ≡ waits ++ w ∷ [] =
      ap (λ (y : ProcessorState). y.waits) own
      ∙ ap (λ m. waits_of t_in p ++ record { store = n; place = place; value = value; stbar = m } ∷ []) tag_in
      ∙ ap (λ ws. ws ++ w ∷ []) ((admitted_same p t p).0 ∙ is) in
      let tag_one : tag_of t_one p ≡ tag_of t_in p = ap (λ (y : ProcessorState). y.stbar) own in
      let rest_steps = steps_of (λ place r x. Store place x) a v v ps low.1 in
      let rest_waits = waits_from a v (suc n) tag ps low.1 in
      led_next n t (Store place value) rest_steps (waits ++ w ∷ rest_waits) (IsKept t.memory) tt tag_one (λ q other. other_processor t_in p x q other)
      (subst (λ ws. Leads order p (suc n) t_one rest_steps ws (IsKept t.memory)) (append_assoc waits (w ∷ []) rest_waits)
      (stores (waits ++ w ∷ []) tag a v ps low.1 (suc n) t_one waits_one (tag_one ∙ tag_in)))

  module _ (bs : List ℕ) where
    -- ---- one piece of memory

    none_put : (a v from stop : ℕ) (m : Memory) → from ≡ stop → ArePut bs a v from stop m m
    none_put a v from stop m are = record { inside = λ start count piece above below. absurd (omega (arith, above, below, are)); outside = λ start out. refl }

    -- one more, before these
    put_next : (a v from stop : ℕ) (first : ℕ × ℕ) (cell : Cell) (m after : Memory) → first.0 ≡ from → IsPiece bs first.0 first.1 → first.0 + first.1 ≤ stop →
        value_seen (seen_in cell) ≡ Some (piece_value a v first) → ArePut bs a v (first.0 + first.1) stop (with_cell m first.0 cell) after → ArePut bs a v from stop m after
    put_next a v from stop first cell m after at piece most is rest = record {
      inside = λ start count here above below. elim (cases_eq first.0 start) [
        | inl same ↦
            let counts : first.1 ≡ count = one_piece bs start first.1 count (subst (λ b. IsPiece bs b first.1) same piece) here in
            ap (λ c. value_seen (seen_in c)) (rest.outside start (inl (omega (arith, same, piece.some))) ∙ with_cell_here m first.0 cell start same)
            ∙ is ∙ ap (λ b. Some (piece_value a v (b, first.1))) same ∙ ap (λ k. Some (piece_value a v (start, k))) counts
        | inr differs ↦ rest.inside start count here (pieces_apart bs first.0 first.1 start count piece here (omega (arith, at, above, differs))) below
      ];
      outside = λ start out.
          let differs : first.0 ≡ start → ⊥ = λ same. elim out [ inl before ↦ omega (arith, same, before, at) | inr past ↦ omega (arith, same, past, most, piece.some) ] in
          rest.outside start (elim out [ inl before ↦ inl (omega (arith, before, at)) | inr past ↦ inr past ]) ∙ with_cell_other m first.0 cell start differs;
    }

    -- ---- stores that reach memory at once

    -- pieces from an address on aren't changed by a cell before it
    seen_past : (m : Memory) (b : ℕ) (c : Cell) (a r from stop : ℕ) (ps : List (ℕ × ℕ)) → b < from → ArePieces bs from stop ps →
        AllByRecursion (λ piece. value_seen (seen_in (m piece.0)) ≡ Some (piece_value a r piece)) ps →
        AllByRecursion (λ piece. value_seen (seen_in (with_cell m b c piece.0)) ≡ Some (piece_value a r piece)) ps
    seen_past m b c a r from stop [] less are seen = tt
    seen_past m b c a r from stop (piece ∷ ps) less are seen = (
      ap (λ cell. value_seen (seen_in cell)) (with_cell_other m b c piece.0 (λ same. omega (arith, same, less, are.0))) ∙ seen.0,
      seen_past m b c a r (piece.0 + piece.1) stop ps (omega (arith, less, are.0)) are.2 seen.1,
    )

    module _ (f : Place → ℕ → ℕ → RunStep)
        (may : (place : Place) (r v : ℕ) (t : MachineState) → waits_of t p ≡ [] → IsRead place (sees t.memory []) r → MayStep order p (f place r v) t)
        (next : (n : ℕ) (place : Place) (r v : ℕ) (t : MachineState) → next_state n p (f place r v) t ≡ storing n p place v t) where
      pub writes : (a r v from stop : ℕ) (ps : List (ℕ × ℕ)) (low : AreLow ps) → ArePieces bs from stop ps → (n : ℕ) (t : MachineState) → waits_of t p ≡ [] →
          AllByRecursion (λ piece. value_seen (seen_in (t.memory piece.0)) ≡ Some (piece_value a r piece)) ps →
          Leads order p n t (steps_of f a r v ps low) [] (ArePut bs a v from stop t.memory)
      writes a r v from stop [] low are n t none seen =
          record { to = t; follows = refl; waits_left = none; tag = refl; others = λ q other. (refl, refl); becomes = none_put a v from stop t.memory are }
      writes a r v from stop (piece ∷ ps) low are n t none seen =
          let t_in = admitted p t in
          let place = location piece.0 low.0 in
          let read = piece_value a r piece in
          let value = piece_value a v piece in
          let t_one = storing n p place value t_in in
          let w : WaitingStore = record { store = n; place = place; value = value; stbar = 0 } in
          let kept = reaching_same n p w t_in in
          let most = pieces_stop bs (piece.0 + piece.1) stop ps are.2 in
          let steps = steps_of f a r v ps low.1 in
          let rest = writes a r v (piece.0 + piece.1) stop ps low.1 are.2 (suc n) t_one ((kept p).0 ∙ (admitted_same p t p).0 ∙ none)
          (seen_past t.memory piece.0 (Stored value n n) a r (piece.0 + piece.1) stop ps (omega (arith, are.1.some)) are.2 seen.1) in
          let is = next n place read value t_in in
          led_next n t (f place read value) steps [] (ArePut bs a v from stop t.memory)
          (may place read value t_in ((admitted_same p t p).0 ∙ none) (read_seen piece.0 low.0 (sees t.memory []) read seen.0))
          (ap (λ u. tag_of u p) is ∙ (kept p).1) (λ q other. subst (λ u. IsSame u t_in q) (sym is) (kept q))
          (subst (λ u. Leads order p (suc n) u steps [] (ArePut bs a v from stop t.memory)) (sym is)
          (led_so (suc n) t_one steps [] (ArePut bs a v (piece.0 + piece.1) stop t_one.memory) (ArePut bs a v from stop t.memory)
          (λ m put. put_next a v from stop piece (Stored value n n) t.memory m are.0 are.1 (omega (arith, most)) refl put) rest))

    -- ---- drains

    -- the store is of another location than these, and the newer one of the tag may pass it
    abbrev pub Passes : Order → ℕ → ℕ → ℕ → WaitingStore → Type 0
    Passes Tso tag from stop x = 0 < 0
    Passes Pso tag from stop x = ((x.place.address < from) ⊎ (stop ≤ x.place.address)) × (x.place.width ≡ 0) × (x.stbar ≡ tag)

    passes_next : (model : Order) (tag from next stop : ℕ) → from ≤ next → (x : WaitingStore) → Passes model tag from stop x → Passes model tag next stop x
    passes_next Tso tag from next stop more x none = none
    passes_next Pso tag from next stop more x passes = (elim passes.0 [ inl before ↦ inl (omega (arith, before, more)) | inr past ↦ inr past ], passes.1, passes.2)

    apart_places : (x w width : ℕ) → width ≡ 0 → (x ≡ w → ⊥) → cond (nat_le x w) (nat_lt (w - x) (cells_of width)) (nat_lt (x - w) 1) ≡ false
    apart_places x w width none other =
        let one : cells_of width ≡ 1 = ap cells_of none in
        grind (arith, nat_tests)

    passes_kept : (model : Order) (tag from stop v number : ℕ) → from < stop → (within : from + 1 ≤ 2 ^ 64) (x : WaitingStore) → Passes model tag from stop x →
        keeps_back model (record { store = number; place = location from within; value = v; stbar = tag }) x ≡ false
    passes_kept Tso tag from stop v number some within x none = absurd (omega (arith, none))
    passes_kept Pso tag from stop v number some within x passes =
        let differs : x.place.address ≡ from → ⊥ = λ same. elim passes.0 [ inl before ↦ omega (arith, same, before) | inr past ↦ omega (arith, same, past, some) ] in
        ap (λ b. b || not (x.stbar == tag)) (apart_places x.place.address from x.place.width passes.1 differs) ∙ ap not (eq-eqb x.stbar tag passes.2)

    passes_other : (model : Order) (tag from stop : ℕ) → from < stop → (within : from + 1 ≤ 2 ^ 64) (x : WaitingStore) → Passes model tag from stop x →
        is_place (location from within) x.place ≡ false
    passes_other Tso tag from stop some within x none = absurd (omega (arith, none))
    passes_other Pso tag from stop some within x passes =
        let differs : from ≡ x.place.address → ⊥ = λ same. elim passes.0 [ inl before ↦ omega (arith, same, before) | inr past ↦ omega (arith, same, past, some) ] in
        ap (λ b. b && (0 == x.place.width)) (ne_eqb from x.place.address differs)

    below_tells : (m n : ℕ) → m < n → nat_lt m n ≡ true
    below_tells m n less = grind (arith, nat_tests)

    first_at : (test : WaitingStore → Bool) (older : List WaitingStore) (w : WaitingStore) (newer : List WaitingStore) → AllByRecursion (λ x. test x ≡ false) older → test w ≡ true →
        position_or_len test (older ++ w ∷ newer) ≡ length older
    first_at test [] w newer none is = ap (λ t. cond (not t) (1 + position_or_len test newer) 0) is
    first_at test (x ∷ older) w newer none is =
        let rest = first_at test older w newer none.1 is in
        ap (λ t. cond (not t) (1 + position_or_len test (older ++ w ∷ newer)) 0) none.0 ∙ omega (arith, rest)

    position_at : (test : WaitingStore → Bool) (older : List WaitingStore) (w : WaitingStore) (newer : List WaitingStore) → AllByRecursion (λ x. test x ≡ false) older → test w ≡ true →
        position test (older ++ w ∷ newer) ≡ Some (length older)
    position_at test older w newer none is =
        let whole : length older < length (older ++ w ∷ newer) = (let both = length-append older (w ∷ newer) in omega (arith, both)) in
        ap (λ n. cond (nat_lt n (length (older ++ w ∷ newer))) (Some n) None) (first_at test older w newer none is)
        ∙ ap (λ b. cond b (Some (length older)) None) (below_tells (length older) (length (older ++ w ∷ newer)) whole)

    take_between : (older : List WaitingStore) (w : WaitingStore) (newer : List WaitingStore) → take (length older) (older ++ w ∷ newer) ≡ older
    take_between [] w newer = refl
    take_between (x ∷ older) w newer = ap (λ ws. x ∷ ws) (take_between older w newer)

    pub drains : (tag a v number from stop : ℕ) (ps : List (ℕ × ℕ)) (low : AreLow ps) → ArePieces bs from stop ps → (older newer : List WaitingStore) (n : ℕ) (t : MachineState) →
        AllByRecursion (Passes order tag from stop) older → waits_of t p ≡ older ++ (waits_from a v number tag ps low ++ newer) →
        Leads order p n t (steps_of (λ place r x. Drain (Some place) None) a v v ps low) (older ++ newer) (ArePut bs a v from stop t.memory)
    drains tag a v number from stop [] low are older newer n t passes is =
        record { to = t; follows = refl; waits_left = is; tag = refl; others = λ q other. (refl, refl); becomes = none_put a v from stop t.memory are }
    drains tag a v number from stop (piece ∷ ps) low are older newer n t passes is =
        let t_in = admitted p t in
        let place = location piece.0 low.0 in
        let value = piece_value a v piece in
        let next = piece.0 + piece.1 in
        let most = pieces_stop bs next stop ps are.2 in
        let some : piece.0 < stop = omega (arith, most, are.1.some) in
        let w : WaitingStore = record { store = number; place = place; value = value; stbar = tag } in
        let rest_waits = waits_from a v (suc number) tag ps low.1 in
        let passes_here = all_map (Passes order tag from stop) (Passes order tag piece.0 stop) (passes_next order tag from piece.0 stop (omega (arith, are.0))) older passes in
        let waits : waits_of t_in p ≡ older ++ w ∷ (rest_waits ++ newer) = (admitted_same p t p).0 ∙ is in
        let numbered : position (λ x. is_place place x.place) (waits_of t_in p) ≡ Some (length older) =
        ap (position (λ x. is_place place x.place)) waits
        ∙ position_at (λ x. is_place place x.place) older w (rest_waits ++ newer)
        (all_map (Passes order tag piece.0 stop) (λ x. is_place place x.place ≡ false) (passes_other order tag piece.0 stop some low.0) older passes_here)
        (ap (λ b. b && (0 == 0)) (eq-eqb piece.0 piece.0 refl)) in
        let there : slice_get (waits_of t_in p) (length older) ≡ Some w = ap (λ ws. slice_get ws (length older)) waits ∙ get_between older w (rest_waits ++ newer) in
        let x : ProcessorState = record (processor_in t_in p) { waits = remove (waits_of t_in p) (length older) } in
        let t_less = with_waits t_in p (remove (waits_of t_in p) (length older)) in
        let t_one = reaching n p w t_less in
        let kept = reaching_same n p w t_less in
        let own = own_processor t_in p x (admitted_within p t) in
        let waits_one : waits_of t_one p ≡ older ++ (rest_waits ++ newer) =
        (kept p).0 ∙ ap (λ (y : ProcessorState). y.waits) own ∙ ap (λ ws. remove ws (length older)) waits ∙ remove_between older w (rest_waits ++ newer) in
        let tag_one : tag_of t_one p ≡ tag_of t_in p = (kept p).1 ∙ ap (λ (y : ProcessorState). y.stbar) own in
        let after : next_state n p (Drain (Some place) None) t_in ≡ t_one =
        ap (λ o. option_map_or (λ j. draining n p j t_in) o t_in) numbered
        ∙ ap (λ o. option_map_or (λ y. reaching n p y t_less) o t_in) there in
        let rest_steps = steps_of (λ place r x. Drain (Some place) None) a v v ps low.1 in
        let rest = drains tag a v (suc number) next stop ps low.1 are.2 older newer (suc n) t_one
        (all_map (Passes order tag piece.0 stop) (Passes order tag next stop) (passes_next order tag piece.0 next stop (omega arith)) older passes_here) waits_one in
        led_next n t (Drain (Some place) None) rest_steps (older ++ newer) (ArePut bs a v from stop t.memory)
        (record {
          number = length older;
          store = w;
          is = numbered;
          waits_there = there;
          passes = subst (λ ws. AllByRecursion (λ y. keeps_back order w y ≡ false) ws) (sym (ap (take (length older)) waits ∙ take_between older w (rest_waits ++ newer)))
              (all_map (Passes order tag piece.0 stop) (λ y. keeps_back order w y ≡ false) (passes_kept order tag piece.0 stop value number some low.0) older passes_here);
          has = tt;
        })
        (ap (λ u. tag_of u p) after ∙ tag_one)
        (λ q other. subst (λ u. IsSame u t_in q) (sym after) (same_after t_one t_less t_in q (kept q) (other_processor t_in p x q other)))
        (subst (λ u. Leads order p (suc n) u rest_steps (older ++ newer) (ArePut bs a v from stop t.memory)) (sym after)
        (led_so (suc n) t_one rest_steps (older ++ newer) (ArePut bs a v next stop t_one.memory) (ArePut bs a v from stop t.memory)
        (λ m put. put_next a v from stop piece (Stored value number n) t.memory m are.0 are.1 (omega (arith, most)) refl put) rest))
