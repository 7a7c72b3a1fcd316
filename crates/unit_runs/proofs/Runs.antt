-- Each step of a run of both machines: one may take it exactly where the other may, and both get to the same state.
use Rattle.std.proofs.Common.{◌≡◌, ◌↔◌, ◌∙◌, inl, inr, sym, ap, refl, subst, ℕ, suc, ◌<◌, Option, None, Some, List, [], ◌∷◌, ◌++◌, length, length-set, get_or, set, slice_get, slice_index, arith}
use Rattle.std.specs.List.{remove, AllByRecursion}
use Rattle.std.specs.Option.{option_map_or}
use Rattle.std.proofs.lemmas.List.{get_or-replicate, get_or-set_same, get_or-set_other}
use Rattle.tso_ops.specs.declared.settings.Order.{Order}
use Rattle.unit_core.specs.declared.steps.Step.{Step}
use Rattle.unit_core.specs.declared.steps.Step.TheVariants.{Store, Drain, DrainAt, Load, Swap, Membar, Stbar}
use Rattle.unit_core.specs.Machine.{Entry, State, IsAllowed, IsRun, IsRunFrom, after, buffer_of, drained, first_state, next, oldest_of, proc_of, stbars_of, written}
use Rattle.unit_core.proofs.LastDrainFacts.{run_parts}
use Rattle.unit_core.proofs.RunFacts.{first-empty}
use Rattle.run_steps.specs.declared.places.Place.{Place}
use Rattle.run_steps.specs.declared.processors.WaitingStore.{WaitingStore}
use Rattle.run_steps.specs.Machine.{MachineState, ProcessorState, admitted, drained_number, draining, idle, next_state, processor_in, reaching, storing, waits_of, with_processor, with_store, with_waits}
use Rattle.run_steps.specs.Reads.{seen_in}
use Rattle.run_steps.specs.Runs.{HoldsFrom, state_after}
use Rattle.run_steps.specs.Steps.{MayDrain, MayStep}
use Rattle.run_steps.proofs.StepFacts.{step_leads}
use Rattle.unit_runs.specs.Lines.{AreLocations, IsStartOf, IsWithin, lines_of_steps, run_step_of}
use Rattle.unit_runs.specs.States.{AreSameStores, IsSameState, IsSameStore}
use Rattle.unit_runs.proofs.SameStores.{before_more, none_buffered, none_waits, one_pushed, one_removed, store_at}
use Rattle.unit_runs.proofs.Drains.{first_drains, first_number, first_waits, oldest_address, place_drains, place_number, place_waits}
use Rattle.unit_runs.proofs.Loads.{read_exactly, same_read, value_seen}
use Rattle.unit_runs.proofs.Moments.{IsMoment, has_place, matched-all, matched-equal, matched-later, moment-admitted, reached_holds, reached_same, same_state}

-- ---- which steps may be taken

module _ (order : Order) (places : ℕ → Place) (located : AreLocations places) (line : ℕ) (s : State) (r : MachineState) (moment : IsMoment line s r) where
  stores : (p : ℕ) → p < 16 → AreSameStores 0 0 (buffer_of s p) (waits_of r p) (stbars_of s p) (processor_in r p).stbar
  stores p small = (moment.matched p small).0

  -- the address of the oldest entry of an address that waits is the unit's
  drained_within : (p a : ℕ) (e : Entry) → p < 16 → slice_get (buffer_of s p) (oldest_of (buffer_of s p) a) ≡ Some e → a < 256
  drained_within p a e small read =
      let found = store_at 0 0 (buffer_of s p) (waits_of r p) (oldest_of (buffer_of s p) a) (stbars_of s p) (processor_in r p).stbar e (stores p small) read in
      subst (λ n. n < 256) (oldest_address (buffer_of s p) a e read) found.2.within

  -- the machine of runs may take the step's line exactly where the unit's machine may take the step, within its limits
  pub step_exactly : (step : Step) → IsAllowed order s step ↔ (IsWithin order step × MayStep order (proc_of step) (run_step_of places step) r)
  step_exactly (Store p a v) = (λ allowed. (allowed, tt), λ both. both.0)
  step_exactly (Drain p) = (
    λ allowed. (allowed.0, first_drains order 0 0 (buffer_of s p) (waits_of r p) _ _ (stores p allowed.0) allowed.1),
    λ both. (both.0, first_waits order 0 0 (buffer_of s p) (waits_of r p) _ _ (stores p both.0) both.1),
  )
  step_exactly (DrainAt p a) = (
    λ allowed.
        let e = allowed.2.0 in
        let read = allowed.2.1 in
        let within = drained_within p a e allowed.0 read in (
          (allowed.0, within, allowed.1),
          subst (λ o. MayDrain o (Some (places a)) (waits_of r p) None) (sym allowed.1)
              (place_drains order 0 0 (buffer_of s p) (waits_of r p) _ _ (stores p allowed.0) a (places a) (located a within) allowed.2 e read
              (oldest_address (buffer_of s p) a e read)),
        ),
    λ both. (
      both.0.0,
      both.0.2,
      place_waits order 0 0 (buffer_of s p) (waits_of r p) _ _ (stores p both.0.0) a (places a) (located a both.0.1)
          (subst (λ o. MayDrain o (Some (places a)) (waits_of r p) None) both.0.2 both.1),
    ),
  )
  step_exactly (Load p a v) =
      let read : (small : p < 16) (within : a < 256) → _ = λ small within.
      read_exactly (places a) _ _ v
      (same_read r.memory a (places a) 0 0 (buffer_of s p) (waits_of r p) _ _ (slice_index s.memory a) (located a within) (stores p small)
      (moment.memory a within)) in
      (λ allowed. ((allowed.0, allowed.1), (read allowed.0 allowed.1).1 allowed.2), λ both. (both.0.0, both.0.1, (read both.0.0 both.0.1).0 both.1))
  step_exactly (Swap p a v w) =
      let read : (within : a < 256) → _ = λ within.
      read_exactly (places a) _ _ v
      (same_read r.memory a (places a) 0 0 [] [] 0 0 (slice_index s.memory a) (located a within) (inl (refl, refl)) (moment.memory a within)) in (
        λ allowed. ((allowed.0, allowed.1), (none_waits 0 0 (buffer_of s p) (waits_of r p) _ _ (stores p allowed.0) allowed.2, (read allowed.1).1 allowed.3)),
        λ both. (both.0.0, both.0.1, none_buffered 0 0 (buffer_of s p) (waits_of r p) _ _ (stores p both.0.0) both.1.0, (read both.0.1).0 both.1.1),
      )
  step_exactly (Membar p) = (
    λ allowed. (allowed.0, none_waits 0 0 (buffer_of s p) (waits_of r p) _ _ (stores p allowed.0) allowed.1),
    λ both. (both.0, none_buffered 0 0 (buffer_of s p) (waits_of r p) _ _ (stores p both.0) both.1),
  )
  step_exactly (Stbar p) = (λ allowed. (allowed, tt), λ both. both.0)

  -- ---- where they lead

  module _ (p : ℕ) (small : p < 16) (there : p < length r.processors) where
    buffer_there : p < length s.buffers
    buffer_there = omega (arith, small, moment.buffers)

    abbrev with_own : ProcessorState → MachineState
    with_own x = with_processor r p x

    own_is : (x : ProcessorState) → processor_in (with_own x) p ≡ x
    own_is x = get_or-set_same r.processors p x idle there

    other_is : (x : ProcessorState) (q : ℕ) → (q ≡ p → ⊥) → processor_in (with_own x) q ≡ processor_in r q
    other_is x q other = get_or-set_other r.processors p q x idle other

    -- a store waits
    store_leads : (a v : ℕ) → a < 256 → IsMoment (suc line) (next s (Store p a v)) (with_own (with_store line (places a) v (processor_in r p)))
    store_leads a v within =
        let e : Entry = record { a = a; v = v; stbars = stbars_of s p } in
        let x = processor_in r p in
        let w : WaitingStore = record { store = line; place = places a; value = v; stbar = x.stbar } in
        let y = with_store line (places a) v x in
        let pushed = buffer_of s p ++ e ∷ [] in
        record {
          words = moment.words;
          buffers = length-set s.buffers p pushed ∙ moment.buffers;
          stbars = moment.stbars;
          memory = moment.memory;
          matched = matched-all line s (next s (Store p a v)) r (with_own y) p moment
              (matched-equal (suc line) _ pushed _ (x.waits ++ w ∷ []) _ (stbars_of s p) _ x.stbar (get_or-set_same s.buffers p pushed [] buffer_there)
              (ap (λ (z : ProcessorState). z.waits) (own_is y)) refl
              (ap (λ (z : ProcessorState). z.stbar) (own_is y)) (
                one_pushed 0 0 (buffer_of s p) x.waits e w (record { within = within; location = located a within; value = refl }) (stores p small),
                (matched-later line _ _ _ _ (moment.matched p small)).1,
              ))
              (λ q other. record {
                buffer = get_or-set_other s.buffers p q pushed [] other;
                waits = ap (λ (z : ProcessorState). z.waits) (other_is y q other);
                count = refl;
                line = ap (λ (z : ProcessorState). z.stbar) (other_is y q other);
              });
        }

    -- an STBAR
    stbar_leads : IsMoment (suc line) (next s (Stbar p)) (with_own (record (processor_in r p) { stbar = line }))
    stbar_leads =
        let x = processor_in r p in
        let y : ProcessorState = record x { stbar = line } in
        let count = stbars_of s p in
        record {
          words = moment.words;
          buffers = moment.buffers;
          stbars = length-set s.stbars p (suc count) ∙ moment.stbars;
          memory = moment.memory;
          matched = matched-all line s (next s (Stbar p)) r (with_own y) p moment
              (matched-equal (suc line) _ (buffer_of s p) _ x.waits _ (suc count) _ line refl (ap (λ (z : ProcessorState). z.waits) (own_is y))
              (get_or-set_same s.stbars p (suc count) 0 (omega (arith, small, moment.stbars))) (ap (λ (z : ProcessorState). z.stbar) (own_is y)) (
                before_more 0 0 (buffer_of s p) x.waits count x.stbar (suc count) line
                    (inr (omega arith, (moment.matched p small).1)) (stores p small),
                omega arith,
              ))
              (λ q other. record {
                buffer = refl;
                waits = ap (λ (z : ProcessorState). z.waits) (other_is y q other);
                count = get_or-set_other s.stbars p q (suc count) 0 other;
                line = ap (λ (z : ProcessorState). z.stbar) (other_is y q other);
              });
        }

    -- a store that waits reaches memory
    drain_reaches : (k : ℕ) (e : Entry) (w : WaitingStore) → IsSameStore e w →
        IsMoment (suc line) (record s { memory = set s.memory e.a e.v; buffers = set s.buffers p (remove (buffer_of s p) k) })
        (reaching line p w (with_waits r p (remove (waits_of r p) k)))
    drain_reaches k e w is =
        let x = processor_in r p in
        let rest = remove (buffer_of s p) k in
        let y : ProcessorState = record x { waits = remove x.waits k } in
        let new : State = record s { memory = set s.memory e.a e.v; buffers = set s.buffers p rest } in
        let kept = reached_same p w.place (record { store = w.store; reached = line }) 0 (with_own y).processors in
        record {
          words = length-set s.memory e.a e.v ∙ moment.words;
          buffers = length-set s.buffers p rest ∙ moment.buffers;
          stbars = moment.stbars;
          memory = reached_holds line p w (with_own y) e.a e.v s.memory is.location is.value moment.words is.within moment.memory;
          matched = matched-all line s new r (reaching line p w (with_own y)) p moment
              (matched-equal (suc line) _ rest _ (remove x.waits k) _ (stbars_of s p) _ x.stbar (get_or-set_same s.buffers p rest [] buffer_there)
              ((kept p).0 ∙ ap (λ (z : ProcessorState). z.waits) (own_is y)) refl ((kept p).1 ∙ ap (λ (z : ProcessorState). z.stbar) (own_is y))
              (one_removed 0 0 (buffer_of s p) x.waits k (stbars_of s p) x.stbar (stores p small), (matched-later line _ _ _ _ (moment.matched p small)).1))
              (λ q other. record {
                buffer = get_or-set_other s.buffers p q rest [] other;
                waits = (kept q).0 ∙ ap (λ (z : ProcessorState). z.waits) (other_is y q other);
                count = refl;
                line = (kept q).1 ∙ ap (λ (z : ProcessorState). z.stbar) (other_is y q other);
              });
        }

    drain_leads : (at : Option Place) (k : ℕ) (e : Entry) → slice_get (buffer_of s p) k ≡ Some e → drained_number at (waits_of r p) ≡ Some k →
        IsMoment (suc line) (drained s p k) (option_map_or (λ k. draining line p k r) (drained_number at (waits_of r p)) r)
    drain_leads at k e read number =
        let found = store_at 0 0 (buffer_of s p) (waits_of r p) k (stbars_of s p) (processor_in r p).stbar e (stores p small) read in
        subst (λ o. IsMoment (suc line) (drained s p k) (option_map_or (λ k. draining line p k r) o r)) (sym number)
        (subst (λ o. IsMoment (suc line) (drained s p k)
        (option_map_or (λ (w : WaitingStore). reaching line p w (with_waits r p (remove (waits_of r p) k))) o r)) (sym found.1)
        (subst (λ o. IsMoment (suc line) (written s p o (remove (buffer_of s p) k)) (reaching line p found.0 (with_waits r p (remove (waits_of r p) k))))
        (sym read) (drain_reaches k e found.0 found.2)))

    -- a swap
    swap_leads : (a v w : ℕ) → a < 256 → IsMoment (suc line) (next s (Swap p a v w)) (storing line p (places a) w r)
    swap_leads a v w within =
        let x : WaitingStore = record { store = line; place = places a; value = w; stbar = 0 } in
        let kept = reached_same p (places a) (record { store = line; reached = line }) 0 r.processors in
        record {
          words = length-set s.memory a w ∙ moment.words;
          buffers = moment.buffers;
          stbars = moment.stbars;
          memory = reached_holds line p x r a w s.memory (located a within) refl moment.words within moment.memory;
          matched = λ q low.
              matched-equal (suc line) (buffer_of s q) (buffer_of s q) _ (waits_of r q) (stbars_of s q) (stbars_of s q) _ (processor_in r q).stbar
              refl (kept q).0 refl (kept q).1
              (matched-later line _ _ _ _ (moment.matched q low));
        }

  nothing_leads : IsMoment (suc line) s r
  nothing_leads = record {
    words = moment.words;
    buffers = moment.buffers;
    stbars = moment.stbars;
    memory = moment.memory;
    matched = λ q small. matched-later line _ _ _ _ (moment.matched q small);
  }

  pub step_moves : (step : Step) → proc_of step < length r.processors → IsAllowed order s step →
      IsMoment (suc line) (next s step) (next_state line (proc_of step) (run_step_of places step) r)
  step_moves (Store p a v) there allowed = store_leads p allowed.0 there a v allowed.1
  step_moves (Drain p) there allowed =
      let e = allowed.1.0 in
      let read = allowed.1.1 in
      drain_leads p allowed.0 there None 0 e read (first_number order 0 0 (buffer_of s p) (waits_of r p) _ _ (stores p allowed.0) e read)
  step_moves (DrainAt p a) there allowed =
      let e = allowed.2.0 in
      let read = allowed.2.1 in
      drain_leads p allowed.0 there (Some (places a)) (oldest_of (buffer_of s p) a) e read
      (place_number order 0 0 (buffer_of s p) (waits_of r p) _ _ (stores p allowed.0) a (places a) (located a (drained_within p a e allowed.0 read)) e read)
  step_moves (Load p a v) there allowed = nothing_leads
  step_moves (Swap p a v w) there allowed = swap_leads p allowed.0 there a v w allowed.1
  step_moves (Membar p) there allowed = nothing_leads
  step_moves (Stbar p) there allowed = stbar_leads p allowed there

-- ---- runs

module _ (order : Order) (places : ℕ → Place) (located : AreLocations places) where
  next_moment : (line : ℕ) (s : State) (r : MachineState) (step : Step) → IsMoment line s r → IsAllowed order s step →
      IsMoment (suc line) (next s step) (next_state line (proc_of step) (run_step_of places step) (admitted (proc_of step) r))
  next_moment line s r step moment allowed =
      let p = proc_of step in
      step_moves order places located line s (admitted p r) (moment-admitted line s p r moment) step (has_place p r) allowed

  run_exactly : (line : ℕ) (s : State) (r : MachineState) (steps : List Step) → IsMoment line s r →
      IsRunFrom order s steps ↔ (AllByRecursion (IsWithin order) steps × HoldsFrom order r (lines_of_steps places line steps))
  run_exactly line s r [] moment = (λ run. (tt, tt), λ both. tt)
  run_exactly line s r (step ∷ steps) moment =
      let p = proc_of step in
      let from = admitted p r in
      let exactly = step_exactly order places located line s from (moment-admitted line s p r moment) step in
      let rest = λ (allowed : IsAllowed order s step).
      run_exactly (suc line) (next s step) (next_state line p (run_step_of places step) from) steps (next_moment line s r step moment allowed) in (
        λ run. let now = exactly.0 run.0 in let later = (rest run.0).0 run.1 in ((now.0, later.0), (now.1, later.1)),
        λ both. let allowed = exactly.1 (both.0.0, both.1.0) in (allowed, (rest allowed).1 (both.0.1, both.1.1)),
      )

  run_leads : (line : ℕ) (s : State) (r : MachineState) (steps : List Step) → IsMoment line s r → IsRunFrom order s steps →
      IsSameState (after s steps) (state_after r (lines_of_steps places line steps))
  run_leads line s r [] moment run = same_state line s r moment
  run_leads line s r (step ∷ steps) moment run =
      let p = proc_of step in
      let from = admitted p r in
      let may = ((step_exactly order places located line s from (moment-admitted line s p r moment) step).0 run.0).1 in
      subst (λ t. IsSameState (after (next s step) steps) (state_after t (lines_of_steps places (suc line) steps)))
      (sym (step_leads order line p (run_step_of places step) from may))
      (run_leads (suc line) (next s step) (next_state line p (run_step_of places step) from) steps (next_moment line s r step moment run.0) run.1)

-- the two machines begin in the same state
first_moment : (memory : List ℕ) (start : MachineState) (number : ℕ) → length memory ≡ 256 → IsStartOf memory start → 0 < number →
    IsMoment number (first_state memory) start
first_moment memory start number words begins after_none =
    let none : (p : ℕ) → processor_in start p ≡ idle = λ p. ap (λ xs. get_or xs p idle) begins.processors in
    record {
      words = words;
      buffers = refl;
      stbars = refl;
      memory = λ a small. ap (λ cell. value_seen (seen_in cell)) (begins.first a small);
      matched = λ p small.
          matched-equal number _ [] _ [] _ 0 _ 0 (first-empty memory p) (ap (λ (x : ProcessorState). x.waits) (none p)) (get_or-replicate 16 p 0 0 small)
          (ap (λ (x : ProcessorState). x.stbar) (none p)) (inl (refl, refl), after_none);
    }

pub exactly : (order : Order) (places : ℕ → Place) (memory : List ℕ) (start : MachineState) (number : ℕ) (steps : List Step) →
    AreLocations places → length memory ≡ 256 → IsStartOf memory start → 0 < number →
    IsRun order memory steps ↔ (AllByRecursion (IsWithin order) steps × HoldsFrom order start (lines_of_steps places number steps))
exactly order places memory start number steps located words begins after_none =
    run_exactly order places located number (first_state memory) start steps (first_moment memory start number words begins after_none)

pub same_after : (order : Order) (places : ℕ → Place) (memory : List ℕ) (start : MachineState) (number : ℕ) (steps later : List Step) →
    AreLocations places → length memory ≡ 256 → IsStartOf memory start → 0 < number → IsRun order memory (steps ++ later) →
    IsSameState (after (first_state memory) steps) (state_after start (lines_of_steps places number steps))
same_after order places memory start number steps later located words begins after_none run =
    run_leads order places located number (first_state memory) start steps (first_moment memory start number words begins after_none)
    (run_parts order (first_state memory) steps later run).0
