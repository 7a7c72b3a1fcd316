-- The lines of a run that holds are matched by a run of the machine of units.
use Rattle.std.proofs.Common.{◌≡◌, ◌∙◌, sym, ap, refl, subst, inl, inr, ℕ, suc, ◌<◌, false, cond, ◌==◌, None, Some, List, [], ◌∷◌, ◌++◌, length, filter_map, eq-eqb, ne_eqb, arith}
use Rattle.std.specs.List.{AllByRecursion}
use Rattle.std.proofs.lemmas.Bool.{cases_eq}
use Rattle.std.proofs.lemmas.List.Elements.{filter_map-append}
use Rattle.tso_ops.specs.declared.ops.Outcome.{Outcome}
use Rattle.tso_ops.specs.declared.settings.Order.{Order}
use Rattle.run_steps.specs.declared.cells.Cell.TheVariants as cell
use Rattle.run_steps.specs.declared.cells.Cell.TheVariants.{Stored}
use Rattle.run_steps.specs.declared.places.Place.{Place}
use Rattle.run_steps.specs.declared.steps.RunLine.{RunLine}
use Rattle.run_steps.specs.declared.steps.RunStep.{RunStep}
use Rattle.run_steps.specs.declared.steps.RunStep.TheVariants.{Load, Store, Drain, Write, Swap, Reserve, StoreReserved, Membar, Stbar, Unknown, Last}
use Rattle.run_steps.specs.Machine.{MachineState, admitted, forgetting, next_state, storing, with_reserved}
use Rattle.run_steps.specs.Runs.{HoldsFrom}
use Rattle.run_steps.specs.Steps.{MayStep}
use Rattle.unit_core.specs.declared.steps.Step.{Step}
use Rattle.unit_core.specs.Machine.{State, after, outcome_for, outcome_of, outcomes_of, proc_of}
use Rattle.unit_core.proofs.RunFacts.{after-append}
use Rattle.embedding.specs.Sizes.{Sizes, IsRunIn}
use Rattle.embedding.proofs.Moments.{HasSizes}
use Rattle.run_orders.specs.RunLogs.{AreNumberedAbove, IsAtLocation}
use Rattle.run_orders.proofs.Waiting.{is_known}
use Rattle.run_orders.proofs.States.{IsSame, admitted_same, admitted_within, filled_location, reaching_same, reserved_same, same_after}
use Rattle.run_orders.proofs.Matching.{Matches}
use Rattle.run_orders.proofs.Moves.{match_kept, match_later, match_stored_unknown}
use Rattle.run_orders.proofs.Told.{Matched, outcomes_told, outcomes_others, outcomes_own}
use Rattle.run_orders.proofs.Stepping as stepping
use Rattle.run_orders.proofs.Drains as drains
use Rattle.run_orders.proofs.LastDrains.{run-append}

-- The processor of a step has a buffer, and its location is a word; nothing is known of a location that it changes in an unknown way.
abbrev pub Suits : Sizes → List ℕ → ℕ → RunStep → Type 0
Suits z unknown p (Load place v) = (p < z.buffers) × (place.address < z.words)
Suits z unknown p (Store place v) = (p < z.buffers) × (place.address < z.words)
Suits z unknown p (Drain at v) = Unit {0}
Suits z unknown p (Write place v) = (p < z.buffers) × (place.address < z.words)
Suits z unknown p (Swap place r v) = (p < z.buffers) × (place.address < z.words)
Suits z unknown p (Reserve place v) = (p < z.buffers) × (place.address < z.words)
Suits z unknown p (StoreReserved place v) = (p < z.buffers) × (place.address < z.words)
Suits z unknown p Membar = p < z.buffers
Suits z unknown p Stbar = p < z.buffers
Suits z unknown p (Unknown place) = (p < z.buffers) × (is_known unknown place.address ≡ false)
Suits z unknown p (Last place v) = Unit {0}

module _ (z : Sizes) (unknown : List ℕ) (order : Order) (line p : ℕ) (s : MachineState) (there : p < length s.processors) (u : State) (m : Matches z unknown line s u) where
  -- a store that reaches memory at once
  storing_same : (place : Place) (v q : ℕ) → IsSame (storing line p place v s) s q
  storing_same place v q = reaching_same line p (record { store = line; place = place; value = v; stbar = 0 }) s q

  pub step_matched : (step : RunStep) → IsAtLocation step → Suits z unknown p step → MayStep order p step s →
      Matched z unknown order (suc line) (next_state line p step s) u p (outcomes_told unknown step)
  step_matched (Load place v) location suits may = stepping.load z unknown order line p suits.0 s there u m s (λ q. (refl, refl)) (λ a. refl) place v location suits.1 may
  step_matched (Store place v) location suits may = stepping.store z unknown order line p suits.0 s there u m place v location suits.1
  step_matched (Drain at v) location suits may = drains.drain z unknown line p s there u m order at v may
  step_matched (Write place v) location suits may =
      stepping.at_once z unknown order line p suits.0 s there u m may (storing line p place v s) (storing_same place v) place v line line location suits.1
      (λ b. ap (λ f. f b) (filled_location s.memory place v (λ part. Stored part line line) location))
  step_matched (Swap place r v) location suits may =
      stepping.swap z unknown order line p suits.0 s there u m may.0 (storing line p place v s) (storing_same place v) place v line line location suits.1
      (λ b. ap (λ f. f b) (filled_location s.memory place v (λ part. Stored part line line) location)) r may.1
  step_matched (Reserve place v) location suits may =
      let t = next_state line p (Reserve place v) s in
      stepping.load z unknown order line p suits.0 s there u m t (reserved_same s p (Some (record { place = place; taken = None }))) (λ a. refl) place v location suits.1 may
  step_matched (StoreReserved place v) location suits may =
      let t = storing line p place v s in
      stepping.at_once z unknown order line p suits.0 s there u m may.0 (with_reserved t p None)
      (λ q. same_after (with_reserved t p None) t s q (reserved_same t p None q) (storing_same place v q)) place v line line location suits.1
      (λ b. ap (λ f. f b) (filled_location s.memory place v (λ part. Stored part line line) location))
  step_matched Membar location suits may = stepping.membar z unknown order line p suits s there u m may
  step_matched Stbar location suits may = stepping.stbar z unknown order line p suits s there u m
  step_matched (Unknown place) location suits may =
      let t = forgetting place s in
      record {
        steps = [];
        run = tt;
        own = tt;
        answers = refl;
        matches =
            match_later z unknown line t u
            (match_stored_unknown z unknown line s u m p suits.0 t place.address cell.Unknown (λ q. (refl, refl))
            (λ b. ap (λ f. f b) (filled_location s.memory place 0 (λ part. cell.Unknown) location)) suits.1)
            (suc line) (omega arith);
      }
  step_matched (Last place v) location suits may = record { steps = []; run = tt; own = tt; answers = refl; matches = match_later z unknown line s u m (suc line) (omega arith) }

-- the operations of processor q that lines say to a log
abbrev pub told_to : List ℕ → ℕ → List RunLine → List Outcome
told_to unknown q [] = []
told_to unknown q (line ∷ lines) = cond (q == line.processor) (outcomes_told unknown line.step) [] ++ told_to unknown q lines

-- A run of the machine of units that answers what the lines say.
pub record RunMatched (z : Sizes) (unknown : List ℕ) (order : Order) (u : State) (lines : List RunLine) : Type 0 where
  pub steps : List Step
  pub run : IsRunIn z order u steps
  pub sizes : HasSizes z (after u steps)
  pub answers : (q : ℕ) → outcomes_of q steps ≡ told_to unknown q lines

answers_of : (q p : ℕ) (steps : List Step) (said : List Outcome) → AllByRecursion (λ step. proc_of step ≡ p) steps →
    filter_map outcome_of steps ≡ said → outcomes_of q steps ≡ cond (q == p) said []
answers_of q p steps said own is = elim (cases_eq q p) [
  | inl same ↦ ap (λ r. outcomes_of r steps) same ∙ outcomes_own p steps own ∙ is ∙ ap (λ b. cond b said []) (sym (eq-eqb q p same))
  | inr other ↦ outcomes_others p q steps (λ same. other (sym same)) own ∙ ap (λ b. cond b said []) (sym (ne_eqb q p other))
]

pub run_matched : (z : Sizes) (unknown : List ℕ) (order : Order) (lines : List RunLine) (last : ℕ) (s : MachineState) (u : State) → Matches z unknown (suc last) s u →
    AreNumberedAbove last lines → AllByRecursion (λ line. IsAtLocation line.step) lines → AllByRecursion (λ line. Suits z unknown line.processor line.step) lines →
    HoldsFrom order s lines → RunMatched z unknown order u lines
run_matched z unknown order [] last s u m numbers locations suits holds = record { steps = []; run = tt; sizes = m.sizes; answers = λ q. refl }
run_matched z unknown order (line ∷ lines) last s u m numbers locations suits holds =
    let p = line.processor in
    let from = admitted p s in
    let above : last < line.number = numbers.0 in
    let before = match_later z unknown (suc last) from u (match_kept z unknown (suc last) s u m from (admitted_same p s) (λ a known. refl)) line.number (omega (arith, above)) in
    let here = step_matched z unknown order line.number p from (admitted_within p s) u before line.step locations.0 suits.0 holds.0 in
    let t = next_state line.number p line.step from in
    let rest = run_matched z unknown order lines line.number t (after u here.steps) here.matches numbers.1 locations.1 suits.1 holds.1 in
    record {
      steps = here.steps ++ rest.steps;
      run = run-append z order u here.steps rest.steps here.run rest.run;
      sizes = subst (HasSizes z) (sym (after-append u here.steps rest.steps)) rest.sizes;
      answers = λ q.
          filter_map-append (outcome_for q) here.steps rest.steps
          ∙ ap (λ os. os ++ outcomes_of q rest.steps) (answers_of q p here.steps (outcomes_told unknown line.step) here.own here.answers)
          ∙ ap (λ os. cond (q == p) (outcomes_told unknown line.step) [] ++ os) (rest.answers q);
    }
