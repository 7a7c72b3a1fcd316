-- A lawful unit's steps in a replay belong to its schedule.
use Rattle.std.proofs.Common.{◌≡◌, ◌∙◌, sym, ap, refl, subst, ℕ, inl, inr, true, List, [], ◌++◌, length, append_assoc, replicate, arith}
use Rattle.std.proofs.lemmas.Bool.{cases_lt}
use Rattle.tso_ops.specs.Values.{ProgramValue}
use Rattle.tso_ops.specs.declared.acts.Act.{Act}
use Rattle.unit_core.specs.Internal.Replays.{FollowsActs, left_from}
use Rattle.unit_core.specs.Machine.{State, IsRunFrom, after, buffer_of, first_state}
use Rattle.unit_core.specs.Records.{AreOpsOf, EmptiesBelow}
use Rattle.unit_core.specs.Schedule.{AreStepsOfActs, BelongsTo, issues_of}
use Rattle.unit_core.specs.Units.{UnitValue, AreDrains, IsUnit, TakesDrains}
use Rattle.unit_core.proofs.CountFacts.{run-entries}
use Rattle.unit_core.proofs.LastDrainFacts.{last_drains, run_parts}
use Rattle.unit_core.proofs.OutcomeFacts.{outcomes_past}
use Rattle.unit_core.proofs.ReplayFacts.{all_left}
use Rattle.unit_core.proofs.RunFacts.{after-append, first-empty, runs_below}

-- all buffers are empty after the unit's steps
ends_empty : (program : ProgramValue) (u : UnitValue) → IsUnit u → u.lawful ≡ true → EmptiesBelow u (length program.lists) → AreOpsOf program u.steps → (q : ℕ) →
    buffer_of (after (first_state u.first) u.steps) q ≡ []
ends_empty program u kept lawful empty ops q =
    let count = length program.lists in
    let below = runs_below u.order count (first_state u.first) u.steps (kept.run lawful) (outcomes_past program u.steps ops) (λ p past. first-empty u.first p) in
    elim (cases_lt q count) [ inl early ↦ empty lawful q early | inr past ↦ below.1 q past ]

pub belongs : (program : ProgramValue) (schedule : List Act) (none first second : List ℕ) (u0 u1 u2 new : UnitValue) → none ≡ replicate 16 0 → u0.steps ≡ [] →
    FollowsActs program schedule none first u0 u1 → FollowsActs program (issues_of 0 (left_from 0 first program.lists)) first second u1 u2 →
    TakesDrains u2 new 0 (length program.lists) → IsUnit new → EmptiesBelow new (length program.lists) → AreOpsOf program new.steps → new.lawful ≡ true →
    BelongsTo new.first program.lists schedule new.steps
belongs program schedule none first second u0 u1 u2 new zero fresh scheduled rest drains kept empty ops lawful = record {
  scheduled = scheduled.taken;
  remaining = rest.taken;
  last = drains.drained;
  is = whole;
  left = left_from 0 first program.lists;
  none = left_from 0 second program.lists;
  by_schedule =
      subst (λ l. AreStepsOfActs start l schedule scheduled.taken (left_from 0 first program.lists)) (ap (λ i. left_from 0 i program.lists) zero ∙ all_left 0 program.lists)
      (subst (λ s. AreStepsOfActs s (left_from 0 none program.lists) schedule scheduled.taken (left_from 0 first program.lists)) at_start (scheduled.parts lawful0));
  by_program =
      subst (λ s. AreStepsOfActs s (left_from 0 first program.lists) (issues_of 0 (left_from 0 first program.lists)) rest.taken (left_from 0 second program.lists)) after_schedule
      (rest.parts (scheduled.kept.lawful ∙ lawful0));
  by_end = last_drains new.order 0 program.lists (after start (scheduled.taken ++ rest.taken)) drains.drained wide
      (subst (λ past. AreDrains 0 past drains.drained) (omega arith) drains.drains) runs.1
      (λ q. ap (λ s. buffer_of s q) (sym ended) ∙ ends_empty program new kept lawful empty ops q);
}
  where
    start : State
    start = first_state new.first

    lawful0 : u0.lawful ≡ true
    lawful0 = sym scheduled.kept.lawful ∙ sym rest.kept.lawful ∙ sym drains.kept.lawful ∙ lawful

    memory1 : u1.first ≡ new.first
    memory1 = sym rest.kept.first ∙ sym drains.kept.first

    memory0 : u0.first ≡ new.first
    memory0 = sym scheduled.kept.first ∙ memory1

    steps1 : u1.steps ≡ scheduled.taken
    steps1 = scheduled.steps ∙ ap (λ xs. xs ++ scheduled.taken) fresh

    at_start : after (first_state u0.first) u0.steps ≡ start
    at_start = ap (λ xs. after (first_state u0.first) xs) fresh ∙ ap first_state memory0

    after_schedule : after (first_state u1.first) u1.steps ≡ after start scheduled.taken
    after_schedule = ap (λ xs. after (first_state u1.first) xs) steps1 ∙ ap (λ m. after (first_state m) scheduled.taken) memory1

    steps2 : u2.steps ≡ scheduled.taken ++ rest.taken
    steps2 = rest.steps ∙ ap (λ xs. xs ++ rest.taken) steps1

    before_drains : new.steps ≡ (scheduled.taken ++ rest.taken) ++ drains.drained
    before_drains = drains.steps ∙ ap (λ xs. xs ++ drains.drained) steps2

    whole : new.steps ≡ scheduled.taken ++ (rest.taken ++ drains.drained)
    whole = before_drains ∙ append_assoc scheduled.taken rest.taken drains.drained

    runs : IsRunFrom new.order start (scheduled.taken ++ rest.taken) × IsRunFrom new.order (after start (scheduled.taken ++ rest.taken)) drains.drained
    runs = run_parts new.order start (scheduled.taken ++ rest.taken) drains.drained (subst (λ xs. IsRunFrom new.order start xs) before_drains (kept.run lawful))

    wide : length (after start (scheduled.taken ++ rest.taken)).buffers ≡ 16
    wide = (run-entries new.order start (scheduled.taken ++ rest.taken) refl runs.0).1

    ended : after start new.steps ≡ after (after start (scheduled.taken ++ rest.taken)) drains.drained
    ended = ap (after start) before_drains ∙ after-append start (scheduled.taken ++ rest.taken) drains.drained
