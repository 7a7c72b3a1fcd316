-- Lemmas on the end of a unit: its buffers empty one after the other, and then its steps are a complete run with a record.
use Rattle.std.proofs.Common.{◌≡◌, ◌∙◌, sym, ap, refl, subst, ℕ, suc, ◌≤◌, ◌&&◌, inl, inr, Bool, true, false, List, [], ◌∷◌, ◌++◌, length, All, Result, Ok, Err, IfOk, OnOk, arith}
use Rattle.std.specs.List.{flat_map, count_by}
use Rattle.std.specs.declared.alloc.AllocError.{AllocError}
use Rattle.std.proofs.lemmas.Bool.{cases_lt}
use Rattle.tso_ops.specs.declared.settings.Order.{Order}
use Rattle.tso_ops.specs.declared.settings.Order.TheVariants.{Tso, Pso}
use Rattle.tso_ops.specs.declared.ops.Outcome.{Outcome}
use Rattle.tso_ops.specs.Limits.{IsProgram, IsTrace}
use Rattle.tso_ops.specs.Settings.{SettingValue}
use Rattle.tso_ops.specs.Values.{ProgramValue, ReadFits, program_of, program_of_lists, trace_of_lists}
use Rattle.unit_core.specs.declared.steps.Step.{Step}
use Rattle.unit_core.specs.Machine.{Entry, IsCompleteRun, IsFirstMemory, IsRun, after, buffer_of, first_state, is_drain, is_store, lists_from, outcomes_of, trace_of}
use Rattle.unit_core.specs.Units.{UnitValue, TakesDrains, IsUnit, waiting_of}
use Rattle.unit_core.specs.declared.accounts.Account.{Account}
use Rattle.unit_core.specs.Accounts.{IsAccountOf}
use Rattle.unit_core.specs.Records.{AreOpsOf, Concludes, EmptiesBelow, IsRecordOf, IsRecorded, RecordedValue, is_within}
use Rattle.unit_core.proofs.CountFacts.{complete-balanced}
use Rattle.unit_core.proofs.OutcomeFacts.{length-lists_from, outcomes_past, program_lists}
use Rattle.unit_core.proofs.RunFacts.{IsRunFrom-pso, after-append, after-drains, first-empty, runs_below}

no_entry : (buffer : List Entry) → length buffer ≡ 0 → buffer ≡ []
no_entry [] e = refl
no_entry (x ∷ buffer) e = absurd (omega (arith, e))

pub EmptiesBelow-none : (u : UnitValue) → EmptiesBelow u 0
EmptiesBelow-none u lawful p below = absurd (omega arith)

-- the buffer of processor p is drained after the earlier ones
pub EmptiesBelow-next : (old new : UnitValue) (p : ℕ) → EmptiesBelow old p → TakesDrains old new p (suc p) → IsUnit new → waiting_of new p ≡ 0 → EmptiesBelow new (suc p)
EmptiesBelow-next old new p before drains kept none lawful q below =
    elim (cases_lt q p) [
      | inl earlier ↦
          let start = first_state old.first in
          let same : buffer_of (after start (old.steps ++ drains.drained)) q ≡ [] =
          ap (λ s. buffer_of s q) (after-append start old.steps drains.drained)
          ∙ after-drains (after start old.steps) p (suc p) q drains.drained drains.drains earlier
          ∙ before (sym drains.kept.lawful ∙ lawful) q earlier in
          rw (drains.kept.first, drains.steps) same
      | inr later ↦
          let e : q ≡ p = omega arith in
          no_entry _ (sym (kept.waiting lawful q) ∙ ap (waiting_of new) e ∙ none)
    ]

run_within : (order other : Order) (memory : List ℕ) (steps : List Step) → is_within order other ≡ true → IsRun order memory steps → IsRun other memory steps
run_within Tso Tso memory steps within run = run
run_within Tso Pso memory steps within run = IsRunFrom-pso (first_state memory) steps run
run_within Pso Tso memory steps within run = absurd cc
run_within Pso Pso memory steps within run = run

both : (a b : Bool) → (a && b) ≡ true → (a ≡ true) × (b ≡ true)
both true b e = (refl, e)
both false b e = absurd cc

-- what a lawful unit took, once its buffers are empty
complete : (program : ProgramValue) (unit : UnitValue) → AreOpsOf program unit.steps → IsFirstMemory program.setting.first unit.first → EmptiesBelow unit (length program.lists) →
    IsUnit unit → unit.lawful ≡ true → is_within unit.order program.setting.order ≡ true → IsCompleteRun program.setting (length program.lists) unit.steps
complete program unit ops first empty kept lawful within =
    let count = length program.lists in
    let below = runs_below unit.order count (first_state unit.first) unit.steps (kept.run lawful) (outcomes_past program unit.steps ops) (λ p past. first-empty unit.first p) in
    record {
      memory = unit.first;
      first = first;
      run = run_within unit.order program.setting.order unit.first unit.steps within (kept.run lawful);
      empty = λ p. elim (cases_lt p count) [ inl early ↦ empty lawful p early | inr past ↦ below.1 p past ];
      processors = below.0;
    }

-- the lists of all processors are a run's of the program
same_program : (program : ProgramValue) (steps : List Step) → AreOpsOf program steps → program_of (trace_of program.setting (length program.lists) steps) ≡ program
same_program program steps ops = ap (program_of_lists program.setting) (program_lists program steps ops)

pub is_trace : (program : ProgramValue) (steps : List Step) (count : ℕ) (lists : List (List Outcome)) → count ≡ length program.lists → lists ≡ lists_from 0 count steps →
    AreOpsOf program steps → IsProgram program → All ReadFits (flat_map (λ ops. ops) lists) → IsTrace (trace_of_lists program.setting lists)
is_trace program steps count lists counted are ops kept fits = record {
  program =
      rw (are, counted) (subst IsProgram (sym (same_program program steps ops)) kept);
  reads = fits;
}

-- the record of these values
pub record_of : (program : ProgramValue) (unit : UnitValue) (count : ℕ) (lists : List (List Outcome)) (r : RecordedValue) → AreOpsOf program unit.steps →
    count ≡ length program.lists → lists ≡ lists_from 0 count unit.steps → r.design ≡ unit.design → r.trace ≡ trace_of_lists program.setting lists → r.steps ≡ unit.steps →
    r.lawful ≡ (unit.lawful && is_within unit.order program.setting.order) → IsRecordOf program unit r
record_of program unit count lists r ops counted are design trace steps lawful =
    let whole : r.trace ≡ trace_of program.setting (length program.lists) unit.steps =
    trace ∙ ap (trace_of_lists program.setting) (are ∙ ap (λ n. lists_from 0 n unit.steps) counted) in
    record {
      design = design;
      trace = whole;
      ops = ap program_of whole ∙ same_program program unit.steps ops;
      steps = steps;
      lawful = lawful;
    }

-- what a trace of these steps is
recorded_at : (setting : SettingValue) (count : ℕ) (steps : List Step) (r : RecordedValue) → r.trace ≡ trace_of setting count steps → r.steps ≡ steps →
    ((p : ℕ) → count ≤ p → outcomes_of p steps ≡ []) → (r.lawful ≡ true → IsCompleteRun setting count steps) → IsRecorded r
recorded_at setting count steps r trace is none run =
    let wide : length r.trace.lists ≡ count = ap (λ t. length t.lists) trace ∙ length-lists_from 0 count steps in
    let set : r.trace.setting ≡ setting = ap (λ t. t.setting) trace in
    record {
      trace = trace ∙ ap (λ s. trace_of s count steps) (sym set) ∙ ap (λ n. trace_of r.trace.setting n steps) (sym wide) ∙ ap (trace_of r.trace.setting (length r.trace.lists)) (sym is);
      all = λ p past. ap (outcomes_of p) is ∙ none p (omega (arith, wide, past));
      run = λ lawful.
          subst (λ n. IsCompleteRun r.trace.setting n r.steps) (sym wide)
          (subst (λ s. IsCompleteRun s count r.steps) (sym set) (subst (IsCompleteRun setting count) (sym is) (run lawful)));
    }

-- and it keeps what a record does
pub is_recorded : (program : ProgramValue) (unit : UnitValue) (r : RecordedValue) → AreOpsOf program unit.steps → IsFirstMemory program.setting.first unit.first →
    EmptiesBelow unit (length program.lists) → IsUnit unit → IsRecordOf program unit r → IsRecorded r
is_recorded program unit r ops first empty kept is =
    recorded_at program.setting (length program.lists) unit.steps r is.trace is.steps (outcomes_past program unit.steps ops)
    (λ lawful.
    let parts = both unit.lawful (is_within unit.order program.setting.order) (sym is.lawful ∙ lawful) in
    complete program unit ops first empty kept parts.0 parts.1)

balanced : (program : ProgramValue) (new : UnitValue) (account : Account) (r : RecordedValue) → IsAccountOf new.steps account → IsRecordOf program new r → IsRecorded r →
    r.lawful ≡ true → account.drains ≡ account.stores
balanced program new account r closed is kept lawful =
    let even = complete-balanced r.trace.setting (length r.trace.lists) r.steps (kept.run lawful) in
    let same : count_by is_drain new.steps ≡ count_by is_store new.steps = subst (λ steps. count_by is_drain steps ≡ count_by is_store steps) is.steps even in
    closed.drains ∙ same ∙ sym closed.stores

pub balanced_ok : (program : ProgramValue) (new : UnitValue) (account : Account) (result : Result RecordedValue AllocError) → IsAccountOf new.steps account →
    IfOk result (IsRecordOf program new) → IfOk result IsRecorded → IfOk result (λ r. r.lawful ≡ true → account.drains ≡ account.stores)
balanced_ok program new account (Ok r) closed is kept = balanced program new account r closed is kept
balanced_ok program new account (Err e) closed is kept = is

-- what a unit's end leaves
pub concluded : (program : ProgramValue) (old new : UnitValue) (account : Account) (result : Result RecordedValue AllocError) (steps : List Step) →
    TakesDrains old new 0 (length program.lists) → steps ≡ new.steps → IsAccountOf steps account → IfOk result (IsRecordOf program new) → IfOk result IsRecorded →
    Concludes program old account result
concluded program old new account result steps drained same closed is kept =
    let all : IsAccountOf new.steps account = subst (λ xs. IsAccountOf xs account) same closed in
    record { new = new; drained = drained; closed = all; recorded = is; balanced = balanced_ok program new account result all is kept }

-- what holds anyway holds where the answer is Ok
pub holds_ok : {X E : Type 0} (result : Result X E) (P : Type 0) → P → OnOk result P
holds_ok (Ok x) P p = p
holds_ok (Err e) P p = tt

pub when_both_ok : {X E : Type 0} (result : Result X E) (P Q R : Type 0) → OnOk result P → OnOk result Q → (P → Q → R) → OnOk result R
when_both_ok (Ok x) P Q R p q f = f p q
when_both_ok (Err e) P Q R p q f = tt

pub mapped_ok : {X E : Type 0} (result : Result X E) (P Q : Type 0) → OnOk result P → (P → Q) → OnOk result Q
mapped_ok (Ok x) P Q p f = f p
mapped_ok (Err e) P Q p f = tt
