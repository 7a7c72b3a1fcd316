-- The traces of a program's complete runs, and the traces of complete runs that are traces of the program.
use Rattle.std.proofs.Common.{◌≡◌, ◌∙◌, sym, ap, refl, subst, ℕ, zero, suc, ◌+◌, ◌≤◌, List, [], ◌∷◌, length, map, get_or, arith}
use Rattle.std.proofs.lemmas.Bool.{ne_eqb}
use Rattle.std.proofs.lemmas.List.{length-map}
use Rattle.std.proofs.Math.ListN.{get_or-map}
use Rattle.tso_ops.specs.declared.settings.Order.TheVariants.{Tso}
use Rattle.tso_ops.specs.Events.{processor_count}
use Rattle.tso_ops.specs.Limits.{IsTrace}
use Rattle.tso_ops.specs.Values.{ProgramValue, TraceValue, list_count, op_of, program_of}
use Rattle.tso_model.specs.Axioms.{IsConsistent}
use Rattle.unit_core.specs.declared.steps.Step.{Step}
use Rattle.unit_core.specs.Machine.{HasProcessors, IsCompleteRun, lists_from, outcomes_of, proc_of, trace_of}
use Rattle.unit_core.specs.Records.{AreOpsOf}
use Rattle.unit_core.proofs.OutcomeFacts.{length-lists_from}
use Rattle.completeness.specs.RecordedTraces.{IsTraceOfRun}
use Rattle.completeness.proofs.CompleteRuns.{consistent_of_run, run_of_consistent}
use Rattle.final_states.specs.FinalStates.{IsProgramRun, IsRunTrace}

-- ---- from a run of the program

trace_of_program_run : (program : ProgramValue) (steps : List Step) → IsProgramRun program steps → IsTraceOfRun (trace_of program.setting (list_count program) steps)
trace_of_program_run program steps run =
    let count = length-lists_from 0 (list_count program) steps in
    (steps, subst (λ n. IsCompleteRun program.setting n steps) (sym count) run.complete, ap (λ n. trace_of program.setting n steps) count)

pub run_trace_of_run : (program : ProgramValue) (t : TraceValue) → IsRunTrace program t → IsTraceOfRun t
run_trace_of_run program t (steps, run, is) = subst IsTraceOfRun (sym is) (trace_of_program_run program steps run)

-- ---- to a run of the program

-- a processor that has no step was answered nothing
nothing_answered : (p count : ℕ) (steps : List Step) → HasProcessors count steps → count ≤ p → outcomes_of p steps ≡ []
nothing_answered p count [] has past = refl
nothing_answered p count (step ∷ steps) has past =
    let other = ne_eqb (proc_of step) p (λ same. omega (arith, same, has.0, past)) in
    rw other (nothing_answered p count steps has.1 past)

-- what processor first + p was answered stands at place p
answered_at : (first count p : ℕ) (steps : List Step) → HasProcessors (first + count) steps → get_or (lists_from first count steps) p [] ≡ outcomes_of (first + p) steps
answered_at first zero p steps has = sym (nothing_answered (first + p) (first + 0) steps has (omega arith))
answered_at first (suc count) zero steps has = ap (λ q. outcomes_of q steps) (omega arith)
answered_at first (suc count) (suc p) steps has =
    let next : suc first + count ≡ first + suc count = omega arith in
    answered_at (suc first) count p steps (subst (λ n. HasProcessors n steps) (sym next) has)
    ∙ ap (λ q. outcomes_of q steps) (omega arith)

-- the steps are the operations of their trace
ops_of_trace : (t : TraceValue) (steps : List Step) → HasProcessors (processor_count t) steps → trace_of t.setting (processor_count t) steps ≡ t → AreOpsOf (program_of t) steps
ops_of_trace t steps has is p =
    let count : 0 + processor_count t ≡ processor_count t = omega arith in
    let at : get_or (lists_from 0 (processor_count t) steps) p [] ≡ outcomes_of (0 + p) steps =
    answered_at 0 (processor_count t) p steps (subst (λ n. HasProcessors n steps) (sym count) has) in
    let listed : get_or t.lists p [] ≡ outcomes_of p steps =
    ap (λ (u : TraceValue). get_or u.lists p []) (sym is) ∙ at ∙ ap (λ q. outcomes_of q steps) (omega arith) in
    ap (map op_of) (sym listed) ∙ sym (get_or-map (map op_of) t.lists p [])

run_of_own_program : (t : TraceValue) → IsTraceOfRun t → IsRunTrace (program_of t) t
run_of_own_program t (steps, complete, is) =
    let count : length (map (map op_of) t.lists) ≡ processor_count t = length-map t.lists (map op_of) in (
      steps,
      record { complete = subst (λ n. IsCompleteRun t.setting n steps) (sym count) complete; ops = ops_of_trace t steps complete.processors is },
      sym is ∙ ap (λ n. trace_of t.setting n steps) (sym count),
    )

pub run_of_program : (program : ProgramValue) (t : TraceValue) → program_of t ≡ program → IsTraceOfRun t → IsRunTrace program t
run_of_program program t same run = subst (λ p. IsRunTrace p t) same (run_of_own_program t run)

-- ---- the law

pub exactly_consistent : (program : ProgramValue) (t : TraceValue) → program.setting.order ≡ Tso → IsTrace t → program_of t ≡ program → IsConsistent t → IsRunTrace program t
exactly_consistent program t tso trace same consistent =
    run_of_program program t same (run_of_consistent t (ap (λ (p : ProgramValue). p.setting.order) same ∙ tso) trace consistent)

pub run_is_consistent : (program : ProgramValue) (t : TraceValue) → IsRunTrace program t → IsConsistent t
run_is_consistent program t run = consistent_of_run t (run_trace_of_run program t run)
