use Rattle.std.proofs.Common.{ℕ, subst}
use Rattle.std.specs.Prelude.{Option}
use Rattle.tso_ops.specs.Values.{rows}
use Rattle.final_states.specs.FinalStates.{values_read}
use Rattle.outcome_reports.specs.Internal.Counting.{IsPlaceOf}
use Rattle.outcome_reports.proofs.TraceClassFacts.{seen_nowhere, seen_there}
use Rattle.outcome_reports.proofs.classes.class_of_trace.Goals as goal

pub returns-in-Some-clause-class : goal.returns-in-Some-clause-class
returns-in-Some-clause-class c = λ traces are reads.
    let keys = rows c.args.keys.now in
    let same = c.in_ok-is_of_program.ensures.0 c.if-not-branch.false in
    seen_there c.args.program.now traces keys c.args.trace.now are reads same c.in-Some.k (subst (λ (place : Option ℕ). IsPlaceOf keys (values_read c.args.trace.now) place) c.in-Some.is c.in_ok-k.ensures.place)

pub returns-in-None-clause-class : goal.returns-in-None-clause-class
returns-in-None-clause-class c = λ traces are reads.
    let keys = rows c.args.keys.now in
    let same = c.in_ok-is_of_program.ensures.0 c.if-not-branch.false in
    seen_nowhere c.args.program.now traces keys c.args.trace.now are reads same (subst (λ (place : Option ℕ). IsPlaceOf keys (values_read c.args.trace.now) place) c.in-None.is c.in_ok-k.ensures.place)
