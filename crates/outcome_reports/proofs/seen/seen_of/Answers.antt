use Rattle.std.proofs.Common.{List, map, subst, sym}
use Rattle.std.specs.Global.{Vec}
use Rattle.tso_ops.specs.declared.ops.Outcome.{Outcome}
use Rattle.final_states.specs.declared.states.FinalState.{FinalState}
use Rattle.final_states.specs.FinalStates.{AreFinalStatesOf, state_of}
use Rattle.outcome_reports.specs.Internal.Counting.{traces_by}
use Rattle.outcome_reports.specs.Outcomes.{AreTracesOf}
use Rattle.outcome_reports.proofs.seen.seen_of.Goals as goal

pub count_traces-requires : goal.count_traces-requires
count_traces-requires g c =
    let program = c.args.program.now in
    let found = subst (λ (states : List FinalState). AreFinalStatesOf program (map (state_of program) states)) (sym c.deref.ensures.value) c.in-Ok.ensures.found in
    subst (λ (traces : List (Vec (Vec Outcome))). AreTracesOf program (traces_by program.setting traces)) (sym c.deref-in-Ok.ensures.value) (c.in_ok-traces-in-Ok.ensures.all program found)
