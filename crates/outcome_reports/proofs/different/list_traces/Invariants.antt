use Rattle.std.proofs.Common.{map, take}
use Rattle.std.specs.List.{All}
use Rattle.tso_ops.specs.Limits.{IsTrace}
use Rattle.tso_ops.specs.Values.{ProgramValue}
use Rattle.final_states.specs.FinalStates.{AreFinalStatesOf, state_of}
use Rattle.outcome_reports.specs.Internal.Counting.{traces_by}
use Rattle.outcome_reports.specs.Internal.TraceLists.{HasTracesOf}
use Rattle.outcome_reports.proofs.different.list_traces.Given as goal

abbrev pub invariant-loop-state : goal.invariant-loop-state
invariant-loop-state l = record {
  has : (program : ProgramValue) → AreFinalStatesOf program (map (state_of program) l.states) → HasTracesOf program (map (state_of program) (take l.state-index l.states)) (traces_by program.setting l.traces.items);
  lawful : (program : ProgramValue) → All (λ state. IsTrace (state_of program state).trace) l.states → All IsTrace (traces_by program.setting l.traces.items);
}
