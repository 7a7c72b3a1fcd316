use Rattle.std.proofs.Common.{◌≡◌, ◌++◌, ◌∷◌, [], length, map, take, string_bytes}
use Rattle.std.specs.Prelude.{codes}
use Rattle.std.specs.Fmt.{decimal}
use Rattle.std.specs.List.{flat_map}
use Rattle.tso_ops.specs.Values.{ProgramValue}
use Rattle.final_states.specs.FinalStates.{state_of}
use Rattle.outcome_reports.specs.StateLines.{state_line}
use Rattle.outcome_reports.proofs.lines.print_states.Given as goal

abbrev pub invariant-loop-state : goal.invariant-loop-state
invariant-loop-state l =
    (program : ProgramValue) →
    string_bytes l.text ≡ (codes "States " ++ decimal (length l.states) ++ 10 ∷ []) ++ flat_map state_line (map (state_of program) (take l.state-index l.states))
