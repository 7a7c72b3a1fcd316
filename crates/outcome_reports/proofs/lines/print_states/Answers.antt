use Rattle.std.proofs.Common.{◌∙◌, ◌++◌, ◌∷◌, [], ap, length, string_bytes, sym}
use Rattle.std.specs.Prelude.{codes}
use Rattle.std.specs.Fmt.{decimal}
use Rattle.std.proofs.lemmas.List.{append-nil}
use Rattle.final_states.specs.declared.states.FinalState.{FinalState}
use Rattle.final_states.specs.FinalStates.{state_of}
use Rattle.outcome_reports.specs.StateLines.{state_line}
use Rattle.outcome_reports.proofs.LineFacts.{states_all, states_more}
use Rattle.outcome_reports.proofs.lines.print_states.Goals as goal

pub loop-state-init : goal.loop-state-init
loop-state-init c = λ program. c.in_ok-text.ensures.ok ∙ sym (append-nil _)

pub loop-state-preserved : goal.loop-state-preserved
loop-state-preserved c = λ program.
    let head = codes "States " ++ decimal (length c.args.states.now) ++ 10 ∷ [] in
    let line = ap (λ (s : FinalState). string_bytes c.loop-state.text ++ state_line (state_of program s)) c.state-item.is in
    states_more head _ _ program c.loop-state.state-index c.args.states.now c.state-item.result c.loop-state-test.true (c.loop-state.invariant program) (c.in_ok-print_state.ensures program ∙ line)

pub returns : goal.returns
returns c = λ program. states_all _ program c.loop-state.state-index c.args.states.now c.loop-state-test.false (c.loop-state.invariant program)
