use Rattle.std.proofs.Common.{◌∙◌, ◌<◌, ◌++◌, List, ap, arith, length}
use Rattle.std.specs.List.{filter_map}
use Rattle.std.proofs.lemmas.List.{take_all}
use Rattle.tso_ops.specs.declared.ops.Outcome.{Outcome}
use Rattle.final_states.specs.FinalStates.{value_read}
use Rattle.outcome_reports.proofs.ReadValues.{all_values, values_next}
use Rattle.outcome_reports.proofs.values.values_of.Goals as goal

pub loop-p-preserved : goal.loop-p-preserved
loop-p-preserved c =
    let inside : c.loop-p.p < length c.args.trace.now.lists = omega (arith, c.processors-p-end.ensures.count, c.loop-p-test.true) in
    values_next c.args.trace.now.lists c.loop-p.p _ _ _ inside c.loop-p.invariant (c.in_ok-push_values.ensures ∙ ap (λ (list : List Outcome). c.loop-p.values.items ++ filter_map value_read list) c.ops.ensures)

pub returns : goal.returns
returns c = c.loop-p.invariant ∙ ap all_values (take_all c.loop-p.p c.args.trace.now.lists (omega (arith, c.processors-p-end.ensures.count, c.loop-p-test.false)))
