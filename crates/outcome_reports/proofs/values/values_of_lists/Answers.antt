use Rattle.std.proofs.Common.{◌∙◌, ◌++◌, List, ap}
use Rattle.std.specs.List.{filter_map}
use Rattle.std.specs.Global.{Vec}
use Rattle.std.proofs.lemmas.List.{take_all}
use Rattle.tso_ops.specs.declared.ops.Outcome.{Outcome}
use Rattle.tso_ops.specs.Values.{rows}
use Rattle.final_states.specs.FinalStates.{value_read}
use Rattle.outcome_reports.proofs.ReadValues.{all_values, row_values_next}
use Rattle.outcome_reports.proofs.values.values_of_lists.Goals as goal

pub loop-list-preserved : goal.loop-list-preserved
loop-list-preserved c =
    let same = c.deref.ensures.value ∙ ap (λ (row : Vec Outcome). row.items) c.list-item.is in
    row_values_next c.args.lists.now c.loop-list.list-index c.list-item.result _ _ c.loop-list-test.true c.loop-list.invariant
    (c.in_ok-push_values.ensures ∙ ap (λ (list : List Outcome). c.loop-list.values.items ++ filter_map value_read list) same)

pub returns : goal.returns
returns c = λ setting. c.loop-list.invariant ∙ ap (λ (lists : List (Vec Outcome)). all_values (rows lists)) (take_all c.loop-list.list-index c.args.lists.now c.loop-list-test.false)
