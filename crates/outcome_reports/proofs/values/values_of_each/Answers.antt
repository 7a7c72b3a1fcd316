use Rattle.std.proofs.Common.{◌∙◌, List, ap, map}
use Rattle.std.specs.Global.{Vec}
use Rattle.std.proofs.lemmas.List.{take_all}
use Rattle.tso_ops.specs.declared.ops.Outcome.{Outcome}
use Rattle.tso_ops.specs.Values.{rows}
use Rattle.final_states.specs.FinalStates.{values_read}
use Rattle.outcome_reports.specs.Internal.Counting.{traces_by}
use Rattle.outcome_reports.proofs.ReadValues.{all_values, keys_next}
use Rattle.outcome_reports.proofs.values.values_of_each.Goals as goal

pub loop-lists-preserved : goal.loop-lists-preserved
loop-lists-preserved c = λ setting.
    let same = c.deref.ensures.value ∙ ap (λ (lists : Vec (Vec Outcome)). lists.items) c.lists-item.is in
    keys_next setting c.args.traces.now c.loop-lists.lists-index c.lists-item.result _ _ _ c.loop-lists-test.true (c.loop-lists.invariant setting) c.in_ok-push.ensures.items
    (c.in_ok-values_of_lists.ensures setting ∙ ap (λ (lists : List (Vec Outcome)). all_values (rows lists)) same)

pub returns : goal.returns
returns c = λ setting.
    c.loop-lists.invariant setting ∙ ap (λ (traces : List (Vec (Vec Outcome))). map values_read (traces_by setting traces)) (take_all c.loop-lists.lists-index c.args.traces.now c.loop-lists-test.false)
