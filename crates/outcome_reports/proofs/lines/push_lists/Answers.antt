use Rattle.std.proofs.Common.{◌∙◌, List, ap, subst, string_bytes}
use Rattle.std.specs.List.{filter_map}
use Rattle.std.specs.Global.{Vec}
use Rattle.tso_ops.specs.declared.ops.Outcome.{Outcome}
use Rattle.final_states.specs.FinalStates.{value_read}
use Rattle.outcome_reports.specs.Internal.PartLines.{GetsParts}
use Rattle.outcome_reports.specs.StateLines.{value_parts}
use Rattle.outcome_reports.proofs.LineFacts.{lists_more}
use Rattle.outcome_reports.proofs.lines.push_lists.Goals as goal

pub loop-p-preserved : goal.loop-p-preserved
loop-p-preserved c =
    let same = c.deref.ensures.value ∙ ap (λ (row : Vec Outcome). row.items) c.index-lists-p.is in
    let more =
    subst (λ (list : List Outcome). GetsParts (string_bytes c.loop-p.text) c.loop-p.begun (string_bytes c.push_values.new.text) c.push_values.new.begun (value_parts c.loop-p.p 0 (filter_map value_read list))) same
    c.in_ok-push_values.ensures in
    lists_more c.loop-p.p c.args.lists.now c.index-lists-p.result _ _ _ _ _ _ c.loop-p-test.true c.loop-p.invariant more
