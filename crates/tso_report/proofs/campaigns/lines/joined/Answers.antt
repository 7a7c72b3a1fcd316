use Rattle.std.proofs.Common.{◌∙◌, ◌++◌, ap}
use Rattle.tso_report.proofs.CampaignFacts.{joined_more}
use Rattle.tso_report.proofs.campaigns.lines.joined.Goals as goal

pub loop-text-preserved : goal.loop-text-preserved
loop-text-preserved c =
    joined_more c.args.texts.now c.loop-text.text-index c.text-item.result c.loop-text.joined.items c.extend_from_slice.new.self.items c.loop-text-test.true c.text-item.is c.loop-text.invariant
    (c.in_ok-extend_from_slice.ensures.items ∙ ap (λ xs. c.loop-text.joined.items ++ xs) c.deref.ensures.value)
