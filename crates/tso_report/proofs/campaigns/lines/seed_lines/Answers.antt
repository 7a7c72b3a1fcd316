use Rattle.std.proofs.Common.{string_bytes}
use Rattle.tso_report.proofs.CampaignFacts.{lines-written}
use Rattle.tso_report.proofs.campaigns.lines.seed_lines.Goals as goal

pub loop-i-preserved : goal.loop-i-preserved
loop-i-preserved c =
    lines-written c.args.first c.args.violations.now c.loop-i.i c.verdict_line-verdict.result.now (string_bytes c.loop-i.text) (string_bytes c.write.new.self) c.loop-i-test.true
    c.verdict_line-verdict.ensures c.loop-i.invariant c.in_ok-write.ensures.bytes
