use Rattle.std.proofs.Common.{codes, string_bytes}
use Rattle.log_reports.proofs.TextFacts.{numbered_more}
use Rattle.log_reports.specs.LogTexts.{violation_text}
use Rattle.log_reports.proofs.rendering.push_numbered.Goals as goal

pub loop-k-preserved : goal.loop-k-preserved
loop-k-preserved c = numbered_more (violation_text c.args.explains c.args.tags.now c.args.processors) (codes "violation ") c.args.violations.now c.loop-k.k c.index-violations-k.result (string_bytes c.args.text.now) (string_bytes c.loop-k.text) (string_bytes c.write.new.self) (string_bytes c.push_violation.new.text) c.loop-k-test.true c.index-violations-k.is
    c.loop-k.invariant c.in_ok-write.ensures.bytes c.in_ok-push_violation.ensures
