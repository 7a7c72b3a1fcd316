use Rattle.std.proofs.Common.{refl}
use Rattle.refutation_check.specs.Refusals.{IsLineUpTo}
use Rattle.cert_check.proofs.Facts.{all_more, all_of}
use Rattle.refutation_check.proofs.ranges.are_lines_up_to.Goals as goal

pub loop-line-preserved : goal.loop-line-preserved
loop-line-preserved c =
    all_more (IsLineUpTo c.args.last) c.args.lines.now c.loop-line.line-index c.line-item.result c.loop-line-test.true c.line-item.is c.loop-line.invariant
    (c.if-not-is_line_up_to.ensures.0 refl)

pub returns : goal.returns
returns c = all_of (IsLineUpTo c.args.last) c.args.lines.now c.loop-line.line-index c.loop-line-test.false c.loop-line.invariant
