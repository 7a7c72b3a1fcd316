use Rattle.std.proofs.Common.{arith}
use Rattle.tso_evidence.proofs.PrintFacts.{line-printed}
use Rattle.tso_evidence.proofs.PrintedFacts.{number_after-low}
use Rattle.tso_evidence.proofs.printers.print_lines.Goals as goal

pub loop-line-preserved : goal.loop-line-preserved
loop-line-preserved c = (
  line-printed _ _ _ c.args.lines.now c.loop-line.line-index c.loop-line.number c.number_after-number.result c.line-item.result c.loop-line-test.true c.line-item.is c.loop-line.invariant.0 c.in_ok-print_line.ensures.line c.in_ok-print_line.ensures.fits
      c.number_after-number.ensures,
  omega (arith, c.loop-line.invariant.1, c.number_after-number.ensures, number_after-low c.loop-line.number c.line-item.result),
)
