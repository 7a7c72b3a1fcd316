use Rattle.tso_cert.proofs.PrintFacts.{steps-printed}
use Rattle.tso_cert.proofs.printers.print_steps.Goals as goal

pub loop-k-preserved : goal.loop-k-preserved
loop-k-preserved c =
    steps-printed _ _ _ c.args.steps.now c.loop-k.k c.index-steps-k.result c.loop-k-test.true c.index-steps-k.is c.loop-k.invariant c.in_ok-print_step.ensures.line c.in_ok-print_step.ensures.fits
