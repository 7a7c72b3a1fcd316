use Rattle.std.proofs.Common.{◌≡◌, ◌∙◌, ◌+◌, ◌-◌, ◌/◌, ap, arith}
use Rattle.run_steps.specs.Widths.{above_bytes}
use Rattle.run_steps.proofs.PartFacts.{above-next}
use Rattle.run_steps.proofs.places.fits.Goals as goal

pub loop-i-preserved : goal.loop-i-preserved
loop-i-preserved c =
    let width = c.args.width in
    let i = c.loop-i._i in
    let less : width - (i + 1) ≡ width - i - 1 = omega arith in
    ap (λ n. above_bytes n (c.loop-i.rest / 256)) less ∙ above-next (width - i) c.loop-i.rest (omega (arith, c.loop-i-test.true)) ∙ c.loop-i.invariant
