use Rattle.std.proofs.Common.{◌≡◌, ◌<◌, ◌≤◌, ◌+◌, ◌-◌, ◌/◌, ◌∙◌, ap, subst, get_or, arith}
use Rattle.run_steps.specs.Places.{cell_count, parts_from}
use Rattle.run_steps.proofs.PartFacts.{part-next, part-past}
use Rattle.run_steps.proofs.places.Place.part.Goals as goal

pub returns-then-number-cells : goal.returns-then-number-cells
returns-then-number-cells c =
    part-past c.args.self.now.width (cell_count c.args.self.now) c.args.value c.args.number (subst (λ n. n ≤ c.args.number) c.cells.ensures c.if-number-cells.true)

pub loop-i-preserved : goal.loop-i-preserved
loop-i-preserved c =
    let width = c.args.self.now.width in
    let count = cell_count c.args.self.now in
    let i = c.loop-i._i in
    let number = c.args.number in
    let rest = c.loop-i.rest in
    let within : number < count = omega (arith, c.if-number-cells.false, c.cells.ensures) in
    let less : count - i - 1 ≡ count - (i + 1) = omega arith in
    let fewer : number - i - 1 ≡ number - (i + 1) = omega arith in
    c.loop-i.invariant ∙ part-next width (count - i) rest (number - i) (omega (arith, within, c.loop-i-test.true)) (omega (arith, c.loop-i-test.true))
    ∙ ap (λ n. get_or (parts_from width n (rest / 256)) (number - i - 1) 0) less ∙ ap (λ n. get_or (parts_from width (count - (i + 1)) (rest / 256)) n 0) fewer
