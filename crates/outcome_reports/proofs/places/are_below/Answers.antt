use Rattle.std.proofs.Common.{◌<◌, arith, length, sym}
use Rattle.outcome_reports.proofs.ValueOrder.{below_at, below_never}
use Rattle.outcome_reports.proofs.places.are_below.Goals as goal

pub returns-then-one-i : goal.returns-then-one-i
returns-then-one-i c =
    let least = c.min-i-end.ensures in
    let test = c.loop-i-test.true in
    let inside : c.loop-i.i < length c.args.one.now = omega (arith, least, test) in
    let within : c.loop-i.i < length c.args.other.now = omega (arith, least, test) in
    sym (below_at c.loop-i.i c.args.one.now c.args.other.now c.loop-i.invariant inside within c.if-one-i.true)

pub returns : goal.returns
returns c = sym (below_never c.loop-i.i c.args.one.now c.args.other.now c.loop-i.invariant (let least = c.min-i-end.ensures in let test = c.loop-i-test.false in omega (arith, least, test)))
