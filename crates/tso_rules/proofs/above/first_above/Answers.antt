use Rattle.std.proofs.Common.{get_or, refl, arith}
use Rattle.tso_rules.proofs.AboveFacts.{first_above_is, none_above_more, none_above}
use Rattle.tso_rules.proofs.above.first_above.Goals as goal

pub overflow_mul-result : goal.overflow_mul-result
overflow_mul-result c =
    let one = c.args.one.now in
    let found = first_above_is one c.args.two.now c.args.other.now c.args.n c.loop-j.j (get_or one c.loop-j.j 0) c.word_at.result c.word_at-in-loop-j.result c.word_above.result
    (record { first = refl; second = c.word_at.ensures; left_out = c.word_at-in-loop-j.ensures; fits = omega arith; above_fits = omega arith; above = c.word_above.ensures })
    c.loop-j.invariant (omega arith) in
    omega (arith, c.requires _ found.0.1)

pub overflow_add-result : goal.overflow_add-result
overflow_add-result c =
    let one = c.args.one.now in
    let found = first_above_is one c.args.two.now c.args.other.now c.args.n c.loop-j.j (get_or one c.loop-j.j 0) c.word_at.result c.word_at-in-loop-j.result c.word_above.result
    (record { first = refl; second = c.word_at.ensures; left_out = c.word_at-in-loop-j.ensures; fits = omega arith; above_fits = omega arith; above = c.word_above.ensures })
    c.loop-j.invariant (omega arith) in
    omega (arith, c.requires _ found.0.1)

pub returns-then-word-ne0 : goal.returns-then-word-ne0
returns-then-word-ne0 c =
    let one = c.args.one.now in
    first_above_is one c.args.two.now c.args.other.now c.args.n c.loop-j.j (get_or one c.loop-j.j 0) c.word_at.result c.word_at-in-loop-j.result c.word_above.result
    (record { first = refl; second = c.word_at.ensures; left_out = c.word_at-in-loop-j.ensures; fits = omega arith; above_fits = omega arith; above = c.word_above.ensures }) c.loop-j.invariant (omega arith)

pub loop-j-preserved : goal.loop-j-preserved
loop-j-preserved c =
    let one = c.args.one.now in
    none_above_more one c.args.two.now c.args.other.now c.args.n c.loop-j.j (get_or one c.loop-j.j 0) c.word_at.result c.word_at-in-loop-j.result c.word_above.result
    (record { first = refl; second = c.word_at.ensures; left_out = c.word_at-in-loop-j.ensures; fits = omega arith; above_fits = omega arith; above = c.word_above.ensures }) c.loop-j.invariant
    c.if-word-ne0.false

pub returns : goal.returns
returns c = none_above c.args.one.now c.args.two.now c.args.other.now c.args.n c.loop-j.j c.loop-j-test.false c.loop-j.invariant
