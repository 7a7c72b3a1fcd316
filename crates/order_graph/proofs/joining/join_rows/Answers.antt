use Rattle.std.proofs.Common.{◌≡◌, ◌<◌, ◌+◌, ◌*◌, ◌%◌, subst, sym, arith}
use Rattle.bitsets.specs.Rows.{HasBit}
use Rattle.order_graph.proofs.AddedBits.{Widens, Adds-none, Widens-start, Widens-step, Widens-end, given_below}
use Rattle.bitsets.proofs.TableFacts.{row_within}
use Rattle.order_graph.proofs.joining.join_rows.Goals as goal

pub set_words-fresh-requires-clause-within : goal.set_words-fresh-requires-clause-within
set_words-fresh-requires-clause-within c = λ k h b.
    let a = c.args in
    omega (arith, row_within (64 * a.i + k) a.size.nodes a.size.width (c.requires.rows k h b), c.loop-j.invariant.transposed.table_sized)

pub set_words-requires-clause-within : goal.set_words-requires-clause-within
set_words-requires-clause-within c = λ k h b.
    let a = c.args in
    let m : (64 * c.loop-j.j + k) % 64 ≡ k = omega arith in
    let given = c.set_words-fresh.ensures.some k h b in
    let below : 64 * c.loop-j.j + k < a.size.nodes =
    given_below c.loop-j.table c.loop-j.transposed a.size.width a.size.nodes a.v c.loop-j.j c.with_bit-given.result c.loop-j.invariant.transposed c.requires.given (omega arith) c.with_bit-given.ensures
    (64 * c.loop-j.j + k) (omega arith) (subst (λ n. HasBit c.with_bit-given.result n) (sym m) given) in
    omega (arith, row_within (64 * c.loop-j.j + k) a.size.nodes a.size.width below, c.loop-j.invariant.transposed.transposed_sized)

pub returns-then-rows-eq0-clause-added : goal.returns-then-rows-eq0-clause-added
returns-then-rows-eq0-clause-added c = Adds-none c.args.table.now c.args.size.width c.args.i c.args.rows c.args.v (omega arith)

pub loop-j-init : goal.loop-j-init
loop-j-init c =
    let a = c.args in
    Widens-start a.table.now a.transposed.now a.size.width a.size.nodes a.i a.rows a.v c.requires.transposed

pub loop-j-preserved : goal.loop-j-preserved
loop-j-preserved c =
    let a = c.args in
    Widens-step a.table.now c.loop-j.table c.loop-j.transposed c.set_words-fresh.new.table c.set_words.new.table a.size.width a.size.nodes a.i a.rows a.v c.loop-j.j
    c.with_bit-given.result c.set_words-fresh.result c.loop-j.invariant (omega arith) c.requires.fits c.requires.given
    (λ x at b. let e : 64 * a.i + x % 64 ≡ x = omega (arith, at) in subst (λ n. n < a.size.nodes) e (c.requires.rows (x % 64) (omega arith) b))
    c.with_bit-given.ensures (omega arith) (omega arith) c.set_words-fresh.ensures.added c.set_words-fresh.ensures.some
    (λ x y at b ej g. c.set_words-fresh.ensures.fresh x y at b ej g) c.set_words.ensures.added

pub returns-clause-added : goal.returns-clause-added
returns-clause-added c =
    let a = c.args in
    let done : c.loop-j.j ≡ a.size.width = omega arith in
    Widens-end a.table.now c.loop-j.table c.loop-j.transposed a.size.width a.size.nodes a.i a.rows a.v
    (subst (λ n. Widens a.table.now c.loop-j.table c.loop-j.transposed a.size.width a.size.nodes a.i a.rows a.v n) done c.loop-j.invariant)
