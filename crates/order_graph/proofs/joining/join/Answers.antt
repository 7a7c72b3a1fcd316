use Rattle.std.proofs.Common.{◌≡◌, ◌+◌, ◌*◌, ◌-◌, ◌%◌, ◌^◌, slice_index_or, refl, subst, sym, arith, rules}
use Rattle.bitsets.specs.Rows.{HasBit}
use Rattle.bitsets.proofs.WordFacts.{HasBit-and}
use Rattle.order_graph.proofs.AddedBits.{Joins-step, AreTransposed-swap, given_below}
use Rattle.order_graph.proofs.joining.join.Goals as goal

pub join_rows-requires-clause-rows : goal.join_rows-requires-clause-rows
join_rows-requires-clause-rows c = λ k h b.
    let m : (64 * c.loop-i.i + k) % 64 ≡ k = omega arith in
    let source = ((HasBit-and c.with_bit-sources.result (2 ^ 64 - 1 - slice_index_or c.loop-i.transposed (c.args.v * c.args.size.width + c.loop-i.i) 0) k).0 b).0 in
    given_below c.loop-i.transposed c.loop-i.table c.args.size.width c.args.size.nodes c.args.u c.loop-i.i c.with_bit-sources.result (AreTransposed-swap _ _ _ _ c.loop-i.invariant.transposed) c.requires.from (omega arith)
    c.with_bit-sources.ensures (64 * c.loop-i.i + k) (omega arith) (subst (λ n. HasBit c.with_bit-sources.result n) (sym m) source)

pub loop-i-preserved : goal.loop-i-preserved
loop-i-preserved c =
    Joins-step c.args.table.now c.loop-i.table c.loop-i.transposed c.join_rows.new.table c.join_rows.new.transposed c.args.size.width c.args.size.nodes c.args.u c.args.v c.loop-i.i
    c.with_bit-sources.result _ c.loop-i.invariant c.requires.transitive (omega arith) c.requires.fits c.requires.from c.requires.to (search rules) c.with_bit-sources.ensures refl
    c.join_rows.ensures.added c.join_rows.ensures.transposed
