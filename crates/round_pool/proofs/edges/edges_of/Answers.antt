use Rattle.std.proofs.Common.{◌≡◌, ◌∙◌, length, sym, subst, arith}
use Rattle.bitsets.specs.Rows.{IsAscending as IsAscendingRow}
use Rattle.tso_ops.specs.Values.{rows}
use Rattle.tso_rules.proofs.VectorFacts.{row_at}
use Rattle.round_pool.specs.Internal.EdgeLists.{AreEdgesOf}
use Rattle.round_pool.proofs.EdgeFacts.{edges_none, edges_row}
use Rattle.round_pool.proofs.edges.edges_of.Goals as goal

pub push_row-requires : goal.push_row-requires
push_row-requires c = c.requires.below c.loop-i.i 0 (omega (arith, c.loop-i-test.true, c.requires.count))

pub loop-i-init : goal.loop-i-init
loop-i-init c = edges_none c.args.numbers.now (rows c.args.made.now) c.new-edges.result.items c.new-edges.ensures.items

pub loop-i-preserved : goal.loop-i-preserved
loop-i-preserved c =
    let row = c.deref.ensures.value ∙ row_at c.args.made.now c.loop-i.i c.index-made-i.result c.loop-i-test.true c.index-made-i.is in
    edges_row c.args.numbers.now (rows c.args.made.now) c.loop-i.i c.loop-i.edges.items c.push_row.new.edges.items c.deref.result.now c.loop-i.invariant c.requires.ascending
    (omega (arith, c.loop-i-test.true, c.requires.count)) row (subst IsAscendingRow (sym row) (c.requires.rows.ascending c.loop-i.i)) c.in_ok-push_row.ensures

pub returns : goal.returns
returns c =
    let all : c.loop-i.i ≡ length c.args.numbers.now = omega (arith, c.loop-i.auto.i-end, c.loop-i-test.false, c.requires.count) in
    subst (λ n. AreEdgesOf c.args.numbers.now (rows c.args.made.now) n c.loop-i.edges.items) all c.loop-i.invariant
