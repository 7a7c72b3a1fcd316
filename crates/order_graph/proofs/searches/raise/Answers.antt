use Rattle.std.proofs.lemmas.Bool.{both_ways}
use Rattle.order_graph.proofs.SearchesFacts.{Raised-set, Raised-skip}
use Rattle.order_graph.proofs.searches.raise.Goals as goal
use Rattle.order_graph.proofs.searches.raise.Goals.{then-is_above, else-is_above}

pub loop-x-preserved : goal.loop-x-preserved
loop-x-preserved c =
    let old = c.args.levels.now in
    elim c.if-is_above.branch [
      | then-is_above w ↦ rw w.levels-is (Raised-set c.args.tables.edges.now c.args.tables.paths.now c.args.tables.transposed.now old c.loop-x.levels w.set_bit.new.table c.args.tables.width c.args.u c.args.v c.args.count c.loop-x.x
          c.loop-x.invariant (c.is_above.ensures.0 w.if-is_above.true) w.set_bit.ensures)
      | else-is_above w ↦ rw w.levels-is (Raised-skip c.args.tables.edges.now c.args.tables.paths.now c.args.tables.transposed.now old c.loop-x.levels c.args.tables.width c.args.u c.args.v c.args.count c.loop-x.x
          c.loop-x.invariant (λ a. both_ways c.is_above.result w.if-is_above.false (c.is_above.ensures.1 a)))
    ]
