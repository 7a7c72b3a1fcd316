use Rattle.order_graph.proofs.Reached.{TestsRow}
use Rattle.order_graph.proofs.forward.tests_of_row.Given as goal

abbrev pub invariant-loop-y : goal.invariant-loop-y
invariant-loop-y l = TestsRow l.table.words.now l.table.width l.x l.tests.items l.y
