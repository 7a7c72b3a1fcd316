use Rattle.std.proofs.Common.{◌/◌}
use Rattle.order_graph.proofs.ClosingFacts.{Advances}
use Rattle.order_graph.proofs.closing.advance.Given as goal

abbrev pub invariant-loop-j : goal.invariant-loop-j
invariant-loop-j l = Advances l.reached l.transposed.words.now l.initial.seen l.seen l.initial.levels l.levels l.transposed.width l.start l.row (l.start / 64) l.j l.all
