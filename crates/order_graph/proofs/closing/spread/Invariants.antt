use Rattle.bitsets.proofs.TableFacts.{Leaves}
use Rattle.order_graph.proofs.ClosingFacts.{NextFrom}
use Rattle.order_graph.proofs.closing.spread.Given as goal

abbrev pub invariant-loop-i : goal.invariant-loop-i
invariant-loop-i l = Leaves l.initial.reached l.reached l.edges.width (NextFrom l.edges.words.now l.levels l.edges.width l.count l.first l.first) (NextFrom l.edges.words.now l.levels l.edges.width l.count l.first l.i)
