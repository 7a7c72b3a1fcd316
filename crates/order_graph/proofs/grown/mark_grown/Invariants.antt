use Rattle.bitsets.proofs.TableFacts.{Leaves}
use Rattle.order_graph.proofs.GrownFacts.{IsMissing, IsMissingFrom}
use Rattle.order_graph.proofs.grown.mark_grown.Given as goal

abbrev pub invariant-loop-i : goal.invariant-loop-i
invariant-loop-i l =
    let t = l.transposed in
    Leaves l.initial.grown l.grown t.width (IsMissing t.words.now t.width l.u l.v) (IsMissingFrom t.words.now t.width l.u l.v l.i)
