use Rattle.acyclic_traces.proofs.pairs.joined_rows.Given as goal

abbrev pub decreases-loop-left : goal.decreases-loop-left
decreases-loop-left l = l.left
