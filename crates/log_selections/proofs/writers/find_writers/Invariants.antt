use Rattle.log_selections.specs.Internal.Writers.{FindsWriters}
use Rattle.log_selections.proofs.writers.find_writers.Given as goal

abbrev pub invariant-loop-k : goal.invariant-loop-k
invariant-loop-k l = FindsWriters l.accesses l.k l.writers
