use Rattle.std.proofs.Common.{◌≡◌, None, drop}
use Rattle.run_steps.specs.Places.{covers}
use Rattle.run_steps.proofs.WaitingFacts.{newest_by}
use Rattle.run_steps.proofs.processors.newest_over.Given as goal

abbrev pub invariant-loop-k : goal.invariant-loop-k
invariant-loop-k l = newest_by (λ w. covers w.place l.cell) (drop l.k l.waiting) None ≡ None
