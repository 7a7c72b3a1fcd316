use Rattle.std.proofs.Common.{◌≡◌, None, drop}
use Rattle.run_steps.specs.Places.{overlaps}
use Rattle.run_steps.proofs.WaitingFacts.{newest_by}
use Rattle.run_steps.proofs.processors.newest_sharing.Given as goal

abbrev pub invariant-loop-k : goal.invariant-loop-k
invariant-loop-k l = newest_by (λ w. overlaps w.place l.place) (drop l.k l.waiting) None ≡ None
