use Rattle.std.proofs.Common.{◌≡◌, drop}
use Rattle.std.specs.List.{find}
use Rattle.run_steps.specs.Places.{overlaps}
use Rattle.run_steps.proofs.processors.oldest_over.Given as goal

abbrev pub invariant-loop-store : goal.invariant-loop-store
invariant-loop-store l = find (λ w. overlaps w.place l.place) (drop l.store-index l.waiting) ≡ find (λ w. overlaps w.place l.place) l.waiting
