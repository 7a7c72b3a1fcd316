use Rattle.std.proofs.Common.{ℕ, ◌<◌}
use Rattle.order_check.specs.Refusals.{IsNoEventAt}
use Rattle.order_check.proofs.places.first_no_event.Given as goal

abbrev pub invariant-loop-k : goal.invariant-loop-k
invariant-loop-k l = (j : ℕ) → j < l.k → IsNoEventAt l.trace l.order j → ⊥
