use Rattle.std.proofs.Common.{ℕ, ◌<◌}
use Rattle.tso_model.specs.Axioms.{place}
use Rattle.order_check.specs.Refusals.{MeetsAll}
use Rattle.order_check.specs.Internal.Progress.{HasPassed}
use Rattle.order_check.proofs.checks.check_axioms.Given as goal

-- the axioms are met at the events passed
abbrev pub invariant-loop-number : goal.invariant-loop-number
invariant-loop-number l = record {
  passed : HasPassed l.trace l.order l.number-index l.progress;
  met : (m : ℕ) → place l.order m < l.number-index → MeetsAll l.trace l.order m;
}
