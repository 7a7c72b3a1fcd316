use Rattle.std.proofs.Common.{ℕ, ◌<◌}
use Rattle.tso_ops.specs.Values.{TraceValue}
use Rattle.tso_model.specs.Axioms.{place}
use Rattle.order_check.specs.Refusals.{MeetsAll}
use Rattle.log_order_check.specs.Internal.Progress.{HasPassed}
use Rattle.log_order_check.specs.Internal.Tables.{AreTables}
use Rattle.log_order_check.proofs.checks.check_axioms.Given as goal

-- the axioms are met at the events passed
abbrev pub invariant-loop-number : goal.invariant-loop-number
invariant-loop-number l = record {
  passed : (t : TraceValue) → AreTables t l.order l.tables → HasPassed t l.order l.tables.places.items l.number-index l.progress;
  met : (t : TraceValue) → AreTables t l.order l.tables → (m : ℕ) → place l.order m < l.number-index → MeetsAll t l.order m;
}
