use Rattle.std.proofs.Common.{◌-◌, suc, length}
use Rattle.tso_ops.specs.Events.{event_total}
use Rattle.decision_explanation.specs.Internal.Tables.{ArePlacesFrom}
use Rattle.decision_explanation.proofs.places.list_places.Given as goal

abbrev pub invariant-loop-done : goal.invariant-loop-done
invariant-loop-done l = ArePlacesFrom l.order (length l.order - l.done) (suc (event_total l.trace)) l.places.items
