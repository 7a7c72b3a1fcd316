use Rattle.std.proofs.Common.{◌≡◌, ◌+◌, drop}
use Rattle.tso_model.specs.Axioms.{place}
use Rattle.trace_pictures.proofs.labels.number_at.Given as goal

abbrev pub invariant-loop-other : goal.invariant-loop-other
invariant-loop-other l = (l.place ≡ l.other-index) × (place l.order l.n ≡ l.place + place (drop l.other-index l.order) l.n)
