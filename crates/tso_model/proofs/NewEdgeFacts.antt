-- What inferred rules give over a relation that stands for the paths, and what a round adds.
use Rattle.std.proofs.Common.{ℕ, suc, ◌<◌}
use Rattle.order_paths.proofs.Reach.{Reaches-mono}
use Rattle.tso_ops.specs.Values.{TraceValue}
use Rattle.tso_ops.specs.Events.{event_total}
use Rattle.tso_cert.specs.declared.rules.InferredRule.{InferredRule}
use Rattle.tso_model.specs.NewEdges.{IsGivenBy, IsNew}
use Rattle.tso_model.proofs.Bounds.{InferredBy-within}
use Rattle.tso_model.proofs.LastRankSet.{IsInferred-mono}

-- what a rule gives lies within the numbers of events, and so does the load
pub given_within : (t : TraceValue) (rule : InferredRule) (l : ℕ) (Path : ℕ → ℕ → Type 0) (u v : ℕ) → IsGivenBy t rule l Path u v →
    (l < suc (event_total t)) × (u < suc (event_total t)) × (v < suc (event_total t))
given_within t rule l Path u v given =
    let within = InferredBy-within t rule l u v given.0 given.1 given.2 in
    (within.load, within.from, within.to)

-- what a round adds lies within the numbers of events
pub new_within : (t : TraceValue) (Edge : ℕ → ℕ → Type 0) (u v : ℕ) → IsNew t Edge u v → (u < suc (event_total t)) × (v < suc (event_total t))
new_within t Edge u v new =
    let p = new.0 in
    let within = InferredBy-within t p.0 p.1 u v p.2 p.3 p.4 in
    (within.from, within.to)

-- what a round adds to the edges of a rank set is what it adds to the listed ones
pub new_same : (t : TraceValue) (Edge Other : ℕ → ℕ → Type 0) → ((x y : ℕ) → Edge x y → Other x y) → ((x y : ℕ) → Other x y → Edge x y) →
    (u v : ℕ) → IsNew t Edge u v → IsNew t Other u v
new_same t Edge Other to back u v new = (IsInferred-mono t Edge Other to u v new.0, λ path. new.1 (Reaches-mono Other Edge back u v path))
