-- The derived order is what the paths over the rank sets give.
use Rattle.std.proofs.Common.{ℕ, zero, suc, inl, inr, Bool, IsTrue, ◌↔◌, arith}
use Rattle.order_paths.specs.Paths.{Reaches, HasCycle}
use Rattle.order_paths.proofs.Decisions.{Decision, Decision-iff, test_of, test_of-holds, test_of-true}
use Rattle.order_paths.proofs.Reach.{Reaches-edge, Reaches-into, Reaches-join, HasCycle-iff, HasCycle-mono}
use Rattle.tso_ops.specs.Values.{TraceValue}
use Rattle.tso_cert.specs.declared.rules.BaseRule.{BaseRule}
use Rattle.tso_cert.specs.declared.rules.InferredRule.{InferredRule}
use Rattle.tso_model.specs.Rules.{BasePair, InferredBy, IsClosed, IsDerived, HasDerivedCycle}
use Rattle.tso_model.specs.Ranks.{RankSet, IsLast}
use Rattle.tso_model.proofs.Decided.{RankSet-paths_decided, RankSet-cycle_decided}
use Rattle.tso_model.proofs.LastRankSet.{RankSet-mono, IsLast-all, last_exists}

-- A fact of each base pair that joins, and that the inferred rules carry on, holds of the edges of each rank set.
pub RankSet-into : (t : TraceValue) (Fact : ℕ → ℕ → Type 0) → ((rule : BaseRule) (u v : ℕ) → BasePair t rule u v → Fact u v) →
    ((x y z : ℕ) → Fact x y → Fact y z → Fact x z) → ((rule : InferredRule) (l u v x y : ℕ) → InferredBy t rule l u v x y → Fact x y → Fact u v) →
    (k u v : ℕ) → RankSet t k u v → Fact u v
RankSet-into t Fact base join inferred zero u v e = base e.0 u v e.1
RankSet-into t Fact base join inferred (suc k) u v (inl e) = RankSet-into t Fact base join inferred k u v e
RankSet-into t Fact base join inferred (suc k) u v (inr e) = inferred e.0.0 e.0.1 u v e.0.2 e.0.3 e.0.4
    (Reaches-into (λ x y. RankSet t k x y) Fact join (RankSet-into t Fact base join inferred k) e.0.2 e.0.3 e.0.5)

-- A path over a rank set is derived.
pub IsDerived-from_path : (t : TraceValue) (k u v : ℕ) → Reaches (RankSet t k) u v → IsDerived t u v
IsDerived-from_path t k u v p set closed = Reaches-into (RankSet t k) (λ x y. IsTrue (set x y)) closed.transitive
    (RankSet-into t (λ x y. IsTrue (set x y)) closed.base closed.transitive closed.inferred k) u v p

-- whether a path over the rank set leads from one number to the other
path_test : TraceValue → ℕ → ℕ → ℕ → Bool
path_test t k u v = test_of (RankSet-paths_decided t k u v)

-- an inferred pair has a path over a last rank set, if the path that it rests on is one
inferred_path : (t : TraceValue) (k : ℕ) → IsLast t k → (rule : InferredRule) (l u v x y : ℕ) → InferredBy t rule l u v x y →
    Reaches (RankSet t k) x y → Decision (Reaches (RankSet t k) u v) → Reaches (RankSet t k) u v
inferred_path t k last rule l u v x y by p (inl there) = there
inferred_path t k last rule l u v x y by p (inr none) = Reaches-edge (RankSet t k) u v (last u v (inr ((rule, l, x, y, by, p), none)))

-- The paths over a last rank set are a closed set.
path_test-closed : (t : TraceValue) (k : ℕ) → IsLast t k → IsClosed t (path_test t k)
unfolding path_test
path_test-closed t k last = record {
  base = λ rule u v pair. shown u v (Reaches-edge (RankSet t k) u v (RankSet-mono t 0 k (omega arith) u v (rule, pair)));
  transitive = λ u v w first second. shown u w (Reaches-join (RankSet t k) u v w (read u v first) (read v w second));
  inferred = λ rule l u v x y by path. shown u v (inferred_path t k last rule l u v x y by (read x y path) (RankSet-paths_decided t k u v));
}
  where
    shown : (u v : ℕ) → Reaches (RankSet t k) u v → IsTrue (path_test t k u v)
    shown u v p = test_of-holds (RankSet-paths_decided t k u v) p

    read : (u v : ℕ) → IsTrue (path_test t k u v) → Reaches (RankSet t k) u v
    read u v h = test_of-true (RankSet-paths_decided t k u v) h

-- A derived pair has a path over a last rank set.
pub IsDerived-path : (t : TraceValue) (k : ℕ) → IsLast t k → (u v : ℕ) → IsDerived t u v → Reaches (RankSet t k) u v
unfolding path_test
IsDerived-path t k last u v derived = test_of-true (RankSet-paths_decided t k u v) (derived (path_test t k) (path_test-closed t k last))

-- A pair is derived exactly if some rank set has a path from its first number to its second.
pub derived_exactly : (t : TraceValue) (u v : ℕ) → IsDerived t u v ↔ ((k : ℕ) × Reaches (RankSet t k) u v)
derived_exactly t u v =
    let last = last_exists t in
    (λ derived. (last.0, IsDerived-path t last.0 last.1 u v derived), λ p. IsDerived-from_path t p.0 u v p.1)

-- Such a fact, be it a test or not, holds of each derived pair: that closed sets are tests leaves nothing out.
pub IsDerived-into : (t : TraceValue) (Fact : ℕ → ℕ → Type 0) → ((rule : BaseRule) (u v : ℕ) → BasePair t rule u v → Fact u v) →
    ((x y z : ℕ) → Fact x y → Fact y z → Fact x z) → ((rule : InferredRule) (l u v x y : ℕ) → InferredBy t rule l u v x y → Fact x y → Fact u v) →
    (u v : ℕ) → IsDerived t u v → Fact u v
IsDerived-into t Fact base join inferred u v derived =
    let p = (derived_exactly t u v).0 derived in
    Reaches-into (RankSet t p.0) Fact join (RankSet-into t Fact base join inferred p.0) u v p.1

-- The derived order has a cycle exactly if some rank set has one.
pub derived_cycle_exactly : (t : TraceValue) → HasDerivedCycle t ↔ ((k : ℕ) × HasCycle (RankSet t k))
derived_cycle_exactly t = (
  λ c. (let p = (derived_exactly t c.0 c.0).0 c.1 in (p.0, (HasCycle-iff (RankSet t p.0)).1 (c.0, p.1))),
  λ c. (let p = (HasCycle-iff (RankSet t c.0)).0 c.1 in (p.0, IsDerived-from_path t c.0 p.0 p.0 p.1)),
)

-- Whether the derived order has a cycle is decided.
pub derived_cycle_decided : (t : TraceValue) → Decision (HasDerivedCycle t)
derived_cycle_decided t =
    let last = last_exists t in
    let exactly = derived_cycle_exactly t in
    Decision-iff (λ c. exactly.1 (last.0, c)) (λ c. (let p = exactly.0 c in HasCycle-mono (RankSet t p.0) (RankSet t last.0) (IsLast-all t last.0 last.1 p.0) p.1))
    (RankSet-cycle_decided t last.0)
