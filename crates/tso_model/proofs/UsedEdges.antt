-- The edges that a cycle of a rank set and the justifications of its edges use, in turn.
use Rattle.std.proofs.Common.{◌≡◌, ◌⊎◌, inl, inr, ℕ, zero, suc, ◌+◌, ◌<◌, ◌≤◌, List, subst, arith}
use Rattle.std.proofs.lemmas.Bool.{cases_order}
use Rattle.order_paths.specs.Neighbours.{AreOnCycle}
use Rattle.order_paths.specs.Paths.{IsCycle}
use Rattle.order_paths.proofs.Decisions.{Decision, Decision-both, Decision-either, Decision-iff, Decision-some}
use Rattle.order_paths.proofs.Neighbours.{AreNeighbours-decided, Linked-neighbours, neighbours_link, AreOnCycle-decided, IsCycle-on_cycle}
use Rattle.tso_ops.specs.Values.{TraceValue}
use Rattle.tso_ops.specs.Events.{event_total}
use Rattle.tso_cert.specs.declared.rules.BaseRule.TheVariants.{Init}
use Rattle.tso_cert.specs.declared.steps.Reason.{Reason}
use Rattle.tso_cert.specs.declared.steps.Reason.TheVariants.{Base, Inferred}
use Rattle.tso_model.specs.Ranks.{RankSet, HasRank}
use Rattle.tso_model.specs.Certs.{IsPathIn, IsJustified}
use Rattle.tso_model.specs.ReasonEdges.{AreUsedBy}
use Rattle.tso_model.proofs.Bounds.{RankSet-within}
use Rattle.tso_model.proofs.Decided.{RankSet-decided}
use Rattle.tso_model.proofs.LastRankSet.{RankSet-mono}
use Rattle.tso_model.proofs.Justifications.{rank_exists, rank_unique, justification_exists}

-- whether a reason uses an edge is decided
AreUsedBy-decided : (reason : Reason) (u v : ℕ) → Decision (AreUsedBy reason u v)
AreUsedBy-decided (Base rule) u v = inr (λ h. h)
AreUsedBy-decided (Inferred rule load path) u v = AreNeighbours-decided path u v

-- what it uses is an edge of each relation in which it has its path
pub IsPathIn-used : (Edge : ℕ → ℕ → Type 0) (reason : Reason) → IsPathIn Edge reason → (u v : ℕ) → AreUsedBy reason u v → Edge u v
IsPathIn-used Edge (Base rule) path u v used = absurd used
IsPathIn-used Edge (Inferred rule load path) linked u v used = Linked-neighbours Edge path linked u v used

-- a reason has its path in what it uses
pub used_path : (reason : Reason) → IsPathIn (AreUsedBy reason) reason
used_path (Base rule) = tt
used_path (Inferred rule load path) = neighbours_link path

-- a justification uses edges of lesser ranks
pub used_lesser : (t : TraceValue) (r x y : ℕ) (reason : Reason) → IsJustified t r x y reason → (u v : ℕ) → AreUsedBy reason u v → (s : ℕ) × (s < r) × HasRank t u v s
used_lesser t zero x y (Base rule) just u v used = absurd used
used_lesser t zero x y (Inferred rule load path) just u v used = absurd just
used_lesser t (suc r) x y (Base rule) just u v used = absurd just
used_lesser t (suc r) x y (Inferred rule load path) just u v used =
    let rank = rank_exists t r u v (Linked-neighbours (RankSet t r) path just.0.3.0.1 u v used) in
    (rank.0, omega (arith, rank.1), rank.2)

-- The reason is the justification of an edge whose rank is k or less.
pub record HasReason (t : TraceValue) (k u v : ℕ) (reason : Reason) : Type 0 where
  pub rank : ℕ
  pub at_most : rank ≤ k
  pub has_rank : HasRank t u v rank
  pub justified : IsJustified t rank u v reason

-- the justification of the edge; for a pair that isn't an edge any reason serves
reason_by : (t : TraceValue) (k u v : ℕ) → Decision (RankSet t k u v) → Reason
reason_by t k u v (inl edge) = let rank = rank_exists t k u v edge in (justification_exists t rank.0 u v rank.2).0
reason_by t k u v (inr none) = Base Init

-- for an edge it is the justification
reason_by-edge : (t : TraceValue) (k u v : ℕ) (decision : Decision (RankSet t k u v)) → RankSet t k u v → HasReason t k u v (reason_by t k u v decision)
unfolding reason_by
reason_by-edge t k u v (inl edge) here =
    let rank = rank_exists t k u v edge in
    record { rank = rank.0; at_most = rank.1; has_rank = rank.2; justified = (justification_exists t rank.0 u v rank.2).1 }
reason_by-edge t k u v (inr none) here = absurd (none here)

-- the justification of the pair, if it is an edge of the rank set
pub reason_of : TraceValue → ℕ → ℕ → ℕ → Reason
reason_of t k u v = reason_by t k u v (RankSet-decided t k u v)

-- for an edge it is one
pub reason_of-edge : (t : TraceValue) (k u v : ℕ) → RankSet t k u v → HasReason t k u v (reason_of t k u v)
unfolding reason_of
reason_of-edge t k u v edge = reason_by-edge t k u v (RankSet-decided t k u v) edge

-- the pair is on the cycle, or is used by way of d or fewer justifications
abbrev pub IsUsed : TraceValue → ℕ → List ℕ → ℕ → ℕ → ℕ → Type 0
IsUsed t k cycle zero u v = AreOnCycle cycle u v
IsUsed t k cycle (suc d) u v =
    IsUsed t k cycle d u v ⊎ ((x : ℕ) × (y : ℕ) × IsUsed t k cycle d x y × AreUsedBy (reason_of t k x y) u v)

-- what is used by way of few justifications is used by way of more
pub IsUsed-mono : (t : TraceValue) (k : ℕ) (cycle : List ℕ) (d e : ℕ) → d ≤ e → (u v : ℕ) → IsUsed t k cycle d u v → IsUsed t k cycle e u v
IsUsed-mono t k cycle d zero most u v used = let none : d ≡ 0 = omega arith in subst (λ n. IsUsed t k cycle n u v) none used
IsUsed-mono t k cycle d (suc e) most u v used = elim (cases_order d (suc e)) [
  | inl same ↦ subst (λ n. IsUsed t k cycle n u v) same used
  | inr (inl less) ↦ inl (IsUsed-mono t k cycle d e (omega arith) u v used)
  | inr (inr more) ↦ absurd (omega arith)
]

module _ (t : TraceValue) (k : ℕ) (cycle : List ℕ) (closed : IsCycle (RankSet t k) cycle) where
  -- what is used is an edge of the rank set
  pub IsUsed-edge : (d u v : ℕ) → IsUsed t k cycle d u v → RankSet t k u v
  IsUsed-edge zero u v on = IsCycle-on_cycle (RankSet t k) cycle closed u v on
  IsUsed-edge (suc d) u v (inl used) = IsUsed-edge d u v used
  IsUsed-edge (suc d) u v (inr by) =
      let reason = reason_of-edge t k by.0 by.1 (IsUsed-edge d by.0 by.1 by.2) in
      let lesser = used_lesser t reason.rank by.0 by.1 (reason_of t k by.0 by.1) reason.justified u v by.3 in
      RankSet-mono t lesser.0 k (omega (arith, lesser.1, reason.at_most)) u v lesser.2.0

  -- whether a pair is used is decided
  pub IsUsed-decided : (d u v : ℕ) → Decision (IsUsed t k cycle d u v)
  IsUsed-decided zero u v = AreOnCycle-decided cycle u v
  IsUsed-decided (suc d) u v = Decision-either (IsUsed-decided d u v)
      (Decision-iff (λ p. (p.0, p.1.0, p.1.1.0, p.1.1.1)) (λ p. (p.0, (p.1, (p.2, p.3)))) (by_some (IsUsed-decided d)))
    where
      To : ℕ → Type 0
      To x = (y : ℕ) × (IsUsed t k cycle d x y × AreUsedBy (reason_of t k x y) u v)

      by_some : ((x y : ℕ) → Decision (IsUsed t k cycle d x y)) → Decision ((x : ℕ) × To x)
      by_some decide = Decision-some To to (suc (event_total t)) (λ x p. (RankSet-within t k x p.0 (IsUsed-edge d x p.0 p.1.0)).0)
        where
          to : (x : ℕ) → Decision (To x)
          to x = Decision-some (λ y. IsUsed t k cycle d x y × AreUsedBy (reason_of t k x y) u v)
              (λ y. Decision-both (decide x y) (AreUsedBy-decided (reason_of t k x y) u v))
              (suc (event_total t)) (λ y p. (RankSet-within t k x y (IsUsed-edge d x y p.0)).1)

  -- an edge of rank r is used by way of k - r or fewer justifications, if it is used at all
  used_early : (d u v r : ℕ) → IsUsed t k cycle d u v → HasRank t u v r → (e : ℕ) × (e + r ≤ k) × IsUsed t k cycle e u v
  used_early zero u v r on rank =
      let some = rank_exists t k u v (IsUsed-edge zero u v on) in
      let same = rank_unique t u v r some.0 rank some.2 in
      (0, omega (arith, some.1), on)
  used_early (suc d) u v r (inl used) rank = used_early d u v r used rank
  used_early (suc d) u v r (inr by) rank =
      let reason = reason_of-edge t k by.0 by.1 (IsUsed-edge d by.0 by.1 by.2) in
      let lesser = used_lesser t reason.rank by.0 by.1 (reason_of t k by.0 by.1) reason.justified u v by.3 in
      let same = rank_unique t u v r lesser.0 rank lesser.2 in
      let early = used_early d by.0 by.1 reason.rank by.2 reason.has_rank in
      (suc early.0, omega (arith, early.1, lesser.1), inr (by.0, by.1, early.2, by.3))

  -- What the justification of a used edge uses is used.
  pub used_closed : (x y u v : ℕ) → IsUsed t k cycle k x y → AreUsedBy (reason_of t k x y) u v → IsUsed t k cycle k u v
  used_closed x y u v used by =
      let reason = reason_of-edge t k x y (IsUsed-edge k x y used) in
      let lesser = used_lesser t reason.rank x y (reason_of t k x y) reason.justified u v by in
      let early = used_early k x y reason.rank used reason.has_rank in
      IsUsed-mono t k cycle (suc early.0) k (omega (arith, early.1, lesser.1)) u v (inr (x, y, early.2, by))
