-- The steps of a certificate, collected from the last to the first.
use Rattle.std.proofs.Common.{◌≡◌, ◌⊎◌, ◌↔◌, inl, inr, ℕ, zero, suc, ◌<◌, ◌≤◌, Bool, IsTrue, List, [], ◌∷◌, ◌++◌, Some, slice_get, reverse, refl, sym, ap, subst, ◌∙◌, arith}
use Rattle.std.proofs.lemmas.List.{reverse-append}
use Rattle.std.proofs.lemmas.Option.{none-some, same_Some}
use Rattle.order_paths.specs.Neighbours.{AreOnCycle}
use Rattle.order_paths.specs.Paths.{IsCycle}
use Rattle.order_paths.proofs.Neighbours.{IsCycle-on_cycle, on_cycle_closes}
use Rattle.order_paths.proofs.Reach.{IsCycle-mono}
use Rattle.tso_ops.specs.Values.{TraceValue}
use Rattle.tso_cert.specs.declared.steps.CertStep.{CertStep}
use Rattle.tso_model.specs.Ranks.{RankSet, HasRank}
use Rattle.tso_model.specs.Certs.{IsStep, IsJustified, IsListedBefore, AreUsed, AreStepsOf}
use Rattle.tso_model.specs.ReasonEdges.{AreUsedBy}
use Rattle.tso_model.proofs.CertificateUnique.{IsPathIn-mono}
use Rattle.tso_model.proofs.Justifications.{rank_exists, rank_unique}
use Rattle.tso_model.proofs.LastRankSet.{RankSet-mono}
use Rattle.tso_model.proofs.UsedEdges.{IsPathIn-used, used_lesser, used_path}
use Rattle.trace_judging.specs.Internal.Collecting.{IsCollected, Collects}

-- At first the cycle's edges are marked, and nothing is done.
pub Collects-start : (t : TraceValue) (k : ℕ) (cycle : List ℕ) (Marked Done : ℕ → ℕ → Type 0) → IsCycle (RankSet t k) cycle →
    ((u v : ℕ) → Marked u v ↔ AreOnCycle cycle u v) → ((u v : ℕ) → RankSet t k u v → Done u v → ⊥) → Collects t k cycle Marked Done []
Collects-start t k cycle Marked Done closed marks none = record {
  cycle_marked = IsCycle-mono (AreOnCycle cycle) Marked (λ u v. (marks u v).1) cycle (on_cycle_closes (RankSet t k) cycle closed);
  edges = edge;
  all = λ u v m d. absurd (none u v (edge u v m) d);
  each = λ i s at. absurd (none-some s at);
  order = λ i j s d r q less at_s at_d rank_s rank_d. absurd (none-some s at_s);
  needed = λ u v m pairs used. IsCycle-on_cycle (λ x y. IsTrue (pairs x y)) cycle used.cycle_edges u v ((marks u v).0 m);
}
  where
    edge : (u v : ℕ) → Marked u v → RankSet t k u v
    edge u v m = IsCycle-on_cycle (RankSet t k) cycle closed u v ((marks u v).0 m)

-- What is done may be said in another way, as far as edges are marked.
pub Collects-as : (t : TraceValue) (k : ℕ) (cycle : List ℕ) (Marked Done Other : ℕ → ℕ → Type 0) (steps : List CertStep) → Collects t k cycle Marked Done steps →
    ((u v : ℕ) → RankSet t k u v → Marked u v → Done u v → Other u v) → ((u v : ℕ) → RankSet t k u v → Marked u v → Other u v → Done u v) → Collects t k cycle Marked Other steps
Collects-as t k cycle Marked Done Other steps collects to back = record {
  cycle_marked = collects.cycle_marked;
  edges = collects.edges;
  all = λ u v m o. collects.all u v m (back u v (collects.edges u v m) m o);
  each = λ i s at. let listed = collects.each i s at in record {
    marked = listed.marked;
    done = to s.from s.to (collects.edges s.from s.to listed.marked) listed.marked listed.done;
    justified = listed.justified;
    path = listed.path;
  };
  order = collects.order;
  needed = collects.needed;
}

-- one step more, put first
IsStep-more : (s : CertStep) (steps : List CertStep) (u v : ℕ) → IsStep steps u v → IsStep (s ∷ steps) u v
IsStep-more s steps u v step = (suc step.0, step.1, step.2, step.3, step.4)

AreUsed-less : (s : CertStep) (steps : List CertStep) (cycle : List ℕ) (pairs : ℕ → ℕ → Bool) → AreUsed (s ∷ steps) cycle pairs → AreUsed steps cycle pairs
AreUsed-less s steps cycle pairs used = record { cycle_edges = used.cycle_edges; path_edges = λ i d at. used.path_edges (suc i) d at }

-- The step of a marked edge that comes before all that are done is put first, and what its justification uses is marked.
pub Collects-step : (t : TraceValue) (k : ℕ) (cycle : List ℕ) (Marked More Done Other : ℕ → ℕ → Type 0) (steps : List CertStep) (r : ℕ) (s : CertStep) →
    Collects t k cycle Marked Done steps → Marked s.from s.to → HasRank t s.from s.to r → IsJustified t r s.from s.to s.reason →
    ((u v : ℕ) → More u v ↔ (Marked u v ⊎ AreUsedBy s.reason u v)) →
    ((u v : ℕ) → Other u v ↔ (Done u v ⊎ ((u ≡ s.from) × (v ≡ s.to)))) →
    ((d : CertStep) (q : ℕ) → Done d.from d.to → HasRank t d.from d.to q → IsListedBefore r s q d) →
    Collects t k cycle More Other (s ∷ steps)
Collects-step t k cycle Marked More Done Other steps r s collects marked rank just more other before = record {
  cycle_marked = IsCycle-mono Marked More kept cycle collects.cycle_marked;
  edges = λ u v m. elim ((more u v).0 m) [
    | inl old ↦ collects.edges u v old
    | inr used ↦ (let lesser = used_lesser t r s.from s.to s.reason just u v used in RankSet-mono t lesser.0 k (omega (arith, lesser.1, most)) u v lesser.2.0)
  ];
  all = all;
  each = each;
  order = order;
  needed = needed;
}
  where
    kept : (u v : ℕ) → Marked u v → More u v
    kept u v m = (more u v).1 (inl m)

    most : r ≤ k
    most =
        let some = rank_exists t k s.from s.to (collects.edges s.from s.to marked) in
        let same = rank_unique t s.from s.to r some.0 rank some.2 in
        omega (arith, some.1)

    -- what is done has no lesser rank than the step
    late : (u v q : ℕ) → Other u v → HasRank t u v q → r ≤ q
    late u v q o rank_q = elim ((other u v).0 o) [
      | inl done ↦ elim (before (record { from = u; to = v; reason = s.reason }) q done rank_q) [ inl less ↦ omega arith | inr same ↦ omega (arith, same.0) ]
      | inr here ↦ (let same = rank_unique t s.from s.to r q rank (subst (λ n. HasRank t s.from n q) here.1 (subst (λ n. HasRank t n v q) here.0 rank_q)) in omega arith)
    ]

    all : (u v : ℕ) → More u v → Other u v → IsStep (s ∷ steps) u v
    all u v m o = elim ((more u v).0 m) [
      | inl old ↦ elim ((other u v).0 o) [
        | inl done ↦ IsStep-more s steps u v (collects.all u v old done)
        | inr here ↦ (0, s, refl, sym here.0, sym here.1)
      ]
      | inr used ↦ (let lesser = used_lesser t r s.from s.to s.reason just u v used in absurd (omega (arith, lesser.1, late u v lesser.0 o lesser.2)))
    ]

    new_step : IsCollected t More Other s
    new_step = record {
      marked = kept s.from s.to marked;
      done = (other s.from s.to).1 (inr (refl, refl));
      justified = (r, rank, just);
      path = IsPathIn-mono (AreUsedBy s.reason) More (λ u v used. (more u v).1 (inr used)) s.reason (used_path s.reason);
    }

    each : (i : ℕ) (d : CertStep) → slice_get (s ∷ steps) i ≡ Some d → IsCollected t More Other d
    each zero d at = subst (λ c. IsCollected t More Other c) (same_Some s d at) new_step
    each (suc i) d at = let listed = collects.each i d at in record {
      marked = kept d.from d.to listed.marked;
      done = (other d.from d.to).1 (inl listed.done);
      justified = listed.justified;
      path = IsPathIn-mono Marked More kept d.reason listed.path;
    }

    order : (i j : ℕ) (c d : CertStep) (p q : ℕ) → i < j → slice_get (s ∷ steps) i ≡ Some c → slice_get (s ∷ steps) j ≡ Some d →
        HasRank t c.from c.to p → HasRank t d.from d.to q → IsListedBefore p c q d
    order i zero c d p q less at_c at_d rank_c rank_d = absurd (omega arith)
    order zero (suc j) c d p q less at_c at_d rank_c rank_d =
        subst (λ n. IsListedBefore n c q d) (rank_unique t c.from c.to r p (subst (λ e. HasRank t e.from e.to r) (same_Some s c at_c) rank) rank_c)
        (subst (λ e. IsListedBefore r e q d) (same_Some s c at_c) (before d q (collects.each j d at_d).done rank_d))
    order (suc i) (suc j) c d p q less at_c at_d rank_c rank_d = collects.order i j c d p q (omega arith) at_c at_d rank_c rank_d

    needed : (u v : ℕ) → More u v → (pairs : ℕ → ℕ → Bool) → AreUsed (s ∷ steps) cycle pairs → IsTrue (pairs u v)
    needed u v m pairs used =
        let less = AreUsed-less s steps cycle pairs used in
        elim ((more u v).0 m) [
          | inl old ↦ collects.needed u v old pairs less
          | inr by ↦ IsPathIn-used (λ x y. IsTrue (pairs x y)) s.reason (used.path_edges 0 s refl (collects.needed s.from s.to marked pairs less)) u v by
        ]

-- Where all edges are done, the steps are those of the cycle.
pub Collects-end : (t : TraceValue) (k : ℕ) (cycle : List ℕ) (Marked Done : ℕ → ℕ → Type 0) (steps : List CertStep) → Collects t k cycle Marked Done steps →
    ((u v : ℕ) → RankSet t k u v → Done u v) → AreStepsOf t steps cycle
Collects-end t k cycle Marked Done steps collects done = record {
  justified = λ i s at. (collects.each i s at).justified;
  in_order = collects.order;
  cycle_listed = IsCycle-mono Marked (λ x y. IsStep steps x y) listed cycle collects.cycle_marked;
  paths_listed = λ i s at. IsPathIn-mono Marked (λ x y. IsStep steps x y) listed s.reason (collects.each i s at).path;
  needed = λ i s at pairs used. collects.needed s.from s.to (collects.each i s at).marked pairs used;
}
  where
    listed : (u v : ℕ) → Marked u v → IsStep steps u v
    listed u v m = collects.all u v m (done u v (collects.edges u v m))

-- a step put after the list stands first in the list reversed
pub reverse_push : (steps new : List CertStep) (s : CertStep) → new ≡ steps ++ s ∷ [] → reverse new ≡ s ∷ reverse steps
reverse_push steps new s same = ap reverse same ∙ reverse-append steps (s ∷ [])
