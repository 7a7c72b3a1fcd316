-- How the steps of a rank are collected, and its edges removed.
use Rattle.std.proofs.Common.{◌≡◌, ◌⊎◌, ◌↔◌, inl, inr, ℕ, zero, suc, ◌+◌, ◌-◌, ◌<◌, ◌≤◌, List, [], ◌∷◌, ◌++◌, length, get_or, reverse, refl, sym, ap, subst, ◌∙◌, arith}
use Rattle.std.proofs.lemmas.Bool.{cases_eq}
use Rattle.std.proofs.lemmas.List.{get_or_default}
use Rattle.std.proofs.lemmas.List.Elements.{Contains-get_or}
use Rattle.order_paths.specs.Neighbours.{AreOnCycle}
use Rattle.order_paths.specs.Paths.{IsCycle, IsLeastCycle}
use Rattle.order_graph.specs.Digraphs.{Digraph, IsEdge}
use Rattle.tso_ops.specs.Values.{TraceValue}
use Rattle.tso_ops.specs.Events.{event_total}
use Rattle.tso_cert.specs.declared.rules.BaseRule.{BaseRule}
use Rattle.tso_cert.specs.declared.steps.Reason.TheVariants.{Base}
use Rattle.tso_cert.specs.declared.steps.CertStep.{CertStep}
use Rattle.tso_model.specs.Ranks.{RankSet, HasRank}
use Rattle.tso_model.specs.Certs.{IsListedBefore, IsFirstBase}
use Rattle.tso_model.proofs.Bounds.{RankSet-within}
use Rattle.tso_model.proofs.Decided.{RankSet-decided}
use Rattle.tso_model.proofs.Justifications.{rank_exists, rank_unique}
use Rattle.tso_model.proofs.LastRankSet.{RankSet-mono}
use Rattle.order_paths.proofs.Reach.{Reaches-mono, IsCycle-mono}
use Rattle.tso_rules.specs.Rows.{IsUngiven}
use Rattle.tso_rules.proofs.LawFacts.{next_justified}
use Rattle.round_pool.specs.declared.ranked.Edge.{Edge}
use Rattle.round_pool.specs.RankGraphs.{IsRankGraph, AddsEdges}
use Rattle.round_pool.specs.Rankings.{Ranking, ListsEdge, IsEdgeBefore, AreEdgesAscending, IsRankingOf, IsRound, edge_from, rounds_of}
use Rattle.trace_judging.specs.Internal.Collecting.{CollectsEdge, Collects, IsAboveRank, IsListedFrom, IsAboveOrListed, IsAboveOrBase, IsFrom}
use Rattle.trace_judging.proofs.CollectFacts.{Collects-start, Collects-as, Collects-step, reverse_push}

-- an edge is that of its two numbers
edge_is : (e : Edge) (u v : ℕ) → e ≡ edge_from u v ↔ ((u ≡ e.from) × (v ≡ e.to))
edge_is e u v = (λ same. (sym (ap (λ (d : Edge). d.from) same), sym (ap (λ (d : Edge). d.to) same)), λ p. subst (λ n. e ≡ edge_from n v) (sym p.0) (subst (λ n. e ≡ edge_from e.from n) (sym p.1) refl))

-- ---- removing edges

-- the edge stands before this place
abbrev pub IsListedBefore_place : List Edge → ℕ → ℕ → ℕ → Type 0
IsListedBefore_place edges count u v = (j : ℕ) × (j < count) × (get_or edges j (edge_from u v) ≡ edge_from u v)

-- The set has lost the edges that stand before this place.
pub record RemovesEdges (old now : Digraph) (edges : List Edge) (count : ℕ) : Type 0 where
  pub nodes : now.nodes ≡ old.nodes
  pub less : (x y : ℕ) → IsEdge now x y ↔ (IsEdge old x y × (IsListedBefore_place edges count x y → ⊥))

pub RemovesEdges-start : (g : Digraph) (edges : List Edge) → RemovesEdges g g edges 0
RemovesEdges-start g edges = record { nodes = refl; less = λ x y. (λ e. (e, λ p. omega (arith, p.1)), λ p. p.0) }

pub RemovesEdges-step : (old now new : Digraph) (edges : List Edge) (count : ℕ) (e : Edge) → RemovesEdges old now edges count → count < length edges → ((d : Edge) → get_or edges count d ≡ e) →
    new.nodes ≡ now.nodes → ((x y : ℕ) → IsEdge new x y ↔ (IsEdge now x y × ((x ≡ e.from) × (y ≡ e.to) → ⊥))) → RemovesEdges old new edges (count + 1)
RemovesEdges-step old now new edges count e takes within at nodes less = record {
  nodes = nodes ∙ takes.nodes;
  less = λ x y. (
    λ n. let p = (less x y).0 n in let q = (takes.less x y).0 p.0 in (
      q.0,
      λ listed. elim (cases_eq listed.0 count) [
        | inl same ↦ p.1 ((edge_is e x y).0 (sym (at (edge_from x y)) ∙ subst (λ i. get_or edges i (edge_from x y) ≡ edge_from x y) same listed.2))
        | inr other ↦ q.1 (listed.0, omega (arith, listed.1, other), listed.2)
      ],
    ),
    λ p. (less x y).1 (
      (takes.less x y).1 (p.0, λ listed. p.1 (listed.0, omega (arith, listed.1), listed.2)),
      λ here. p.1 (count, omega arith, at (edge_from x y) ∙ (edge_is e x y).1 here),
    ),
  );
}

pub RemovesEdges-end : (old now : Digraph) (edges : List Edge) (count : ℕ) → RemovesEdges old now edges count → count ≡ length edges → (x y : ℕ) → IsEdge now x y ↔ (IsEdge old x y × (ListsEdge edges x y → ⊥))
RemovesEdges-end old now edges count takes all x y = (
  λ n. let p = (takes.less x y).0 n in (p.0, λ has. p.1 (has.0, omega (arith, has.1, all), has.2)),
  λ p. (takes.less x y).1 (p.0, λ listed. p.1 (listed.0, omega (arith, listed.1, all), listed.2)),
)

-- The edges of a rank set without those that its round added are those of the rank set before it.
pub rank_graph_less : (t : TraceValue) (r : ℕ) (old now : Digraph) (edges : List Edge) → IsRankGraph t (suc r) old → IsRound t r edges → now.nodes ≡ old.nodes →
    ((x y : ℕ) → IsEdge now x y ↔ (IsEdge old x y × (ListsEdge edges x y → ⊥))) → IsRankGraph t r now
rank_graph_less t r old now edges graph round nodes less = record {
  nodes = nodes ∙ graph.nodes;
  edges = λ x y. (
    λ n. let p = (less x y).0 n in elim (RankSet-decided t r x y) [
      | inl edge ↦ edge
      | inr none ↦ absurd (p.1 (round.all x y ((graph.edges x y).0 p.0) none))
    ],
    λ edge. (less x y).1 ((graph.edges x y).1 (RankSet-mono t r (suc r) (omega arith) x y edge), λ has. (round.only x y has).1 edge),
  );
}

-- ---- the steps of a rank above 0

-- an edge that a round adds has the rank
pub round_rank : (t : TraceValue) (r u v : ℕ) (edges : List Edge) → IsRound t r edges → ListsEdge edges u v → HasRank t u v (suc r)
round_rank t r u v edges round has =
    let added = round.only u v has in
    (added.0, λ j less edge. added.1 (RankSet-mono t j r (omega (arith, less)) u v edge))

-- an earlier edge of a list in ascending order stands before a later one
ascending_at : (edges : List Edge) (i j : ℕ) (d : Edge) → AreEdgesAscending edges → i < j → j < length edges → IsEdgeBefore (get_or edges i d) (get_or edges j d)
ascending_at [] i j d ascending less within = absurd (omega (arith, within))
ascending_at (e ∷ edges) i zero d ascending less within = absurd (omega (arith, less))
ascending_at (e ∷ edges) zero (suc j) d ascending less within = ascending.0 (get_or edges j d) (Contains-get_or edges j d (omega (arith, within)))
ascending_at (e ∷ edges) (suc i) (suc j) d ascending less within = ascending_at edges i j d ascending.1 (omega (arith, less)) (omega (arith, within))

pub listed_start : (t : TraceValue) (r : ℕ) (edges : List Edge) (count u v : ℕ) → length edges ≤ count → IsAboveRank t r u v ↔ IsAboveOrListed t r edges count u v
listed_start t r edges count u v past = (λ above. inl above, λ p. elim p [ inl above ↦ above | inr listed ↦ absurd (omega (arith, listed.1, listed.2, past)) ])

-- what is listed from this place on stands there or from the next on
listed_step : (edges : List Edge) (i u v : ℕ) (e : Edge) → i < length edges → ((d : Edge) → get_or edges i d ≡ e) →
    IsListedFrom edges i u v ↔ (IsListedFrom edges (i + 1) u v ⊎ ((u ≡ e.from) × (v ≡ e.to)))
listed_step edges i u v e within at = (
  λ listed. elim (cases_eq listed.0 i) [
    | inl same ↦ inr ((edge_is e u v).0 (sym (at (edge_from u v)) ∙ subst (λ n. get_or edges n (edge_from u v) ≡ edge_from u v) same listed.3))
    | inr other ↦ inl (listed.0, omega (arith, listed.1, other), listed.2, listed.3)
  ],
  λ p. elim p [
    | inl later ↦ (later.0, omega (arith, later.1), later.2, later.3)
    | inr here ↦ (i, omega arith, within, at (edge_from u v) ∙ (edge_is e u v).1 here)
  ],
)

-- the edge at a place is one of the list
pub edge_at : (edges : List Edge) (i : ℕ) → i < length edges → ListsEdge edges (get_or edges i (edge_from 0 0)).from (get_or edges i (edge_from 0 0)).to
edge_at edges i within = (i, within, get_or_default edges i _ (edge_from 0 0) within)

-- the edges of a round, as they are found by their rank
pub round_at : (t : TraceValue) (ranked : Ranking) (r : ℕ) (edges : List Edge) → IsRankingOf t ranked → r < rounds_of ranked → edges ≡ get_or ranked.added (r + 1 - 1) [] → IsRound t r edges
round_at t ranked r edges ranking below are =
    let place : r + 1 - 1 ≡ r = omega arith in
    rw (are, place) (ranking.each r below)

-- The edge at a place, with those after it collected.
pub round_step : (t : TraceValue) (k r i : ℕ) (cycle : List ℕ) (edges : List Edge) (e : Edge) (set marks more : Digraph) (old new : List CertStep) → IsRound t r edges → IsRankGraph t r set →
    i < length edges → ((d : Edge) → get_or edges i d ≡ e) → CollectsEdge t (IsEdge set) e.from e.to marks more old new →
    Collects t k cycle (IsEdge marks) (IsAboveOrListed t (suc r) edges (i + 1)) (reverse old) → Collects t k cycle (IsEdge more) (IsAboveOrListed t (suc r) edges i) (reverse new)
round_step t k r i cycle edges e set marks more old new round graph within at (inl (unmarked, same_marks, same_steps)) collects =
    subst (λ g. Collects t k cycle (IsEdge g) (IsAboveOrListed t (suc r) edges i) (reverse new)) (sym same_marks)
    (subst (λ l. Collects t k cycle (IsEdge marks) (IsAboveOrListed t (suc r) edges i) (reverse l)) (sym same_steps)
    (Collects-as t k cycle (IsEdge marks) (IsAboveOrListed t (suc r) edges (i + 1)) (IsAboveOrListed t (suc r) edges i) (reverse old) collects
    (λ u v f m done. elim done [ inl above ↦ inl above | inr listed ↦ inr ((listed_step edges i u v e within at).1 (inl listed)) ])
    (λ u v f m done. elim done [
      | inl above ↦ inl above
      | inr listed ↦ elim ((listed_step edges i u v e within at).0 listed) [
        | inl later ↦ inr later
        | inr here ↦ absurd (unmarked (subst (λ n. IsEdge marks n e.to) here.0 (subst (λ n. IsEdge marks u n) here.1 m)))
      ]
    ])))
round_step t k r i cycle edges e set marks more old new round graph within at (inr (marked, adds)) collects =
    subst (λ l. Collects t k cycle (IsEdge more) (IsAboveOrListed t (suc r) edges i) l) (sym (reverse_push old new step adds.appended))
    (Collects-step t k cycle (IsEdge marks) (IsEdge more) (IsAboveOrListed t (suc r) edges (i + 1)) (IsAboveOrListed t (suc r) edges i) (reverse old) (suc r) step
    collects marked rank (next_justified t r e.from e.to set adds.reason graph.edges rank adds.justified) adds.marked.edges done before)
  where
    step : CertStep
    step = record { from = e.from; to = e.to; reason = adds.reason }

    rank : HasRank t e.from e.to (suc r)
    rank = round_rank t r e.from e.to edges round (i, within, at e)

    done : (u v : ℕ) → IsAboveOrListed t (suc r) edges i u v ↔ (IsAboveOrListed t (suc r) edges (i + 1) u v ⊎ ((u ≡ e.from) × (v ≡ e.to)))
    done u v =
        let split = listed_step edges i u v e within at in (
          λ p. elim p [ inl above ↦ inl (inl above) | inr listed ↦ elim (split.0 listed) [ inl later ↦ inl (inr later) | inr here ↦ inr here ] ],
          λ p. elim p [ inl (inl above) ↦ inl above | inl (inr later) ↦ inr (split.1 (inl later)) | inr here ↦ inr (split.1 (inr here)) ],
        )

    before : (d : CertStep) (q : ℕ) → IsAboveOrListed t (suc r) edges (i + 1) d.from d.to → HasRank t d.from d.to q → IsListedBefore (suc r) step q d
    before d q (inl above) rank_d = inl (let same = rank_unique t d.from d.to above.0 q above.1 rank_d in omega (arith, above.2))
    before d q (inr listed) rank_d =
        let same = rank_unique t d.from d.to (suc r) q (round_rank t r d.from d.to edges round (listed.0, listed.2, listed.3)) rank_d in
        let rising = ascending_at edges i listed.0 (edge_from d.from d.to) round.ascending (omega (arith, listed.1)) listed.2 in
        inr (same, subst (λ c. IsEdgeBefore c (edge_from d.from d.to)) (at (edge_from d.from d.to)) (subst (λ c. IsEdgeBefore (get_or edges i (edge_from d.from d.to)) c) listed.3 rising))

-- With all edges of the round collected, those of its rank are done.
pub round_done : (t : TraceValue) (k r : ℕ) (cycle : List ℕ) (edges : List Edge) (marks : Digraph) (steps : List CertStep) → IsRound t r edges →
    Collects t k cycle (IsEdge marks) (IsAboveOrListed t (suc r) edges 0) steps → Collects t k cycle (IsEdge marks) (IsAboveRank t r) steps
round_done t k r cycle edges marks steps round collects =
    Collects-as t k cycle (IsEdge marks) (IsAboveOrListed t (suc r) edges 0) (IsAboveRank t r) steps collects
    (λ u v f m done. elim done [
      | inl above ↦ (above.0, above.1, omega (arith, above.2))
      | inr listed ↦ (suc r, round_rank t r u v edges round (listed.0, listed.2, listed.3), omega arith)
    ])
    (λ u v f m above. elim (cases_eq above.0 (suc r)) [
      | inl same ↦ (let rank = subst (λ q. HasRank t u v q) same above.1 in let has = round.all u v rank.0 (rank.1 r (omega arith)) in inr (has.0, omega arith, has.1, has.2))
      | inr other ↦ inl (above.0, above.1, omega (arith, above.2, other))
    ])

-- Before the first round nothing has a greater rank.
pub none_above : (t : TraceValue) (k u v : ℕ) → RankSet t k u v → IsAboveRank t k u v → ⊥
none_above t k u v edge above =
    let rank = rank_exists t k u v edge in
    let same = rank_unique t u v rank.0 above.0 rank.2 above.1 in
    omega (arith, rank.1, above.2)

-- a rule gives each edge that a round adds, over the edges of lesser rank
pub round_given : (t : TraceValue) (r u v : ℕ) (set : Digraph) (edges : List Edge) → IsRankGraph t r set → IsRound t r edges → ListsEdge edges u v → IsUngiven t (IsEdge set) u v → ⊥
round_given t r u v set edges graph round has none =
    let added = round.only u v has in
    elim added.0 [
      | inl edge ↦ added.1 edge
      | inr new ↦ (let by = new.0 in none.1 by.0 by.1 (by.2, by.3, by.4, Reaches-mono (RankSet t r) (IsEdge set) (λ x y. (graph.edges x y).1) by.2 by.3 by.5))
    ]

-- the numbers of the edges that a round adds are those of events and 0
pub round_within : (t : TraceValue) (r u v : ℕ) (edges : List Edge) → IsRound t r edges → ListsEdge edges u v → (u < suc (event_total t)) × (v < suc (event_total t))
round_within t r u v edges round has = RankSet-within t (suc r) u v (round.only u v has).0

-- Where no edge of the round is collected, those of greater rank are done.
pub round_start : (t : TraceValue) (k r : ℕ) (cycle : List ℕ) (edges : List Edge) (marks : Digraph) (steps : List CertStep) (count : ℕ) → length edges ≤ count →
    Collects t k cycle (IsEdge marks) (IsAboveRank t (suc r)) steps → Collects t k cycle (IsEdge marks) (IsAboveOrListed t (suc r) edges count) steps
round_start t k r cycle edges marks steps count past collects =
    Collects-as t k cycle (IsEdge marks) (IsAboveRank t (suc r)) (IsAboveOrListed t (suc r) edges count) steps collects
    (λ u v f m. (listed_start t (suc r) edges count u v past).0) (λ u v f m. (listed_start t (suc r) edges count u v past).1)

-- marking edges adds no numbers
pub collects_nodes : (t : TraceValue) (Edge : ℕ → ℕ → Type 0) (u v : ℕ) (marks more : Digraph) (old new : List CertStep) → CollectsEdge t Edge u v marks more old new → more.nodes ≡ marks.nodes
collects_nodes t Edge u v marks more old new (inl (unmarked, same_marks, same_steps)) = ap (λ (g : Digraph). g.nodes) same_marks
collects_nodes t Edge u v marks more old new (inr (marked, adds)) = adds.marked.nodes

-- ---- the steps of base edges

base_rank : (t : TraceValue) (u v : ℕ) → RankSet t 0 u v → HasRank t u v 0
base_rank t u v edge = (edge, λ j less f. omega (arith, less))

-- After all numbers no base edge stands.
pub base_start : (t : TraceValue) (k n : ℕ) (cycle : List ℕ) (marks : Digraph) (steps : List CertStep) → n ≡ suc (event_total t) →
    Collects t k cycle (IsEdge marks) (IsAboveRank t 0) steps → Collects t k cycle (IsEdge marks) (IsAboveOrBase t n 0) steps
base_start t k n cycle marks steps all collects = Collects-as t k cycle (IsEdge marks) (IsAboveRank t 0) (IsAboveOrBase t n 0) steps collects
    (λ u v f m above. inl above)
    (λ u v f m done. elim done [ inl above ↦ above | inr base ↦ absurd (let within = RankSet-within t k u v f in omega (arith, base.1.0, within.0, all)) ])

-- the same marked base edges stand from one pair on and from another
base_from : (t : TraceValue) (k x y a b : ℕ) (cycle : List ℕ) (marks : Digraph) (steps : List CertStep) →
    ((u v : ℕ) → RankSet t k u v → IsEdge marks u v → RankSet t 0 u v → IsFrom a b u v ↔ IsFrom x y u v) →
    Collects t k cycle (IsEdge marks) (IsAboveOrBase t a b) steps → Collects t k cycle (IsEdge marks) (IsAboveOrBase t x y) steps
base_from t k x y a b cycle marks steps same collects = Collects-as t k cycle (IsEdge marks) (IsAboveOrBase t a b) (IsAboveOrBase t x y) steps collects
    (λ u v f m done. elim done [ inl above ↦ inl above | inr base ↦ inr (base.0, (same u v f m base.0).0 base.1) ])
    (λ u v f m done. elim done [ inl above ↦ inl above | inr base ↦ inr (base.0, (same u v f m base.0).1 base.1) ])

-- A row begins where the next one ended.
pub row_start : (t : TraceValue) (k x n : ℕ) (cycle : List ℕ) (marks : Digraph) (steps : List CertStep) → n ≡ suc (event_total t) →
    Collects t k cycle (IsEdge marks) (IsAboveOrBase t (suc x) 0) steps → Collects t k cycle (IsEdge marks) (IsAboveOrBase t x n) steps
row_start t k x n cycle marks steps all = base_from t k x n (suc x) 0 cycle marks steps
    (λ u v f m edge. let within = RankSet-within t k u v f in
    let late : n ≤ v → ⊥ = λ past. omega (arith, past, within.1, all) in
    (λ p. (omega (arith, p.0), λ e. omega (arith, p.0, e)), λ p. (let other : x ≡ u → ⊥ = λ e. late (p.1 e) in omega (arith, p.0, other), λ e. omega arith)))

-- A row without a marked edge is passed.
pub row_pass : (t : TraceValue) (k x : ℕ) (cycle : List ℕ) (marks : Digraph) (steps : List CertStep) → ((v : ℕ) × IsEdge marks x v → ⊥) →
    Collects t k cycle (IsEdge marks) (IsAboveOrBase t (suc x) 0) steps → Collects t k cycle (IsEdge marks) (IsAboveOrBase t x 0) steps
row_pass t k x cycle marks steps none = base_from t k x 0 (suc x) 0 cycle marks steps
    (λ u v f m edge. let other : x ≡ u → ⊥ = λ e. none (v, subst (λ n. IsEdge marks n v) (sym e) m) in
    (λ p. (omega (arith, p.0), λ e. omega arith), λ p. (omega (arith, p.0, other), λ e. omega arith)))

-- what stands from this pair on is the pair, or stands from the next on
base_split : (t : TraceValue) (x y u v : ℕ) → RankSet t 0 x y → IsAboveOrBase t x y u v ↔ (IsAboveOrBase t x (y + 1) u v ⊎ ((u ≡ x) × (v ≡ y)))
base_split t x y u v edge = (
  λ done. elim done [
    | inl above ↦ inl (inl above)
    | inr (base, from) ↦ elim (cases_eq u x) [
      | inl row ↦ elim (cases_eq v y) [ inl here ↦ inr (row, here) | inr other ↦ inl (inr (base, (from.0, λ e. omega (arith, from.1 e, other)))) ]
      | inr other ↦ inl (inr (base, (from.0, λ e. omega (arith, e, other))))
    ]
  ],
  λ done. elim done [
    | inl (inl above) ↦ inl above
    | inl (inr (base, from)) ↦ inr (base, (from.0, λ e. omega (arith, from.1 e)))
    | inr here ↦ inr (rw (here.0, here.1) edge, (omega (arith, here.0), λ e. omega (arith, here.1)))
  ],
)

-- The step of a marked base edge is put first.
pub base_step : (t : TraceValue) (k x y : ℕ) (cycle : List ℕ) (rule : BaseRule) (marks : Digraph) (old new : List CertStep) → IsFirstBase t x y rule → IsEdge marks x y →
    new ≡ old ++ record { from = x; to = y; reason = Base rule } ∷ [] →
    Collects t k cycle (IsEdge marks) (IsAboveOrBase t x (y + 1)) (reverse old) → Collects t k cycle (IsEdge marks) (IsAboveOrBase t x y) (reverse new)
base_step t k x y cycle rule marks old new first marked same collects =
    subst (λ l. Collects t k cycle (IsEdge marks) (IsAboveOrBase t x y) l) (sym (reverse_push old new step same))
    (Collects-step t k cycle (IsEdge marks) (IsEdge marks) (IsAboveOrBase t x (y + 1)) (IsAboveOrBase t x y) (reverse old) 0 step
    collects marked (base_rank t x y edge) first (λ u v. (λ m. inl m, λ m. elim m [ inl old_mark ↦ old_mark | inr none ↦ absurd none ])) (λ u v. base_split t x y u v edge) before)
  where
    step : CertStep
    step = record { from = x; to = y; reason = Base rule }

    edge : RankSet t 0 x y
    edge = (rule, first.0)

    before : (d : CertStep) (q : ℕ) → IsAboveOrBase t x (y + 1) d.from d.to → HasRank t d.from d.to q → IsListedBefore 0 step q d
    before d q (inl above) rank_d = inl (let same = rank_unique t d.from d.to above.0 q above.1 rank_d in omega (arith, above.2))
    before d q (inr (base, from)) rank_d = inr (
      rank_unique t d.from d.to 0 q (base_rank t d.from d.to base) rank_d,
      elim (cases_eq x d.from) [ inl same ↦ inr (same, omega (arith, from.1 same)) | inr other ↦ inl (omega (arith, from.0, other)) ],
    )

-- A pair that isn't marked, or isn't a base edge, is passed.
pub base_pass : (t : TraceValue) (k x y : ℕ) (cycle : List ℕ) (marks : Digraph) (steps : List CertStep) → (IsEdge marks x y → RankSet t 0 x y → ⊥) →
    Collects t k cycle (IsEdge marks) (IsAboveOrBase t x (y + 1)) steps → Collects t k cycle (IsEdge marks) (IsAboveOrBase t x y) steps
base_pass t k x y cycle marks steps none = base_from t k x y x (y + 1) cycle marks steps
    (λ u v f m edge. let other : x ≡ u → y ≡ v → ⊥ = λ e h. none (rw (e, h) m) (rw (e, h) edge) in
    (λ p. (p.0, λ e. omega (arith, p.1 e)), λ p. (p.0, λ e. omega (arith, p.1 e, other e))))

-- At last each edge is done.
pub all_done : (t : TraceValue) (k u v : ℕ) → RankSet t k u v → IsAboveOrBase t 0 0 u v
all_done t k u v edge =
    let rank = rank_exists t k u v edge in
    elim (cases_eq rank.0 0) [
      | inl base ↦ inr ((subst (λ r. HasRank t u v r) base rank.2).0, (omega arith, λ e. omega arith))
      | inr above ↦ inl (rank.0, rank.2, omega (arith, above))
    ]

-- ---- the first step

-- The cycle's edges marked in a graph without edges, and no steps.
pub first_steps : (t : TraceValue) (k : ℕ) (cycle : List ℕ) (empty marks : Digraph) → IsCycle (RankSet t k) cycle → ((x y : ℕ) → IsEdge empty x y → ⊥) → AddsEdges empty marks (AreOnCycle cycle) →
    Collects t k cycle (IsEdge marks) (IsAboveRank t k) []
first_steps t k cycle empty marks closed none marked =
    Collects-start t k cycle (IsEdge marks) (IsAboveRank t k) closed
    (λ u v. (λ m. elim ((marked.edges u v).0 m) [ inl old ↦ absurd (none u v old) | inr on ↦ on ], λ on. (marked.edges u v).1 (inr on)))
    (none_above t k)

-- a graph with the edges of a rank set in another form
pub rank_graph_as : (t : TraceValue) (r : ℕ) (old new : Digraph) → IsRankGraph t r old → new.nodes ≡ old.nodes → ((x y : ℕ) → IsEdge new x y ↔ IsEdge old x y) → IsRankGraph t r new
rank_graph_as t r old new graph nodes same = record {
  nodes = nodes ∙ graph.nodes;
  edges = λ x y. (λ e. (graph.edges x y).0 ((same x y).0 e), λ f. (same x y).1 ((graph.edges x y).1 f));
}

-- a least cycle over the same edges in another form
pub least_cycle_as : (Edge Other : ℕ → ℕ → Type 0) (cycle : List ℕ) → ((x y : ℕ) → Edge x y ↔ Other x y) → IsLeastCycle Edge cycle → IsLeastCycle Other cycle
least_cycle_as Edge Other cycle same least =
    (IsCycle-mono Edge Other (λ x y. (same x y).0) cycle least.0, λ other closed. least.1 other (IsCycle-mono Other Edge (λ x y. (same x y).1) other closed))
