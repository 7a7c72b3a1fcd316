-- Lemmas on the rows that a round looks at, and on cycles that a round closes.
use Rattle.std.proofs.Common.{◌≡◌, zero, ◌⊎◌, inl, inr, ℕ, suc, ◌+◌, ◌-◌, ◌<◌, List, [], ◌∷◌, ◌++◌, length, length-append, get_or, take, refl, sym, subst, ◌∙◌, arith}
use Rattle.std.specs.Prelude.{Contains, AllPairs}
use Rattle.std.proofs.lemmas.Bool.{cases_eq, cases_lt}
use Rattle.std.proofs.lemmas.List.{get_or_default, get_or_at, get_or_append_left, take_more}
use Rattle.std.proofs.lemmas.List.Elements.{Contains-get_or, Contains-push_cases}
use Rattle.order_paths.specs.Paths.{Reaches, HasCycle}
use Rattle.order_paths.proofs.Decisions.{Decision}
use Rattle.order_paths.proofs.Reach.{Reaches-decided, Reaches-edge, Reaches-join, Reaches-into, HasCycle-iff, HasCycle-Reaches}
use Rattle.bitsets.specs.Rows.{IsListOf, IsAscending as IsAscendingRow}
use Rattle.order_graph.specs.Digraphs.{Digraph, IsEdge, HasGrown, ReachesMore}
use Rattle.order_graph.proofs.KeptTablesFacts.{IsEdge-decided}
use Rattle.tso_ops.specs.Values.{TraceValue}
use Rattle.tso_ops.specs.Events.{event_total}
use Rattle.tso_model.specs.NewEdges.{IsNew}
use Rattle.tso_model.proofs.Bounds.{RankSet-within}
use Rattle.tso_model.proofs.NewEdgeFacts.{new_within}
use Rattle.tso_rules.specs.Affected.{IsAffected}
use Rattle.tso_rules.proofs.AffectedFacts.{unaffected, rests_within}
use Rattle.round_pool.specs.declared.ranked.Edge.{Edge}
use Rattle.round_pool.specs.Rankings.{ListsEdge, edge_from}
use Rattle.round_pool.specs.RankGraphs.{IsRankGraph, AddsEdges}
use Rattle.round_pool.specs.Internal.Worksets.{IsWorkset, OnlyGrown, FollowsRound, ClosesCycle}
use Rattle.round_pool.proofs.GraphFacts.{no_new_from_init}

-- ---- lists of numbers

-- whether a list has a number
list_cases : (list : List ℕ) (n : ℕ) → Contains list n ⊎ (Contains list n → ⊥)
list_cases [] n = inr (λ has. let low : has.0 < 0 = has.1 in omega arith)
list_cases (x ∷ list) n = elim (cases_eq x n) [
  | inl same ↦ inl (0, omega arith, same)
  | inr other ↦ elim (list_cases list n) [
    | inl has ↦ inl (suc has.0, (let low : has.0 < length list = has.1 in omega arith), has.2)
    | inr none ↦ inr (λ has. not_here x list n other none has.0 has.1 has.2)
  ]
]
  where
    not_here : (x : ℕ) (list : List ℕ) (n : ℕ) → (x ≡ n → ⊥) → (Contains list n → ⊥) → (k : ℕ) → k < length (x ∷ list) → get_or (x ∷ list) k n ≡ n → ⊥
    not_here x list n other none zero low is = other is
    not_here x list n other none (suc k) low is = none (k, omega (arith, low), is)

-- an ascending list, place by place
ascending_pairs : (list : List ℕ) → IsAscendingRow list → AllPairs (λ x y. x < y) list
ascending_pairs [] ascends i j d before low = absurd (omega (arith, low))
ascending_pairs (x ∷ list) ascends zero zero d before low = absurd (omega (arith, before))
ascending_pairs (x ∷ list) ascends zero (suc j) d before low = ascends.0 (get_or list j d) (Contains-get_or list j d (omega (arith, low)))
ascending_pairs (x ∷ list) ascends (suc i) zero d before low = absurd (omega (arith, before))
ascending_pairs (x ∷ list) ascends (suc i) (suc j) d before low = ascending_pairs list ascends.1 i j d (omega (arith, before)) (omega (arith, low))

-- ---- worksets

-- whether there is a path in the graph of a rank set
path_decided : (t : TraceValue) (k : ℕ) (g : Digraph) → IsRankGraph t k g → (x y : ℕ) → Decision (Reaches (IsEdge g) x y)
path_decided t k g graph = Reaches-decided (IsEdge g) (suc (event_total t)) (IsEdge-decided g) (λ x y e. RankSet-within t k x y ((graph.edges x y).0 e))

-- the numbers of all events are a workset of each graph
pub all_workset : (t : TraceValue) (numbers : List ℕ) → length numbers ≡ event_total t → ((k : ℕ) → k < event_total t → get_or numbers k 0 ≡ k + 1) → (g : Digraph) → IsWorkset t g numbers
all_workset t numbers size each g = record {
  ascending = λ i j d before low.
      let a = at i d (omega (arith, before, low)) in
      let b = at j d low in
      omega (arith, a, b, before);
  within = λ u has. (let a = at has.0 u has.1 in omega (arith, a, has.1, has.2, size));
  whole = λ u v new. (let most = (new_within t (IsEdge g) u v new).0 in elim (cases_lt u 1) [
    | inl none ↦ absurd (let is : u ≡ 0 = omega (arith, none) in no_new_from_init t (IsEdge g) v (subst (λ n. IsNew t (IsEdge g) n v) is new))
    | inr some ↦ (u - 1, omega (arith, some, most, size), (let a = at (u - 1) u (omega (arith, some, most, size)) in omega (arith, a, some)))
  ]);
}
  where
    at : (k d : ℕ) → k < length numbers → get_or numbers k d ≡ k + 1
    at k d low = get_or_default numbers k d 0 low ∙ each k (omega (arith, low, size))

-- the next number is listed
pub numbers_more : (numbers new : List ℕ) (u : ℕ) → length numbers ≡ u → ((k : ℕ) → k < u → get_or numbers k 0 ≡ k + 1) → new ≡ numbers ++ (u + 1) ∷ [] →
    (length new ≡ u + 1) × ((k : ℕ) → k < u + 1 → get_or new k 0 ≡ k + 1)
numbers_more numbers new u size each is = subst (λ l. (length l ≡ u + 1) × ((k : ℕ) → k < u + 1 → get_or l k 0 ≡ k + 1)) (sym is) (
  omega (arith, size, length-append numbers ((u + 1) ∷ [])),
  λ k low. elim (cases_lt k u) [
    | inl before ↦ get_or_append_left numbers ((u + 1) ∷ []) 0 k (omega (arith, before, size)) ∙ each k before
    | inr past ↦ (let at : k ≡ u = omega (arith, low, past) in subst (λ n. get_or (numbers ++ (u + 1) ∷ []) n 0 ≡ n + 1) (sym at) (get_or_at numbers (u + 1) [] 0 u size))
  ],
)

-- the rows that rest on what grew are a workset
pub affected_workset : (t : TraceValue) (k : ℕ) (old new : Digraph) (grown numbers : List ℕ) → FollowsRound t k old new → IsListOf grown (HasGrown new) → IsListOf numbers (IsAffected t grown) →
    IsWorkset t new numbers
affected_workset t k old new grown numbers follows grown_is list = record {
  ascending = ascending_pairs numbers list.ascending;
  within = λ u has. (let rests = list.only u has in let low = rests_within t rests.0 u rests.2 in omega (arith, low));
  whole = λ u v new_edge. elim (list_cases numbers u) [
    | inl has ↦ has
    | inr none ↦ absurd (unaffected t grown old new u follows.kept same_paths (λ w more. follows.added u w more) (λ rests. none (list.all u rests)) v new_edge)
  ];
}
  where
    same_paths : (x y : ℕ) → (Contains grown x → ⊥) → Reaches (IsEdge new) x y → Reaches (IsEdge old) x y
    same_paths x y not_grown path = elim (path_decided t k old follows.ranked x y) [
      | inl before ↦ before
      | inr none ↦ absurd (follows.grown x (y, path, none) (λ has. not_grown (grown_is.all x has)))
    ]

-- ---- what grows

-- at first nothing has grown
pub grown_start : (g : Digraph) → OnlyGrown (IsEdge g) g
grown_start g x more none = more.2 more.1

-- with an edge more
pub grown_step : (Old : ℕ → ℕ → Type 0) (now new : Digraph) → OnlyGrown Old now → ((x : ℕ) → HasGrown now x ⊎ ReachesMore (IsEdge now) (IsEdge new) x → HasGrown new x) → OnlyGrown Old new
grown_step Old now new only grows x more none =
    none (grows x (inr (more.0, more.1, λ path. only x (more.0, path, more.2) (λ before. none (grows x (inl before))))))

-- ---- cycles that a round closes

-- a path over old edges, or one with an edge added: x is or reaches u, and v is or reaches y
abbrev Passes : Digraph → Digraph → (ℕ → ℕ → Type 0) → ℕ → ℕ → Type 0
Passes old new Added x y = Reaches (IsEdge old) x y ⊎ ((u : ℕ) × (v : ℕ) × Added u v × ((x ≡ u) ⊎ Reaches (IsEdge new) x u) × ((v ≡ y) ⊎ Reaches (IsEdge new) v y))

passes : (old new : Digraph) (Added : ℕ → ℕ → Type 0) → AddsEdges old new Added → (x y : ℕ) → Reaches (IsEdge new) x y → Passes old new Added x y
passes old new Added adds x y path = (Reaches-into (IsEdge new) (λ a b. Reaches (IsEdge new) a b × Passes old new Added a b) join each x y path).1
  where
    then : (a b c : ℕ) → (a ≡ b) ⊎ Reaches (IsEdge new) a b → Reaches (IsEdge new) b c → (a ≡ c) ⊎ Reaches (IsEdge new) a c
    then a b c (inl same) p = inr (subst (λ n. Reaches (IsEdge new) n c) (sym same) p)
    then a b c (inr q) p = inr (Reaches-join (IsEdge new) a b c q p)

    first : (a b c : ℕ) → Reaches (IsEdge new) a b → (b ≡ c) ⊎ Reaches (IsEdge new) b c → (a ≡ c) ⊎ Reaches (IsEdge new) a c
    first a b c p (inl same) = inr (subst (λ n. Reaches (IsEdge new) a n) same p)
    first a b c p (inr q) = inr (Reaches-join (IsEdge new) a b c p q)

    both : (a b c : ℕ) → Reaches (IsEdge new) a b → Passes old new Added a b → Reaches (IsEdge new) b c → Passes old new Added b c → Passes old new Added a c
    both a b c p (inl old_p) q (inl old_q) = inl (Reaches-join (IsEdge old) a b c old_p old_q)
    both a b c p (inl old_p) q (inr more) = inr (more.0, more.1, more.2, first a b more.0 p more.3, more.4)
    both a b c p (inr more) q passed = inr (more.0, more.1, more.2, more.3, then more.1 b c more.4 q)

    join : (a b c : ℕ) → Reaches (IsEdge new) a b × Passes old new Added a b → Reaches (IsEdge new) b c × Passes old new Added b c → Reaches (IsEdge new) a c × Passes old new Added a c
    join a b c p q = (Reaches-join (IsEdge new) a b c p.0 q.0, both a b c p.0 p.1 q.0 q.1)

    each : (a b : ℕ) → IsEdge new a b → Reaches (IsEdge new) a b × Passes old new Added a b
    each a b e = (
      Reaches-edge (IsEdge new) a b e,
      elim ((adds.edges a b).0 e) [
        | inl before ↦ inl (Reaches-edge (IsEdge old) a b before)
        | inr now ↦ inr (a, b, now, inl refl, inl refl)
      ],
    )

-- Where there was no cycle, there is one exactly where an edge added closes one.
pub cycle_closed : (old new : Digraph) (Added : ℕ → ℕ → Type 0) → AddsEdges old new Added → (HasCycle (IsEdge old) → ⊥) → HasCycle (IsEdge new) → ClosesCycle new Added
cycle_closed old new Added adds none cycle =
    let found = (HasCycle-iff (IsEdge new)).0 cycle in
    elim (passes old new Added adds found.0 found.0 found.1) [
      | inl before ↦ absurd (none (HasCycle-Reaches (IsEdge old) found.0 before))
      | inr more ↦ (more.0, more.1, more.2, round found.0 more.0 more.1 more.2 more.3 more.4)
    ]
  where
    round : (x u v : ℕ) → Added u v → (x ≡ u) ⊎ Reaches (IsEdge new) x u → (v ≡ x) ⊎ Reaches (IsEdge new) v x → Reaches (IsEdge new) v u
    round x u v edge (inl a) (inl b) =
        let same : u ≡ v = sym (b ∙ a) in
        subst (λ n. Reaches (IsEdge new) n u) same (subst (λ n. Reaches (IsEdge new) u n) (sym same) (Reaches-edge (IsEdge new) u v ((adds.edges u v).1 (inr edge))))
    round x u v edge (inl a) (inr q) = subst (λ n. Reaches (IsEdge new) v n) a q
    round x u v edge (inr p) (inl b) = subst (λ n. Reaches (IsEdge new) n u) (sym b) p
    round x u v edge (inr p) (inr q) = Reaches-join (IsEdge new) v x u q p

pub closed_cycle : (old new : Digraph) (Added : ℕ → ℕ → Type 0) → AddsEdges old new Added → ClosesCycle new Added → HasCycle (IsEdge new)
closed_cycle old new Added adds closes =
    let edge = Reaches-edge (IsEdge new) closes.0 closes.1 ((adds.edges closes.0 closes.1).1 (inr closes.2)) in
    HasCycle-Reaches (IsEdge new) closes.0 (Reaches-join (IsEdge new) closes.0 closes.1 closes.0 edge closes.3)

-- no edge passed closes a cycle, and neither does the next
pub none_closes : (g : Digraph) (edges : List Edge) (i : ℕ) (d : Edge) → ((u v : ℕ) → ListsEdge (take i edges) u v → Reaches (IsEdge g) v u → ⊥) → i < length edges →
    (Reaches (IsEdge g) (get_or edges i d).to (get_or edges i d).from → ⊥) → (u v : ℕ) → ListsEdge (take (i + 1) edges) u v → Reaches (IsEdge g) v u → ⊥
none_closes g edges i d none inside here u v has path =
    elim (Contains-push_cases (take i edges) (get_or edges i d) (edge_from u v) (subst (λ l. ListsEdge l u v) (take_more edges i d inside) has)) [
      | inl before ↦ none u v before path
      | inr now ↦ here (subst (λ (e : Edge). Reaches (IsEdge g) e.to e.from) (sym now) path)
    ]
