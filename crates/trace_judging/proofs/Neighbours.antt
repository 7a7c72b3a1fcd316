-- The edges of paths and cycles, as they are added to a graph, and that their numbers lie below its nodes.
use Rattle.std.proofs.Common.{◌≡◌, ◌⊎◌, ◌↔◌, inl, inr, ℕ, zero, suc, ◌+◌, ◌-◌, ◌<◌, ◌≤◌, List, [], ◌∷◌, length, get_or, take, ◌==◌, false, refl, sym, subst, ◌∙◌, arith}
use Rattle.std.proofs.lemmas.Bool.{true≢false}
use Rattle.std.proofs.lemmas.List.{take_all}
use Rattle.order_paths.specs.Neighbours.{AreNeighbours, AreOnCycle}
use Rattle.order_paths.specs.Paths.{Linked, last_of, IsPath, IsCycle}
use Rattle.order_graph.specs.Digraphs.{Digraph, IsEdge}
use Rattle.tso_cert.specs.declared.steps.Reason.{Reason}
use Rattle.tso_cert.specs.declared.steps.Reason.TheVariants.{Base, Inferred}
use Rattle.tso_rules.specs.Rows.{IsJustifiedOver}
use Rattle.tso_ops.specs.Values.{TraceValue}
use Rattle.cert_check.proofs.Facts.{last_of-place}
use Rattle.round_pool.specs.RankGraphs.{AddsEdges}
use Rattle.trace_judging.specs.Internal.Collecting.{AreNumbersBelow, IsReasonBelow}

-- one number more makes one pair of neighbours more
neighbours_at : (path : List ℕ) (i u v : ℕ) → suc i < length path →
    AreNeighbours (take (suc (suc i)) path) u v ↔ (AreNeighbours (take (suc i) path) u v ⊎ ((u ≡ get_or path i 0) × (v ≡ get_or path (suc i) 0)))
neighbours_at [] i u v within = absurd (omega (arith, within))
neighbours_at (x ∷ []) i u v within = absurd (omega (arith, within))
neighbours_at (x ∷ y ∷ rest) zero u v within = (
  λ e. elim e [ inl here ↦ inr (sym here.0, sym here.1) | inr none ↦ absurd none ],
  λ e. elim e [ inl none ↦ absurd none | inr here ↦ inl (sym here.0, sym here.1) ],
)
neighbours_at (x ∷ y ∷ rest) (suc i) u v within =
    let later_ones = neighbours_at (y ∷ rest) i u v (omega (arith, within)) in (
      λ e. elim e [ inl here ↦ inl (inl here) | inr later ↦ elim (later_ones.0 later) [ inl old ↦ inl (inr old) | inr last ↦ inr last ] ],
      λ e. elim e [
        | inl old ↦ elim old [ inl here ↦ inl here | inr later ↦ inr (later_ones.1 (inl later)) ]
        | inr last ↦ inr (later_ones.1 (inr last))
      ],
    )

neighbours_more : (path : List ℕ) (i u v : ℕ) → 1 ≤ i → i < length path →
    AreNeighbours (take (i + 1) path) u v ↔ (AreNeighbours (take i path) u v ⊎ ((u ≡ get_or path (i - 1) 0) × (v ≡ get_or path i 0)))
neighbours_more path zero u v one within = absurd (omega (arith, one))
neighbours_more path (suc i) u v one within =
    let after : suc (suc i) ≡ suc i + 1 = omega arith in
    let before : i ≡ suc i - 1 = omega arith in
    subst (λ n. AreNeighbours (take n path) u v ↔ (AreNeighbours (take (suc i) path) u v ⊎ ((u ≡ get_or path (suc i - 1) 0) × (v ≡ get_or path (suc i) 0)))) after
    (subst (λ n. AreNeighbours (take (suc (suc i)) path) u v ↔ (AreNeighbours (take (suc i) path) u v ⊎ ((u ≡ get_or path n 0) × (v ≡ get_or path (suc i) 0)))) before
    (neighbours_at path i u v within))

neighbours_none : (path : List ℕ) (u v : ℕ) → AreNeighbours (take 1 path) u v → ⊥
neighbours_none [] u v next = next
neighbours_none (x ∷ rest) u v next = next

-- Adding one pair of neighbours more.
pub path_start : (g : Digraph) (path : List ℕ) → AddsEdges g g (AreNeighbours (take 1 path))
path_start g path = record { nodes = refl; edges = λ x y. (λ e. inl e, λ e. elim e [ inl old ↦ old | inr next ↦ absurd (neighbours_none path x y next) ]) }

pub path_step : (old now new : Digraph) (path : List ℕ) (i : ℕ) → 1 ≤ i → i < length path → AddsEdges old now (AreNeighbours (take i path)) → new.nodes ≡ now.nodes →
    ((x y : ℕ) → IsEdge new x y ↔ (IsEdge now x y ⊎ ((x ≡ get_or path (i - 1) 0) × (y ≡ get_or path i 0)))) → AddsEdges old new (AreNeighbours (take (i + 1) path))
path_step old now new path i one within adds nodes edges = record {
  nodes = nodes ∙ adds.nodes;
  edges = λ x y.
      let step = neighbours_more path i x y one within in (
        λ e. elim ((edges x y).0 e) [
          | inl now_edge ↦ elim ((adds.edges x y).0 now_edge) [ inl o ↦ inl o | inr next ↦ inr (step.1 (inl next)) ]
          | inr here ↦ inr (step.1 (inr here))
        ],
        λ e. (edges x y).1 (elim e [
          | inl o ↦ inl ((adds.edges x y).1 (inl o))
          | inr next ↦ elim (step.0 next) [ inl before ↦ inl ((adds.edges x y).1 (inr before)) | inr here ↦ inr here ]
        ]),
      );
}

pub path_end : (old now : Digraph) (path : List ℕ) (i : ℕ) → length path ≤ i → AddsEdges old now (AreNeighbours (take i path)) → AddsEdges old now (AreNeighbours path)
path_end old now path i past adds = subst (λ p. AddsEdges old now (AreNeighbours p)) (take_all i path past) adds

-- Adding a cycle's edges: its path's, and the edge from the last number to the first.
pub cycle_added : (old now new : Digraph) (cycle : List ℕ) (last first : ℕ) → AddsEdges old now (AreNeighbours cycle) → 0 < length cycle →
    last ≡ get_or cycle (length cycle - 1) 0 → first ≡ get_or cycle 0 0 → new.nodes ≡ now.nodes →
    ((x y : ℕ) → IsEdge new x y ↔ (IsEdge now x y ⊎ ((x ≡ last) × (y ≡ first)))) → AddsEdges old new (AreOnCycle cycle)
cycle_added old now new [] last first adds some last_is first_is nodes edges = absurd (omega (arith, some))
cycle_added old now new (z ∷ rest) last first adds some last_is first_is nodes edges = record {
  nodes = nodes ∙ adds.nodes;
  edges = λ x y. (
    λ e. elim ((edges x y).0 e) [
      | inl now_edge ↦ elim ((adds.edges x y).0 now_edge) [ inl o ↦ inl o | inr next ↦ inr (inl next) ]
      | inr here ↦ inr (inr (last_same ∙ sym here.0, sym first_is ∙ sym here.1))
    ],
    λ e. (edges x y).1 (elim e [
      | inl o ↦ inl ((adds.edges x y).1 (inl o))
      | inr (inl next) ↦ inl ((adds.edges x y).1 (inr next))
      | inr (inr ends) ↦ inr (sym ends.0 ∙ last_same, sym ends.1 ∙ sym first_is)
    ]),
  );
}
  where
    last_same : last_of z rest ≡ last
    last_same =
        let before : length rest ≡ length (z ∷ rest) - 1 = omega arith in
        last_of-place z rest 0 ∙ (subst (λ n. get_or (z ∷ rest) n 0 ≡ last) (sym before) (sym last_is))

-- the numbers of linked edges below a number lie below it
linked_below : (Edge : ℕ → ℕ → Type 0) (nodes x : ℕ) (rest : List ℕ) → ((a b : ℕ) → Edge a b → (a < nodes) × (b < nodes)) → x < nodes → Linked Edge (x ∷ rest) → AreNumbersBelow nodes (x ∷ rest)
linked_below Edge nodes x rest within below linked zero less = below
linked_below Edge nodes x [] within below linked (suc i) less = absurd (omega (arith, less))
linked_below Edge nodes x (y ∷ rest) within below linked (suc i) less = linked_below Edge nodes y rest within (within x y linked.0).1 linked.1 i (omega (arith, less))

pub cycle_below : (Edge : ℕ → ℕ → Type 0) (nodes : ℕ) (cycle : List ℕ) → ((a b : ℕ) → Edge a b → (a < nodes) × (b < nodes)) → IsCycle Edge cycle → AreNumbersBelow nodes cycle
cycle_below Edge nodes [] within closed i less = absurd (omega (arith, less))
cycle_below Edge nodes (x ∷ rest) within closed i less = linked_below Edge nodes x rest within (within (last_of x rest) x closed.1).1 closed.0 i less

path_below : (Edge : ℕ → ℕ → Type 0) (nodes u v : ℕ) (path : List ℕ) → ((a b : ℕ) → Edge a b → (a < nodes) × (b < nodes)) → IsPath Edge u v path → AreNumbersBelow nodes path
path_below Edge nodes u v [] within p i less = absurd (omega (arith, less))
path_below Edge nodes u v (x ∷ []) within p i less = absurd p.0
path_below Edge nodes u v (x ∷ y ∷ rest) within p i less = linked_below Edge nodes x (y ∷ rest) within (within x y p.1.0).0 p.1 i less

pub reason_below : (t : TraceValue) (Edge : ℕ → ℕ → Type 0) (nodes u v : ℕ) (reason : Reason) → ((a b : ℕ) → Edge a b → (a < nodes) × (b < nodes)) → IsJustifiedOver t Edge u v reason → IsReasonBelow nodes reason
reason_below t Edge nodes u v (Base rule) within just = tt
reason_below t Edge nodes u v (Inferred rule load path) within just = path_below Edge nodes just.1.0 just.1.1 path within just.1.3.0

-- a list of numbers that isn't empty has some
pub some_numbers : (cycle : List ℕ) → (length cycle == 0) ≡ false → 0 < length cycle
some_numbers [] none = absurd (true≢false none)
some_numbers (x ∷ rest) none = omega arith
