-- Lemmas on the edges of rows.
use Rattle.std.proofs.Common.{◌≡◌, inl, inr, ⊎_elim, ℕ, ◌+◌, ◌<◌, ◌≤◌, List, [], ◌∷◌, ◌++◌, length, map, get_or, refl, sym, ap, ◌∙◌, subst, arith}
use Rattle.std.specs.Prelude.{Contains, All, AllPairs}
use Rattle.std.proofs.lemmas.Bool.{cases_lt}
use Rattle.std.proofs.lemmas.List.{get_or-map, get_or_past, get_or_default, length-map}
use Rattle.std.proofs.lemmas.List.Elements.{Contains-append_left, Contains-append_right, Contains-append_cases, Contains-get_or}
use Rattle.order_graph.specs.Digraphs.{Digraph, IsEdge}
use Rattle.tso_ops.specs.Values.{TraceValue}
use Rattle.tso_ops.specs.Events.{event_total}
use Rattle.tso_model.specs.NewEdges.{IsNew}
use Rattle.tso_model.proofs.NewEdgeFacts.{new_within}
use Rattle.bitsets.specs.Rows.{IsAscending as IsAscendingRow}
use Rattle.round_pool.specs.declared.ranked.Edge.{Edge}
use Rattle.round_pool.specs.Internal.WorkerRows.{AreRowsOf}
use Rattle.round_pool.specs.Internal.EdgeLists.{AreEdgesOf, AreNewEdges, AreAscendingBelow}
use Rattle.round_pool.specs.Internal.Worksets.{IsWorkset}
use Rattle.round_pool.specs.Rankings.{ListsEdge, IsEdgeBefore, AreEdgesAscending, edge_from}
use Rattle.round_pool.proofs.GraphFacts.{empty_list}

-- ---- the edges of one row

-- an edge from u to one of the numbers
row_edge : (u : ℕ) (row : List ℕ) (e : Edge) → Contains (map (edge_from u) row) e → (e.from ≡ u) × Contains row e.to
row_edge u row e has =
    let low : has.0 < length row = let size = length-map row (edge_from u) in let here = has.1 in omega (arith, size, here) in
    let same : edge_from u (get_or row has.0 e.to) ≡ e = sym (get_or-map (edge_from u) row has.0 e.to e low) ∙ has.2 in
    (sym (ap (λ (d : Edge). d.from) same), (has.0, low, ap (λ (d : Edge). d.to) same))

edge_row : (u v : ℕ) (row : List ℕ) → Contains row v → ListsEdge (map (edge_from u) row) u v
edge_row u v row has =
    let low : has.0 < length (map (edge_from u) row) = let size = length-map row (edge_from u) in let here = has.1 in omega (arith, size, here) in
    (has.0, low, get_or-map (edge_from u) row has.0 v (edge_from u v) has.1 ∙ ap (edge_from u) has.2)

row_ascends : (u : ℕ) (row : List ℕ) → IsAscendingRow row → AreEdgesAscending (map (edge_from u) row)
row_ascends u [] ascends = tt
row_ascends u (v ∷ row) ascends = (λ other has. inr (sym (row_edge u row other has).0, ascends.0 other.to (row_edge u row other has).1), row_ascends u row ascends.1)

-- ---- the edges of rows

-- two ascending lists, of which each edge of the first stands before those of the second
ascending_join : (edges more : List Edge) → AreEdgesAscending edges → AreEdgesAscending more → ((d e : Edge) → Contains edges d → Contains more e → IsEdgeBefore d e) → AreEdgesAscending (edges ++ more)
ascending_join [] more first second before = second
ascending_join (d ∷ edges) more first second before = (
  λ other has. ⊎_elim
      (λ (here : Contains edges other). first.0 other here)
      (λ (there : Contains more other). before d other (0, omega arith, refl) there)
      (Contains-append_cases edges more other has),
  ascending_join edges more first.1 second (λ c e has there. before c e (Contains-append_right (d ∷ []) edges c has) there),
)

-- no row is passed at first
pub edges_none : (numbers : List ℕ) (rows : List (List ℕ)) (edges : List Edge) → edges ≡ [] → AreEdgesOf numbers rows 0 edges
edges_none numbers rows edges none = subst (AreEdgesOf numbers rows 0) (sym none) record {
  all = λ k v low has. absurd (omega arith);
  only = λ u v has. absurd (empty_list (edge_from u v) has);
  ascending = tt;
}

-- the edges of one row more
pub edges_row : (numbers : List ℕ) (rows : List (List ℕ)) (i : ℕ) (edges new : List Edge) (row : List ℕ) → AreEdgesOf numbers rows i edges → AllPairs (λ x y. x < y) numbers → i < length numbers →
    row ≡ get_or rows i [] → IsAscendingRow row → new ≡ edges ++ map (edge_from (get_or numbers i 0)) row → AreEdgesOf numbers rows (i + 1) new
edges_row numbers rows i edges new row are ascending inside is ascends same = subst (AreEdgesOf numbers rows (i + 1)) (sym same) record {
  all = λ k v low has. elim (cases_lt k i) [
    | inl before ↦ Contains-append_left edges more (edge_from (get_or numbers k 0) v) (are.all k v before has)
    | inr past ↦ (let at : k ≡ i = omega (arith, low, past) in
        Contains-append_right edges more (edge_from (get_or numbers k 0) v)
        (subst (λ n. ListsEdge more (get_or numbers n 0) v) (sym at) (edge_row (get_or numbers i 0) v row (subst (λ r. Contains r v) (sym is) (subst (λ n. Contains (get_or rows n []) v) at has)))))
  ];
  only = λ u v has. elim (Contains-append_cases edges more (edge_from u v) has) [
    | inl before ↦ (let found = are.only u v before in (found.0, omega (arith, found.1), found.2, found.3))
    | inr here ↦ (let found = row_edge (get_or numbers i 0) row (edge_from u v) here in (i, omega arith, sym found.0, subst (λ r. Contains r v) is found.1))
  ];
  ascending = ascending_join edges more are.ascending (row_ascends (get_or numbers i 0) row ascends) (λ d e here there.
      let found = are.only d.from d.to here in
      let at = row_edge (get_or numbers i 0) row e there in
      let less = ascending found.0 i 0 found.1 inside in
      inl (omega (arith, less, found.2, at.0)));
}
  where
    more : List Edge
    more = map (edge_from (get_or numbers i 0)) row

-- ---- the edges of a round

-- the edges of the rows of a workset are those that a round adds
pub workset_edges : (t : TraceValue) (g : Digraph) (numbers : List ℕ) (rows : List (List ℕ)) (edges : List Edge) → IsWorkset t g numbers → AreRowsOf t g numbers rows →
    AreEdgesOf numbers rows (length numbers) edges → AreNewEdges t g edges
workset_edges t g numbers rows edges workset are lists = record {
  all = λ u v new. (let at = workset.whole u v new in
      let low : at.0 < length numbers = at.1 in
      let same : get_or numbers at.0 0 ≡ u = get_or_default numbers at.0 0 u low ∙ at.2 in
      subst (λ n. ListsEdge edges n v) same (lists.all at.0 v low ((are.row at.0 low).all v (subst (λ n. IsNew t (IsEdge g) n v) (sym same) new))));
  only = λ u v has. (let found = lists.only u v has in subst (λ n. IsNew t (IsEdge g) n v) found.2 ((are.row found.0 found.1).only v found.3));
  ascending = lists.ascending;
}

-- the rows of numbers ascend, and lie within the graph
pub rows_ascend : (t : TraceValue) (g : Digraph) (numbers : List ℕ) (rows : List (List ℕ)) (bound : ℕ) → AreRowsOf t g numbers rows → event_total t < bound → AreAscendingBelow bound rows
rows_ascend t g numbers rows bound are most = record {
  ascending = λ k. elim (cases_lt k (length numbers)) [ inl low ↦ (are.row k low).ascending | inr past ↦ subst IsAscendingRow (sym (none k past)) tt ];
  below = λ k v has. elim (cases_lt k (length numbers)) [
    | inl low ↦ (let within = (new_within t (IsEdge g) (get_or numbers k 0) v ((are.row k low).only v has)).1 in omega (arith, within, most))
    | inr past ↦ absurd (empty_list v (subst (λ r. Contains r v) (none k past) has))
  ];
}
  where
    none : (k : ℕ) → length numbers ≤ k → get_or rows k [] ≡ []
    none k past = get_or_past rows k [] (omega (arith, are.count_is, past))

-- the numbers of a workset lie below what is above the number of events
pub numbers_below : (t : TraceValue) (g : Digraph) (numbers : List ℕ) (bound : ℕ) → IsWorkset t g numbers → event_total t < bound → All (λ u. u < bound) numbers
numbers_below t g numbers bound workset most = λ k d low.
    let most_k = workset.within (get_or numbers k d) (Contains-get_or numbers k d low) in omega (arith, most_k, most)
