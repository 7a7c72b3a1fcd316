-- The graph that tables keep, and how they keep it when an edge is added.
use Rattle.std.proofs.Common.{◌≡◌, ◌==◌, ◌⊎◌, ◌↔◌, inl, inr, ℕ, ◌+◌, ◌*◌, ◌/◌, ◌%◌, ◌^◌, ◌<◌, ◌≤◌, false, IsTrue, List, [], length, get_or, take, drop, map, replicate, sym, ap, subst, ◌∙◌, arith}
use Rattle.std.specs.Int.{bit_at}
use Rattle.std.specs.List.{range_with_len}
use Rattle.std.proofs.lemmas.Bool.{eqb-true, eq-eqb, cases_lt, false≢true}
use Rattle.std.proofs.lemmas.List.{get_or_past, length-replicate}
use Rattle.std.proofs.lemmas.List.FromFn.{get_or-map-range_with_len, length-map-range_with_len}
use Rattle.order_paths.specs.Paths.{Reaches}
use Rattle.order_paths.proofs.Decisions.{Decision, Decision-IsTrue}
use Rattle.order_paths.proofs.Reach.{Reaches-join, Reaches-mono, Reaches-decided, Reaches-below}
use Rattle.bitsets.specs.Rows.{HasBit, HasNumber}
use Rattle.bitsets.specs.Tables.{IsSet, Adds}
use Rattle.order_graph.specs.Internal.Tables.{IsSelfOrSet, AreTransposed, IsTransitive, Joined}
use Rattle.order_graph.specs.Digraphs.{Digraph, IsEdge, EdgesWithin}
use Rattle.order_graph.specs.Internal.Views.{tests_of, grown_graph_of}
use Rattle.order_graph.specs.Internal.KeptPaths.{KeepsAllPaths}
use Rattle.bitsets.proofs.TableFacts.{column_within, no_bit, HasNumber-row}
use Rattle.order_graph.proofs.AddedEdges.{WithEdge, ReachesThrough, reach_split, reach_through, reach_same}

-- a test of a row that a table keeps
pub test_is : (nodes width : ℕ) (table : List ℕ) (x y : ℕ) → y < nodes → IsTrue (get_or (tests_of table width nodes x) y false) ↔ IsSet table width x y
unfolding IsSet HasBit
test_is nodes width table x y h =
    let e = get_or-map-range_with_len (λ z. bit_at (get_or table (x * width + z / 64) 0) (z % 64) == 1) 0 nodes y y false h (omega arith) in
    (λ t. eqb-true _ 1 (sym e ∙ t), λ s. e ∙ eq-eqb _ 1 s)

-- the tests of a row past the end, and past a row's end, answer false
pub no_test : (nodes width : ℕ) (table : List ℕ) (x y : ℕ) → nodes ≤ y → IsTrue (get_or (tests_of table width nodes x) y false) → ⊥
no_test nodes width table x y h t =
    false≢true (sym (get_or_past (tests_of table width nodes x) y false (omega (arith, length-map-range_with_len (λ z. bit_at (get_or table (x * width + z / 64) 0) (z % 64) == 1) 0 nodes))) ∙ t)

-- The edges of the graph that a table keeps are the table's edges.
pub IsEdge_of : (nodes width : ℕ) (table grown : List ℕ) (x y : ℕ) → IsEdge (grown_graph_of nodes width table grown) x y ↔ Joined table width nodes x y
unfolding IsEdge
IsEdge_of nodes width table grown x y = (to, back)
  where
    row : x < nodes → get_or (map (tests_of table width nodes) (range_with_len 0 nodes)) x [] ≡ tests_of table width nodes x
    row h = get_or-map-range_with_len (tests_of table width nodes) 0 nodes x x [] h (omega arith)

    to : IsTrue (get_or (get_or (map (tests_of table width nodes) (range_with_len 0 nodes)) x []) y false) → Joined table width nodes x y
    to t = elim (cases_lt x nodes) [
      | inl hx ↦ elim (cases_lt y nodes) [
        | inl hy ↦ (hx, hy, (test_is nodes width table x y hy).0 (subst (λ r. IsTrue (get_or r y false)) (row hx) t))
        | inr past ↦ absurd (no_test nodes width table x y past (subst (λ r. IsTrue (get_or r y false)) (row hx) t))
      ]
      | inr past ↦ absurd (false≢true (subst (λ r. IsTrue (get_or r y false))
          (get_or_past (map (tests_of table width nodes) (range_with_len 0 nodes)) x [] (omega (arith, length-map-range_with_len (tests_of table width nodes) 0 nodes))) t))
    ]

    back : Joined table width nodes x y → IsTrue (get_or (get_or (map (tests_of table width nodes) (range_with_len 0 nodes)) x []) y false)
    back p = subst (λ r. IsTrue (get_or r y false)) (sym (row p.0)) ((test_is nodes width table x y p.1).1 p.2)

-- A graph is the one that the table keeps.
pub record Sees (g : Digraph) (size width : ℕ) (table : List ℕ) : Type 0 where
  pub grown : List ℕ
  pub is : grown_graph_of size width table grown ≡ g

pub sees_nodes : (g : Digraph) (nodes width : ℕ) (table : List ℕ) → Sees g nodes width table → g.nodes ≡ nodes
sees_nodes g nodes width table sees = ap (λ (d : Digraph). d.nodes) (sym sees.is)

pub sees_edge : (g : Digraph) (nodes width : ℕ) (table : List ℕ) → Sees g nodes width table → (x y : ℕ) → IsEdge g x y ↔ Joined table width nodes x y
sees_edge g nodes width table sees x y = subst (λ d. IsEdge d x y ↔ Joined table width nodes x y) sees.is (IsEdge_of nodes width table sees.grown x y)

pub sees_path : (g : Digraph) (nodes width : ℕ) (table : List ℕ) → Sees g nodes width table → (x y : ℕ) → Reaches (IsEdge g) x y ↔ Reaches (Joined table width nodes) x y
sees_path g nodes width table sees x y = (
  Reaches-mono (IsEdge g) (Joined table width nodes) (λ a b. (sees_edge g nodes width table sees a b).0) x y,
  Reaches-mono (Joined table width nodes) (IsEdge g) (λ a b. (sees_edge g nodes width table sees a b).1) x y,
)

pub sees_within : (g : Digraph) (nodes width : ℕ) (table : List ℕ) → Sees g nodes width table → EdgesWithin g
sees_within g nodes width table sees x y e =
    let p = (sees_edge g nodes width table sees x y).0 e in
    let n = sees_nodes g nodes width table sees in
    (omega (arith, p.0), omega (arith, p.1))

-- whether there is an edge is decided
pub IsEdge-decided : (g : Digraph) (x y : ℕ) → Decision (IsEdge g x y)
unfolding IsEdge
IsEdge-decided g x y = Decision-IsTrue (get_or (get_or g.edges x []) y false)

pub sees_decided : (g : Digraph) (nodes width : ℕ) (table : List ℕ) → Sees g nodes width table → (x y : ℕ) → Decision (Reaches (IsEdge g) x y)
sees_decided g nodes width table sees x y = Reaches-decided (IsEdge g) g.nodes (IsEdge-decided g) (sees_within g nodes width table sees) x y

-- The edges of the table with one more are those of the graph with one more.
pub sees_more : (old new : Digraph) (nodes width : ℕ) (table more : List ℕ) (u v : ℕ) → Sees old nodes width table → Sees new nodes width more → width ≡ (nodes + 63) / 64 → u < nodes → v < nodes →
    Adds table more width (λ x y. (x ≡ u) × (y ≡ v)) → (x y : ℕ) → IsEdge new x y ↔ (IsEdge old x y ⊎ ((x ≡ u) × (y ≡ v)))
sees_more old new nodes width table more u v sees_old sees_new fits hu hv adds x y =
    let o = sees_edge old nodes width table sees_old x y in
    let n = sees_edge new nodes width more sees_new x y in (
      λ e. let p = n.0 e in elim ((adds.bits x y (column_within y nodes width fits p.1)).0 p.2) [ inl s ↦ inl (o.1 (p.0, p.1, s)) | inr g ↦ inr g ],
      λ e. elim e [
        | inl e' ↦ (let p = o.0 e' in n.1 (p.0, p.1, (adds.bits x y (column_within y nodes width fits p.1)).1 (inl p.2)))
        | inr g ↦ (let hx : x < nodes = omega (arith, g.0) in let hy : y < nodes = omega (arith, g.1) in n.1 (hx, hy, (adds.bits x y (column_within y nodes width fits hy)).1 (inr g)))
      ],
    )

-- the edges of a table with one more, between numbers below `nodes`
Joined-more : (table more : List ℕ) (nodes width u v : ℕ) → width ≡ (nodes + 63) / 64 → u < nodes → v < nodes → Adds table more width (λ x y. (x ≡ u) × (y ≡ v)) →
    (x y : ℕ) → Joined more width nodes x y ↔ WithEdge (Joined table width nodes) u v x y
Joined-more table more nodes width u v fits hu hv adds x y = (
  λ p. elim ((adds.bits x y (column_within y nodes width fits p.1)).0 p.2) [ inl s ↦ inl (p.0, p.1, s) | inr g ↦ inr g ],
  λ e. elim e [
    | inl p ↦ (p.0, p.1, (adds.bits x y (column_within y nodes width fits p.1)).1 (inl p.2))
    | inr g ↦ (let hx : x < nodes = omega (arith, g.0) in let hy : y < nodes = omega (arith, g.1) in (hx, hy, (adds.bits x y (column_within y nodes width fits hy)).1 (inr g)))
  ],
)

pub Reaches-more : (table more : List ℕ) (nodes width u v : ℕ) → width ≡ (nodes + 63) / 64 → u < nodes → v < nodes → Adds table more width (λ x y. (x ≡ u) × (y ≡ v)) →
    (x y : ℕ) → Reaches (Joined more width nodes) x y ↔ Reaches (WithEdge (Joined table width nodes) u v) x y
Reaches-more table more nodes width u v fits hu hv adds x y = (
  Reaches-mono (Joined more width nodes) (WithEdge (Joined table width nodes) u v) (λ a b. (Joined-more table more nodes width u v fits hu hv adds a b).0) x y,
  Reaches-mono (WithEdge (Joined table width nodes) u v) (Joined more width nodes) (λ a b. (Joined-more table more nodes width u v fits hu hv adds a b).1) x y,
)

-- the table of paths is transitive
pub KeepsAllPaths-transitive : (nodes width : ℕ) (edges paths transposed : List ℕ) → KeepsAllPaths nodes width edges paths transposed → IsTransitive paths width nodes
KeepsAllPaths-transitive nodes width edges paths transposed keeps = record {
  joins = λ x y z hx hy hz p q. (keeps.tells x z hx hz).1 (Reaches-join (Joined edges width nodes) x y z ((keeps.tells x y hx hy).0 p) ((keeps.tells y z hy hz).0 q));
}

-- with an edge more, bits of rows stay within
edges_within_more : (nodes width : ℕ) (edges more paths transposed : List ℕ) (u v : ℕ) → KeepsAllPaths nodes width edges paths transposed → v < nodes → Adds edges more width (λ x y. (x ≡ u) × (y ≡ v)) →
    (x y : ℕ) → x < nodes → y / 64 < width → IsSet more width x y → y < nodes
edges_within_more nodes width edges more paths transposed u v keeps hv adds x y hx hy s = elim ((adds.bits x y hy).0 s) [ inl o ↦ keeps.edges_within x y hx hy o | inr g ↦ omega (arith, g.1) ]

-- An edge where there is a path already changes no path.
pub KeepsAllPaths-edge : (nodes width : ℕ) (edges more new paths transposed : List ℕ) (u v : ℕ) → KeepsAllPaths nodes width edges paths transposed → new ≡ more → length more ≡ length edges → u < nodes → v < nodes →
    Adds edges more width (λ x y. (x ≡ u) × (y ≡ v)) → IsSet paths width u v → KeepsAllPaths nodes width new paths transposed
KeepsAllPaths-edge nodes width edges more new paths transposed u v keeps same sized hu hv adds set =
    subst (λ t. KeepsAllPaths nodes width t paths transposed) (sym same) record {
      small = keeps.small;
      fits = keeps.fits;
      edges_sized = sized ∙ keeps.edges_sized;
      edges_within = edges_within_more nodes width edges more paths transposed u v keeps hv adds;
      paths_transposed = keeps.paths_transposed;
      tells = λ x y hx hy. (
        λ s. (Reaches-more edges more nodes width u v keeps.fits hu hv adds x y).1 (reach_through (Joined edges width nodes) u v x y (inl ((keeps.tells x y hx hy).0 s))),
        λ p. (keeps.tells x y hx hy).1 (reach_same (Joined edges width nodes) u v x y ((keeps.tells u v hu hv).0 set) ((Reaches-more edges more nodes width u v keeps.fits hu hv adds x y).0 p)),
      );
    }

-- An edge where there is none: what is or reaches u gains v and what v reaches.
pub KeepsAllPaths-join : (nodes width : ℕ) (edges more new paths wider new_paths transposed other new_transposed : List ℕ) (u v : ℕ) → KeepsAllPaths nodes width edges paths transposed →
    new ≡ more → new_paths ≡ wider → new_transposed ≡ other → length more ≡ length edges → u < nodes → v < nodes →
    Adds edges more width (λ x y. (x ≡ u) × (y ≡ v)) →
    Adds paths wider width (λ x y. (x < nodes) × ((x ≡ u) ⊎ IsSet paths width x u) × IsSelfOrSet paths width v y) →
    AreTransposed wider other width nodes → KeepsAllPaths nodes width new new_paths new_transposed
KeepsAllPaths-join nodes width edges more new paths wider new_paths transposed other new_transposed u v keeps same same_paths same_transposed sized hu hv adds joins are =
    subst (λ t. KeepsAllPaths nodes width t new_paths new_transposed) (sym same) (subst (λ t. KeepsAllPaths nodes width more t new_transposed) (sym same_paths) (subst (λ t. KeepsAllPaths nodes width more wider t) (sym same_transposed) kept))
  where
    tells : (x y : ℕ) → x < nodes → y < nodes → IsSet wider width x y ↔ ReachesThrough (Joined edges width nodes) u v x y
    tells x y hx hy =
        let bits = joins.bits x y (column_within y nodes width keeps.fits hy) in (
          λ s. elim (bits.0 s) [
            | inl o ↦ inl ((keeps.tells x y hx hy).0 o)
            | inr g ↦ inr (elim g.1 [ inl e ↦ inl e | inr p ↦ inr ((keeps.tells x u hx hu).0 p) ], elim g.2 [ inl e ↦ inl e | inr q ↦ inr ((keeps.tells v y hv hy).0 q) ])
          ],
          λ p. bits.1 (elim p [
            | inl o ↦ inl ((keeps.tells x y hx hy).1 o)
            | inr g ↦ inr (hx, elim g.0 [ inl e ↦ inl e | inr p' ↦ inr ((keeps.tells x u hx hu).1 p') ], elim g.1 [ inl e ↦ inl e | inr q ↦ inr ((keeps.tells v y hv hy).1 q) ])
          ]),
        )

    kept : KeepsAllPaths nodes width more wider other
    kept = record {
      small = keeps.small;
      fits = keeps.fits;
      edges_sized = sized ∙ keeps.edges_sized;
      edges_within = edges_within_more nodes width edges more paths transposed u v keeps hv adds;
      paths_transposed = are;
      tells = λ x y hx hy.
          let r = Reaches-more edges more nodes width u v keeps.fits hu hv adds x y in
          (λ s. r.1 (reach_through (Joined edges width nodes) u v x y ((tells x y hx hy).0 s)), λ p. (tells x y hx hy).1 (reach_split (Joined edges width nodes) u v x y (r.0 p)));
    }

-- Tables of zeros keep the graph without edges.
pub KeepsAllPaths-empty : (nodes width : ℕ) (edges paths transposed : List ℕ) → nodes < 2 ^ 32 → width ≡ (nodes + 63) / 64 →
    edges ≡ replicate (nodes * width) 0 → paths ≡ replicate (nodes * width) 0 → transposed ≡ replicate (nodes * width) 0 → KeepsAllPaths nodes width edges paths transposed
KeepsAllPaths-empty nodes width edges paths transposed small fits e p t = record {
  small = small;
  fits = fits;
  edges_sized = ap length e ∙ length-replicate {A = ℕ} (nodes * width) 0;
  edges_within = λ x y hx hy s. absurd (none edges e x y s);
  paths_transposed = record {
    table_sized = ap length p ∙ length-replicate {A = ℕ} (nodes * width) 0;
    transposed_sized = ap length t ∙ length-replicate {A = ℕ} (nodes * width) 0;
    within = λ x y hx hy s. absurd (none paths p x y s);
    transposed_within = λ x y hx hy s. absurd (none transposed t x y s);
    same = λ x y hx hy. (λ s. absurd (none transposed t y x s), λ s. absurd (none paths p x y s));
  };
  tells = λ x y hx hy. (λ s. absurd (none paths p x y s), λ r. absurd (no_path x y r));
}
  where
    none : (table : List ℕ) → table ≡ replicate (nodes * width) 0 → (x y : ℕ) → IsSet table width x y → ⊥
    none table same x y s = no_bit (nodes * width) width x y (subst (λ l. IsSet l width x y) same s)

    no_path : (x y : ℕ) → Reaches (Joined edges width nodes) x y → ⊥
    no_path x y r = omega (arith, (Reaches-below (Joined edges width nodes) 0 (λ a b j. absurd (none edges e a b j.2)) x y r).0)

-- the graph of a table of zeros has no edge
pub sees_empty : (g : Digraph) (nodes width : ℕ) (table : List ℕ) → Sees g nodes width table → table ≡ replicate (nodes * width) 0 → (x y : ℕ) → IsEdge g x y → ⊥
sees_empty g nodes width table sees same x y e = no_bit (nodes * width) width x y (subst (λ l. IsSet l width x y) same ((sees_edge g nodes width table sees x y).0 e).2)

-- the numbers of a row of the table of paths are those that the row's number has a path to
pub row_paths : (nodes width : ℕ) (edges paths transposed : List ℕ) → KeepsAllPaths nodes width edges paths transposed → (count x v : ℕ) → count ≡ width → x < nodes →
    HasNumber (take count (drop (x * width) paths)) v ↔ Reaches (Joined edges width nodes) x v
row_paths nodes width edges paths transposed keeps count x v e h = (
  λ b. let p = (HasNumber-row paths width count x v e).0 b in
      (keeps.tells x v h (keeps.paths_transposed.within x v h p.0 p.1)).0 p.1,
  λ path. let low = (Reaches-below (Joined edges width nodes) nodes (λ a b j. (j.0, j.1)) x v path).1 in
      (HasNumber-row paths width count x v e).1 (column_within v nodes width keeps.fits low, (keeps.tells x v h low).1 path),
)
