-- Tables that lose a bit.
use Rattle.std.proofs.Common.{◌≡◌, ◌↔◌, ℕ, ◌+◌, ◌/◌, List, length, sym, subst, ◌∙◌}
use Rattle.order_paths.proofs.Reach.{Reaches-mono}
use Rattle.bitsets.specs.Tables.{Loses}
use Rattle.order_graph.specs.Internal.Tables.{Joined}
use Rattle.order_graph.specs.Digraphs.{Digraph, IsEdge}
use Rattle.order_graph.specs.Internal.KeptPaths.{Covers}
use Rattle.bitsets.proofs.TableFacts.{column_within}
use Rattle.order_graph.proofs.KeptTablesFacts.{Sees, sees_edge}

-- The edges of a table that lost a bit.
Joined-less : (table less : List ℕ) (nodes width u v : ℕ) → width ≡ (nodes + 63) / 64 → Loses table less width u v →
    (x y : ℕ) → Joined less width nodes x y ↔ (Joined table width nodes x y × ((x ≡ u) × (y ≡ v) → ⊥))
Joined-less table less nodes width u v fits loses x y = (
  λ e. let p = (loses.bits x y (column_within y nodes width fits e.1)).0 e.2 in ((e.0, e.1, p.0), p.1),
  λ p. (p.0.0, p.0.1, (loses.bits x y (column_within y nodes width fits p.0.1)).1 (p.0.2, p.1)),
)

-- Tables that have at least the paths of some edges have those of fewer.
pub Covers-less : (nodes width : ℕ) (edges less new paths transposed : List ℕ) (u v : ℕ) → Covers nodes width edges paths transposed → new ≡ less → length less ≡ length edges →
    Loses edges less width u v → Covers nodes width new paths transposed
Covers-less nodes width edges less new paths transposed u v covers same sized loses =
    subst (λ t. Covers nodes width t paths transposed) (sym same) record {
      small = covers.small;
      fits = covers.fits;
      edges_sized = sized ∙ covers.edges_sized;
      edges_within = λ x y hx hy s. covers.edges_within x y hx hy ((loses.bits x y hy).0 s).0;
      paths_sized = covers.paths_sized;
      transposed_sized = covers.transposed_sized;
      onward = λ x y z hx from e. covers.onward x y z hx from (fewer y z e);
      back = λ x y hx hy p. covers.back x y hx hy (Reaches-mono (Joined less width nodes) (Joined edges width nodes) fewer x y p);
    }
  where
    fewer : (x y : ℕ) → Joined less width nodes x y → Joined edges width nodes x y
    fewer x y e = ((Joined-less edges less nodes width u v covers.fits loses x y).0 e).0

-- The edges of the table without one are those of the graph without one.
pub sees_less : (old new : Digraph) (nodes width : ℕ) (table less : List ℕ) (u v : ℕ) → Sees old nodes width table → Sees new nodes width less → width ≡ (nodes + 63) / 64 →
    Loses table less width u v → (x y : ℕ) → IsEdge new x y ↔ (IsEdge old x y × ((x ≡ u) × (y ≡ v) → ⊥))
sees_less old new nodes width table less u v sees_old sees_new fits loses x y =
    let o = sees_edge old nodes width table sees_old x y in
    let n = sees_edge new nodes width less sees_new x y in
    let j = Joined-less table less nodes width u v fits loses x y in
    (λ e. let p = j.0 (n.0 e) in (o.1 p.0, p.1), λ p. n.1 (j.1 (o.0 p.0, p.1)))
