-- Rows of words that are given to a table, and the graph of a table that gains them.
use Rattle.std.proofs.Common.{◌≡◌, ◌⊎◌, ◌↔◌, inl, inr, ℕ, ◌+◌, ◌*◌, ◌/◌, ◌^◌, ◌<◌, List, length, replicate, sym, ap, subst, ◌∙◌, arith}
use Rattle.std.proofs.lemmas.List.{length-replicate}
use Rattle.bitsets.specs.Rows.{HasNumber}
use Rattle.bitsets.specs.Tables.{IsSet, Adds}
use Rattle.order_graph.specs.Internal.Tables.{IsTable}
use Rattle.order_graph.specs.Digraphs.{Digraph, IsEdge}
use Rattle.bitsets.proofs.TableFacts.{column_within, no_bit}
use Rattle.order_graph.proofs.KeptTablesFacts.{Sees, sees_edge}

-- A table of zeros has no edges.
pub IsTable-empty : (nodes width : ℕ) (edges : List ℕ) → nodes < 2 ^ 32 → width ≡ (nodes + 63) / 64 → edges ≡ replicate (nodes * width) 0 → IsTable nodes width edges
IsTable-empty nodes width edges small fits e = record {
  small = small;
  fits = fits;
  sized = ap length e ∙ length-replicate {A = ℕ} (nodes * width) 0;
  within = λ x y hx hy s. absurd (no_bit (nodes * width) width x y (subst (λ l. IsSet l width x y) e s));
}

-- A table of edges that gains edges to numbers below `nodes` is one still.
pub IsTable-more : (nodes width : ℕ) (edges more new : List ℕ) (Given : ℕ → ℕ → Type 0) → IsTable nodes width edges → new ≡ more → length more ≡ length edges →
    ((u v : ℕ) → Given u v → v < nodes) → Adds edges more width Given → IsTable nodes width new
IsTable-more nodes width edges more new Given keeps same sized below adds =
    subst (λ t. IsTable nodes width t) (sym same) record {
      small = keeps.small;
      fits = keeps.fits;
      sized = sized ∙ keeps.sized;
      within = λ x y hx hy s. elim ((adds.bits x y hy).0 s) [ inl o ↦ keeps.within x y hx hy o | inr g ↦ below x y g ];
    }

-- The edges of the table with more are those of the graph with more.
pub sees_words : (old new : Digraph) (nodes width : ℕ) (table more words : List ℕ) (u : ℕ) → Sees old nodes width table → Sees new nodes width more → width ≡ (nodes + 63) / 64 → u < nodes →
    ((v : ℕ) → HasNumber words v → v < nodes) → Adds table more width (λ i y. (i ≡ u) × HasNumber words y) →
    (x y : ℕ) → IsEdge new x y ↔ (IsEdge old x y ⊎ ((x ≡ u) × HasNumber words y))
sees_words old new nodes width table more words u sees_old sees_new fits hu below adds x y =
    let o = sees_edge old nodes width table sees_old x y in
    let n = sees_edge new nodes width more sees_new x y in (
      λ e. let p = n.0 e in elim ((adds.bits x y (column_within y nodes width fits p.1)).0 p.2) [ inl s ↦ inl (o.1 (p.0, p.1, s)) | inr g ↦ inr g ],
      λ e. elim e [
        | inl e' ↦ (let p = o.0 e' in n.1 (p.0, p.1, (adds.bits x y (column_within y nodes width fits p.1)).1 (inl p.2)))
        | inr g ↦ (let hx : x < nodes = omega (arith, g.0) in let hy : y < nodes = below y g.1 in n.1 (hx, hy, (adds.bits x y (column_within y nodes width fits hy)).1 (inr g)))
      ],
    )
