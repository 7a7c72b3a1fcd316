-- What rows over a graph say of rank sets.
use Rattle.std.proofs.Common.{◌↔◌, inr, ⊎_elim, ℕ, suc, List, arith}
use Rattle.order_graph.specs.Digraphs.{Digraph, IsEdge}
use Rattle.order_paths.proofs.Reach.{Reaches-edge, Reaches-mono, IsPath-mono}
use Rattle.tso_ops.specs.Values.{TraceValue}
use Rattle.tso_cert.specs.declared.rules.BaseRule.{BaseRule}
use Rattle.tso_cert.specs.declared.steps.Reason.{Reason}
use Rattle.tso_cert.specs.declared.steps.Reason.TheVariants.{Base, Inferred}
use Rattle.tso_model.specs.Ranks.{RankSet, HasRank}
use Rattle.tso_model.specs.NewEdges.{IsNew}
use Rattle.tso_model.specs.Certs.{IsJustified}
use Rattle.tso_model.proofs.NewEdgeFacts.{new_same}
use Rattle.bitsets.specs.Rows.{IsListOf}
use Rattle.tso_rules.specs.Rows.{IsJustifiedOver}
use Rattle.bitsets.proofs.ListFacts.{list_as}

-- the graph has the edges of a rank set
abbrev pub HasRankSet : TraceValue → ℕ → Digraph → Type 0
HasRankSet t k g = (x y : ℕ) → IsEdge g x y ↔ RankSet t k x y

pub next_row : (t : TraceValue) (k u : ℕ) (g : Digraph) (row : List ℕ) → HasRankSet t k g → IsListOf row (IsNew t (IsEdge g) u) → IsListOf row (λ v. RankSet t (suc k) u v × (RankSet t k u v → ⊥))
next_row t k u g row same is =
    list_as row (IsNew t (IsEdge g) u) (λ v. RankSet t (suc k) u v × (RankSet t k u v → ⊥)) is
    (λ v new. (
      inr (new_same t (IsEdge g) (λ x y. RankSet t k x y) (λ x y. (same x y).0) (λ x y. (same x y).1) u v new),
      λ edge. new.1 (Reaches-edge (IsEdge g) u v ((same u v).1 edge)),
    ))
    (λ v later. ⊎_elim
    (λ edge. absurd (later.1 edge))
    (λ more. new_same t (λ x y. RankSet t k x y) (IsEdge g) (λ x y. (same x y).1) (λ x y. (same x y).0) u v more)
    later.0)

-- a justification of a base edge
pub base_justified : (t : TraceValue) (u v : ℕ) (g : Digraph) (reason : Reason) → RankSet t 0 u v → IsJustifiedOver t (IsEdge g) u v reason → IsJustified t 0 u v reason
base_justified t u v g (Base rule) edge is = is
base_justified t u v g (Inferred rule load path) edge is = absurd (is.0 edge.0 edge.1)

rank_no_base : (t : TraceValue) (k u v : ℕ) (rule : BaseRule) → HasRank t u v (suc k) → RankSet t 0 u v → ⊥
rank_no_base t k u v rule rank edge = rank.1 0 (omega arith) edge

-- a justification of an edge of a rank above
pub next_justified : (t : TraceValue) (k u v : ℕ) (g : Digraph) (reason : Reason) → HasRankSet t k g → HasRank t u v (suc k) → IsJustifiedOver t (IsEdge g) u v reason → IsJustified t (suc k) u v reason
next_justified t k u v g (Base rule) same rank is = absurd (rank_no_base t k u v rule rank (rule, is.0))
next_justified t k u v g (Inferred rule load path) same rank is =
    let ends = is.1 in (
      (
        ends.0,
        ends.1,
        ends.2,
        (
          IsPath-mono (IsEdge g) (RankSet t k) (λ x y. (same x y).0) ends.0 ends.1 path ends.3.0,
          λ other p. ends.3.1 other (IsPath-mono (RankSet t k) (IsEdge g) (λ x y. (same x y).1) ends.0 ends.1 other p),
        ),
      ),
      λ other l x y by reaches. is.2 other l x y by (Reaches-mono (RankSet t k) (IsEdge g) (λ a b. (same a b).1) x y reaches),
    )
