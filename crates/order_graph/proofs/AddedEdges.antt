-- Paths when an edge is added.
use Rattle.std.proofs.Common.{◌≡◌, ◌⊎◌, inl, inr, ℕ, refl, sym, subst}
use Rattle.order_paths.specs.Paths.{Reaches}
use Rattle.order_paths.proofs.Reach.{Reaches-edge, Reaches-join, Reaches-mono, Reaches-flat, Reaches-into}

-- the edges and one from u to v
abbrev pub WithEdge : (ℕ → ℕ → Type 0) → ℕ → ℕ → ℕ → ℕ → Type 0
WithEdge Edge u v x y = Edge x y ⊎ ((x ≡ u) × (y ≡ v))

-- there is a path from x to y, or x is or reaches u, and v is or reaches y
abbrev pub ReachesThrough : (ℕ → ℕ → Type 0) → ℕ → ℕ → ℕ → ℕ → Type 0
ReachesThrough Edge u v x y = Reaches Edge x y ⊎ (((x ≡ u) ⊎ Reaches Edge x u) × ((y ≡ v) ⊎ Reaches Edge v y))

-- a path to u, and u or a number that it reaches
to_source : (Edge : ℕ → ℕ → Type 0) (x y u : ℕ) → Reaches Edge x y → (y ≡ u) ⊎ Reaches Edge y u → Reaches Edge x u
to_source Edge x y u p (inl e) = subst (λ n. Reaches Edge x n) e p
to_source Edge x y u p (inr q) = Reaches-join Edge x y u p q

from_target : (Edge : ℕ → ℕ → Type 0) (v y z : ℕ) → (y ≡ v) ⊎ Reaches Edge v y → Reaches Edge y z → Reaches Edge v z
from_target Edge v y z (inl e) q = subst (λ n. Reaches Edge n z) e q
from_target Edge v y z (inr p) q = Reaches-join Edge v y z p q

through_join : (Edge : ℕ → ℕ → Type 0) (u v x y z : ℕ) → ReachesThrough Edge u v x y → ReachesThrough Edge u v y z → ReachesThrough Edge u v x z
through_join Edge u v x y z (inl p) (inl q) = inl (Reaches-join Edge x y z p q)
through_join Edge u v x y z (inl p) (inr q) = inr (inr (to_source Edge x y u p q.0), q.1)
through_join Edge u v x y z (inr p) (inl q) = inr (p.0, inr (from_target Edge v y z p.1 q))
through_join Edge u v x y z (inr p) (inr q) = inr (p.0, q.1)

-- With an edge from u to v, a path goes without it, or from x to u or u itself, and on from v or v itself.
pub reach_split : (Edge : ℕ → ℕ → Type 0) (u v x y : ℕ) → Reaches (WithEdge Edge u v) x y → ReachesThrough Edge u v x y
reach_split Edge u v x y p =
    Reaches-into (WithEdge Edge u v) (ReachesThrough Edge u v) (through_join Edge u v)
    (λ a b e. elim e [ inl old ↦ inl (Reaches-edge Edge a b old) | inr new ↦ inr (inl new.0, inl new.1) ]) x y p

-- And each such path is one.
pub reach_through : (Edge : ℕ → ℕ → Type 0) (u v x y : ℕ) → ReachesThrough Edge u v x y → Reaches (WithEdge Edge u v) x y
reach_through Edge u v x y (inl p) = Reaches-mono Edge (WithEdge Edge u v) (λ a b e. inl e) x y p
reach_through Edge u v x y (inr p) = before p.0 (after p.1)
  where
    after : (y ≡ v) ⊎ Reaches Edge v y → Reaches (WithEdge Edge u v) u y
    after (inl e) = Reaches-edge (WithEdge Edge u v) u y (inr (refl, e))
    after (inr q) = Reaches-join (WithEdge Edge u v) u v y (Reaches-edge (WithEdge Edge u v) u v (inr (refl, refl))) (Reaches-mono Edge (WithEdge Edge u v) (λ a b e. inl e) v y q)

    before : (x ≡ u) ⊎ Reaches Edge x u → Reaches (WithEdge Edge u v) u y → Reaches (WithEdge Edge u v) x y
    before (inl e) q = subst (λ n. Reaches (WithEdge Edge u v) n y) (sym e) q
    before (inr p) q = Reaches-join (WithEdge Edge u v) x u y (Reaches-mono Edge (WithEdge Edge u v) (λ a b e. inl e) x u p) q

-- An edge from u to v makes no new path where there is one from u to v.
pub reach_same : (Edge : ℕ → ℕ → Type 0) (u v x y : ℕ) → Reaches Edge u v → Reaches (WithEdge Edge u v) x y → Reaches Edge x y
reach_same Edge u v x y old p =
    Reaches-flat (WithEdge Edge u v) Edge
    (λ a b e. elim e [ inl e' ↦ Reaches-edge Edge a b e' | inr new ↦ subst (λ n. Reaches Edge n b) (sym new.0) (subst (λ n. Reaches Edge u n) (sym new.1) old) ]) x y p
