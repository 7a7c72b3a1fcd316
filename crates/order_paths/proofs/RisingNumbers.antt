-- A number that rises on each edge rises along each path, so no cycle has such a number.
use Rattle.std.proofs.Common.{ℕ, ◌<◌, List, [], ◌∷◌, arith}
use Rattle.order_paths.specs.Paths.{IsCycle, Reaches}
use Rattle.order_paths.proofs.Reach.{Reaches-into, IsCycle-Reaches}

-- the measure rises on each edge
pub record Rises (Edge : ℕ → ℕ → Type 0) (measure : ℕ → ℕ) : Type 0 where
  pub on_edge : (u v : ℕ) → Edge u v → measure u < measure v

-- the measure of a path's end is above that of its start
pub rises_on_path : (Edge : ℕ → ℕ → Type 0) (measure : ℕ → ℕ) → Rises Edge measure → (u v : ℕ) → Reaches Edge u v → measure u < measure v
rises_on_path Edge measure rises u v path =
    Reaches-into Edge (λ x y. measure x < measure y) (λ x y z first second. omega arith) rises.on_edge u v path

-- edges on which a measure rises have no cycle
pub rises_without_cycle : (Edge : ℕ → ℕ → Type 0) (measure : ℕ → ℕ) → Rises Edge measure → (cycle : List ℕ) → IsCycle Edge cycle → ⊥
rises_without_cycle Edge measure rises [] cycle = cycle
rises_without_cycle Edge measure rises (x ∷ rest) cycle =
    let above : measure x < measure x = rises_on_path Edge measure rises x x (IsCycle-Reaches Edge x rest cycle) in
    omega arith
