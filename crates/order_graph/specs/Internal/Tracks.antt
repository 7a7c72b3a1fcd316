-- Walks over the edges of a table: what a search finds level by level.
use Rattle.std.specs.Prelude.{◌≡◌, ℕ, zero, suc, ◌/◌, ◌<◌, ◌≤◌, List, [], ◌∷◌, ◌++◌, length}
use Rattle.order_paths.specs.Paths.{Linked, IsCycle, IsNoGreater}
use Rattle.bitsets.specs.Tables.{IsSet}
use Rattle.order_graph.specs.Internal.Tables.{Joined}

-- edges lead from x over the numbers listed to v
abbrev pub Track : (ℕ → ℕ → Type 0) → ℕ → List ℕ → ℕ → Type 0
Track Edge x rest v = Linked Edge (x ∷ (rest ++ v ∷ []))

-- a walk of this many edges leads from x to v
abbrev pub Walks : (ℕ → ℕ → Type 0) → ℕ → ℕ → ℕ → Type 0
Walks Edge zero x v = x ≡ v
Walks Edge (suc count) x v = (y : ℕ) × Edge x y × Walks Edge count y v

-- The list is u and the numbers on the way to v, and no way from u to v has fewer or lesser ones.
abbrev pub IsLeastTrack : (ℕ → ℕ → Type 0) → ℕ → ℕ → List ℕ → Type 0
IsLeastTrack Edge u v [] = ⊥
IsLeastTrack Edge u v (x ∷ rest) = (x ≡ u) × Track Edge u rest v × ((other : List ℕ) → Track Edge u other v → IsNoGreater rest other)

-- Row `count` has the numbers from which a walk of this many edges leads to v: of those that u reaches, all.
pub record IsLevel (edges paths levels : List ℕ) (width nodes u v count : ℕ) : Type 0 where
  pub sound : (y : ℕ) → y / 64 < width → IsSet levels width count y → (y < nodes) × Walks (Joined edges width nodes) count y v
  pub complete : (y : ℕ) → y < nodes → IsSet paths width u y → Walks (Joined edges width nodes) count y v → IsSet levels width count y

-- x is above this level: u reaches it, it reaches v, and an edge leads from it to the level
pub record IsAboveLevel (edges paths transposed levels : List ℕ) (width u v count x : ℕ) : Type 0 where
  pub reached : IsSet paths width u x
  pub reaching : IsSet transposed width v x
  pub edge : (y : ℕ) × (y / 64 < width) × IsSet edges width x y × IsSet levels width count y

-- all ways from u to v have at least this many numbers on them
abbrev pub NoShorter : List ℕ → ℕ → ℕ → ℕ → ℕ → ℕ → Type 0
NoShorter edges width nodes u v count = (rest : List ℕ) → Track (Joined edges width nodes) u rest v → count ≤ length rest

-- no cycle begins with a number below the start
abbrev pub NoCycleBefore : (ℕ → ℕ → Type 0) → ℕ → Type 0
NoCycleBefore Edge start = (x : ℕ) (rest : List ℕ) → x < start → IsCycle Edge (x ∷ rest) → ⊥

-- of the cycles that begin with a number below the start, the list is the least
abbrev pub IsLeastCycleBefore : (ℕ → ℕ → Type 0) → ℕ → List ℕ → Type 0
IsLeastCycleBefore Edge start [] = ⊥
IsLeastCycleBefore Edge start (x ∷ rest) =
    (x < start) × IsCycle Edge (x ∷ rest) × ((y : ℕ) (other : List ℕ) → y < start → IsCycle Edge (y ∷ other) → IsNoGreater (x ∷ rest) (y ∷ other))

-- a number on a cycle that begins with the start, and no number of which is below it, is open: it reaches the start, and isn't below it
abbrev pub IsOpen : List ℕ → ℕ → ℕ → ℕ → Type 0
IsOpen transposed width start y = IsSet transposed width start y × (start ≤ y)

-- an edge between open numbers
abbrev pub OpenEdge : List ℕ → List ℕ → ℕ → ℕ → ℕ → ℕ → ℕ → Type 0
OpenEdge edges transposed width nodes start x y = Joined edges width nodes x y × IsOpen transposed width start x × IsOpen transposed width start y

-- all ways from the start over open numbers back to it have at least this many numbers between
abbrev pub NoShorterOpen : List ℕ → List ℕ → ℕ → ℕ → ℕ → ℕ → Type 0
NoShorterOpen edges transposed width nodes start limit = (rest : List ℕ) → Track (OpenEdge edges transposed width nodes start) start rest start → limit ≤ length rest

-- an edge leads to y from a number that y reaches and that isn't below it
abbrev pub IsClosedNumber : List ℕ → List ℕ → ℕ → ℕ → ℕ → Type 0
IsClosedNumber edges transposed width nodes y = (x : ℕ) × (x < nodes) × IsSet edges width x y × IsSet transposed width x y × (y ≤ x)

-- an edge leads to y from a number of this level whose bit is in a word from `first` on
abbrev pub IsNext : List ℕ → List ℕ → ℕ → ℕ → ℕ → ℕ → Type 0
IsNext edges levels width count first y = (x : ℕ) × (first ≤ x / 64) × (x / 64 < width) × IsSet levels width count x × IsSet edges width x y

-- y is reached, leads to the start, and wasn't seen
abbrev pub IsUnseen : List ℕ → List ℕ → List ℕ → ℕ → ℕ → ℕ → Type 0
IsUnseen reached transposed seen width start y = IsSet reached width 0 y × IsSet transposed width start y × (IsSet seen width 0 y → ⊥)
