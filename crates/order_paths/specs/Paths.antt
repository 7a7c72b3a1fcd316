-- Paths and cycles over any edges, and which of two lists of numbers is the lesser.
use Rattle.std.specs.Prelude.{◌≡◌, ◌⊎◌, ℕ, ◌<◌, Bool, IsTrue, List, [], ◌∷◌, length}

-- each number of the list has an edge to the next
abbrev pub Linked : (ℕ → ℕ → Type 0) → List ℕ → Type 0
Linked Edge [] = Unit {0}
Linked Edge (x ∷ []) = Unit {0}
Linked Edge (x ∷ (y ∷ rest)) = Edge x y × Linked Edge (y ∷ rest)

-- the last number of x ∷ rest
abbrev pub last_of : ℕ → List ℕ → ℕ
last_of x [] = x
last_of x (y ∷ rest) = last_of y rest

-- two or more numbers, of which u is the first and v the last
abbrev pub HasEnds : List ℕ → ℕ → ℕ → Type 0
HasEnds [] u v = ⊥
HasEnds (x ∷ []) u v = ⊥
HasEnds (x ∷ (y ∷ rest)) u v = (x ≡ u) × (last_of y rest ≡ v)

abbrev pub IsPath : (ℕ → ℕ → Type 0) → ℕ → ℕ → List ℕ → Type 0
IsPath Edge u v path = HasEnds path u v × Linked Edge path

abbrev pub Reaches : (ℕ → ℕ → Type 0) → ℕ → ℕ → Type 0
Reaches Edge u v = (path : List ℕ) × IsPath Edge u v path

-- the last number has an edge to the first, which isn't repeated
abbrev pub IsCycle : (ℕ → ℕ → Type 0) → List ℕ → Type 0
IsCycle Edge [] = ⊥
IsCycle Edge (x ∷ rest) = Linked Edge (x ∷ rest) × Edge (last_of x rest) x

abbrev pub HasCycle : (ℕ → ℕ → Type 0) → Type 0
HasCycle Edge = (cycle : List ℕ) × IsCycle Edge cycle

-- of two lists of one length, the first is the second or is less at the first place where they differ
abbrev pub IsAtMost : List ℕ → List ℕ → Type 0
IsAtMost [] ys = Unit {0}
IsAtMost (x ∷ xs) [] = ⊥
IsAtMost (x ∷ xs) (y ∷ ys) = (x < y) ⊎ ((x ≡ y) × IsAtMost xs ys)

-- fewer numbers, or as many and not above in order
abbrev pub IsNoGreater : List ℕ → List ℕ → Type 0
IsNoGreater xs ys = (length xs < length ys) ⊎ ((length xs ≡ length ys) × IsAtMost xs ys)

abbrev pub IsLeastPath : (ℕ → ℕ → Type 0) → ℕ → ℕ → List ℕ → Type 0
IsLeastPath Edge u v path = IsPath Edge u v path × ((other : List ℕ) → IsPath Edge u v other → IsNoGreater path other)

abbrev pub IsLeastCycle : (ℕ → ℕ → Type 0) → List ℕ → Type 0
IsLeastCycle Edge cycle = IsCycle Edge cycle × ((other : List ℕ) → IsCycle Edge other → IsNoGreater cycle other)

-- the test answers true of the two numbers
abbrev pub Passes : (ℕ → ℕ → Bool) → ℕ → ℕ → Type 0
Passes test x y = IsTrue (test x y)

-- each pair of the one test is one of the other
abbrev pub IsTestWithin : (ℕ → ℕ → Bool) → (ℕ → ℕ → Bool) → Type 0
IsTestWithin test other = (x y : ℕ) → IsTrue (test x y) → IsTrue (other x y)

-- the pairs of the test are of numbers below n
abbrev pub AreBelow : ℕ → (ℕ → ℕ → Bool) → Type 0
AreBelow n test = (x y : ℕ) → IsTrue (test x y) → (x < n) × (y < n)
