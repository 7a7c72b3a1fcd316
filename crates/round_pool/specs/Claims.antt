-- Rows that workers claim: which rows they are, and what a claimant has claimed and tried.
-- A row is named by its place among the rows, from 0.
use Rattle.std.specs.Prelude.{◌≡◌, ◌≢◌, ℕ, ◌<◌, ◌≤◌, List, [], length, map, get_or, All, AllPairs}
use Rattle.round_pool.specs.declared.claims.types.Claims.{Claims}
use Rattle.round_pool.specs.declared.claims.types.Claimant.{Claimant}
use Rattle.round_pool.specs.ClaimCounts.{times_listed, all_parts}

-- the rows, in the order in which they are tried
abbrev pub rows_to_claim : Claims → List ℕ
rows_to_claim claims = claims.rows.items

-- the places that the claimant has claimed, in the order in which it did
abbrev pub places_of : Claimant → List ℕ
places_of claimant = claimant.seat.me.0.places

-- the claimant has tried the places below this one
abbrev pub tried_by : Claimant → ℕ
tried_by claimant = claimant.tried

-- the claimant's parts of the right to all rows
abbrev pub claimant_parts : Claimant → ℕ
claimant_parts claimant = claimant.seat.me.0.parts

-- the rows that the claimant has claimed, in the order in which it did
abbrev pub held : Claims → Claimant → List ℕ
held claims claimant = map (λ place. get_or (rows_to_claim claims) place 0) (places_of claimant)

-- The claimant claims these rows: it has a part, and what it tried and claimed are places of them.
pub record IsOf (claims : Claims) (claimant : Claimant) : Type 0 where
  pub table : claimant.seat.table_id ≡ claims.table.shared.table_id
  pub some : 0 < claimant_parts claimant
  pub tried : tried_by claimant ≤ length (rows_to_claim claims)
  pub places : All (λ place. place < length (rows_to_claim claims)) (places_of claimant)

-- The claimant claims these rows, and hasn't tried any yet.
pub record IsFresh (claims : Claims) (claimant : Claimant) : Type 0 where
  pub own : IsOf claims claimant
  pub tried : tried_by claimant ≡ 0
  pub places : places_of claimant ≡ []

-- no row stands twice in the list
abbrev pub NoneTwice : List ℕ → Type 0
NoneTwice rows = AllPairs (λ x y. x ≢ y) rows

-- Where the claimant has all parts and has tried all rows, it has claimed each row, just once.
abbrev pub HasAll : Claims → Claimant → Type 0
HasAll claims claimant = claimant_parts claimant ≡ all_parts → tried_by claimant ≡ length (rows_to_claim claims) →
    (place : ℕ) → place < length (rows_to_claim claims) → times_listed place (places_of claimant) ≡ 1
