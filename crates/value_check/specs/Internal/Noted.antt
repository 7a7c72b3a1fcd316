-- Numbers that steps noted at the places of a table.
use Rattle.std.specs.Prelude.{◌≡◌, ◌≢◌, ◌⊎◌, ℕ, ◌<◌, List, length, get_or}
use Rattle.value_check.specs.declared.noted.Noted.{Noted}
use Rattle.value_check.specs.declared.noted.Noted.TheVariants.{Nothing, One, Several}

-- what is noted at a place
abbrev pub noted_at : List Noted → ℕ → Noted
noted_at table i = get_or table i Nothing

-- the numbers noted are those with this
abbrev pub IsNotedOf : Noted → (ℕ → Type 0) → Type 0
IsNotedOf Nothing Of = (n : ℕ) → Of n → ⊥
IsNotedOf (One m) Of = Of m × ((n : ℕ) → Of n → n ≡ m)
IsNotedOf Several Of = (m : ℕ) × (n : ℕ) × Of m × Of n × (m ≢ n)

-- another number than this was noted
abbrev pub HasOther : Noted → ℕ → Type 0
HasOther Nothing n = ⊥
HasOther (One m) n = m ≢ n
HasOther Several n = Unit {0}

-- a further number was noted, which may have been there already
abbrev pub Notes : Noted → ℕ → Noted → Type 0
Notes Nothing n new = new ≡ One n
Notes (One m) n new = ((m ≡ n) × (new ≡ One m)) ⊎ ((m ≢ n) × (new ≡ Several))
Notes Several n new = new ≡ Several

-- A number was noted at a place of a table, if it has that.
pub record IsNotedAt (old new : List Noted) (place number : ℕ) : Type 0 where
  pub sized : length new ≡ length old
  pub others : (i : ℕ) → i ≢ place → noted_at new i ≡ noted_at old i
  pub noted : place < length old → Notes (noted_at old place) number (noted_at new place)

-- The table has so many places, at which nothing is noted.
pub record IsEmptyTable (count : ℕ) (table : List Noted) : Type 0 where
  pub sized : length table ≡ count
  pub empty : (i : ℕ) → noted_at table i ≡ Nothing
