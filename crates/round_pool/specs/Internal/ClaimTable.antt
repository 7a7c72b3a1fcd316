-- The table on which rows are claimed, which speaks of their places, from 0: its rule, and what each kind of step tells.
use Rattle.std.specs.Prelude.{◌≡◌, ℕ, suc, ◌+◌, ◌-◌, ◌<◌, ◌≤◌, ◌==◌, cond, List, [], ◌∷◌, ◌++◌, length, sum_by, slice_index}
use mathlib.Core.Option.{some}
use lib.ListN.{get_elem?}
use Rattle.atomic_table.specs.Table.{State, Me, Step}
use Rattle.round_pool.specs.declared.claims.seat_view.SeatView.{SeatView}
use Rattle.round_pool.specs.ClaimCounts.{times_listed, all_parts}

-- how often the place stands in the views
abbrev pub standing : ℕ → List SeatView → ℕ
standing p views = sum_by (λ v. times_listed p v.places) views

abbrev pub seat_view : List ℕ → ℕ → ℕ → SeatView
seat_view places tried parts = record { places = places; tried = tried; parts = parts }

-- the view of the first seat
abbrev pub first_view : SeatView
first_view = seat_view [] 0 all_parts

-- The rule of a table for so many places: word 0 is 0, and the word after place p is 1 exactly where p stands in a view, in which it stands once.
pub record KeepsClaims (places : ℕ) (s : State (Unit {0}) SeatView) : Type 0 where
  pub words : length s.words ≡ suc places
  pub unused : slice_index s.words 0 ≡ 0
  pub marked : (p : ℕ) → p < places → slice_index s.words (suc p) ≡ standing p s.views
  pub within : (p : ℕ) → places ≤ p → standing p s.views ≡ 0
  pub once : (p : ℕ) → standing p s.views ≤ 1
  pub tried : (seat : ℕ) (v : SeatView) → get_elem? s.views seat ≡ some v → (p : ℕ) → p < v.tried → standing p s.views ≡ 1
  -- the seats have all parts together, and a seat without a part has no place
  pub total : sum_by (λ v. v.parts) s.views ≡ all_parts
  pub idle : (seat : ℕ) (v : SeatView) → get_elem? s.views seat ≡ some v → v.parts ≡ 0 → v.places ≡ []

-- no place stands twice in the view; and with all parts it has each place that was tried
abbrev pub IsKnown : SeatView → Type 0
IsKnown v = ((p : ℕ) → times_listed p v.places ≤ 1) × (v.parts ≡ all_parts → (p : ℕ) → p < v.tried → times_listed p v.places ≡ 1)

-- the view after the next place was tried, whose word was this one
abbrev pub after_try : SeatView → ℕ → SeatView
after_try v found = seat_view (cond (found == 0) (v.places ++ v.tried ∷ []) v.places) (v.tried + 1) v.parts

-- trying a place
abbrev pub tries : Step (Unit {0}) → Me (Unit {0}) SeatView → ℕ → Me (Unit {0}) SeatView → Type 0
tries step before found after = (after.0 ≡ after_try before.0 found) × (after.1 ≡ before.1) × IsKnown after.0

-- looking at a word, after two seats were joined
abbrev pub looks : Step (Unit {0}) → Me (Unit {0}) SeatView → ℕ → Me (Unit {0}) SeatView → Type 0
looks step before found after = (after ≡ before) × IsKnown after.0

-- splitting a seat: what the seat keeps, and what the new one has
abbrev pub kept_view : SeatView → SeatView
kept_view v = seat_view v.places v.tried (v.parts - 1)

abbrev pub new_view : SeatView
new_view = seat_view [] 0 1

-- joining two seats: what the one has then, and what the other is left with
abbrev pub joined_view : SeatView → SeatView → SeatView
joined_view v w = seat_view (v.places ++ w.places) v.tried (v.parts + w.parts)

abbrev pub spent_view : SeatView
spent_view = seat_view [] 0 0
