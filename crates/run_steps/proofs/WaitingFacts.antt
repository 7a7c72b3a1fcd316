-- Lemmas on the newest of the stores that wait.
use Rattle.std.proofs.Common.{◌≡◌, ◌<◌, ◌+◌, ◌∙◌, refl, sym, ap, ℕ, zero, suc, Bool, true, false, cond, Option, None, Some, List, [], ◌∷◌, length, drop, take, get_or, is_some}
use Rattle.std.specs.Option.{option_or}
use Rattle.std.proofs.lemmas.List.{drop_more, get_or_default}
use Rattle.run_steps.specs.declared.places.Place.{Place}
use Rattle.run_steps.specs.declared.processors.WaitingStore.{WaitingStore}
use Rattle.run_steps.specs.Places.{covers, overlaps}
use Rattle.run_steps.specs.declared.refusals.CellContent.{CellContent}
use Rattle.run_steps.specs.Reads.{Memory, newest_over, newest_sharing, seen_before, sees}

module _ (test : WaitingStore → Bool) where
  -- the newest of the stores of which the test is true, or else the given one
  abbrev pub newest_by : List WaitingStore → Option WaitingStore → Option WaitingStore
  newest_by [] other = other
  newest_by (w ∷ waiting) other = newest_by waiting (cond (test w) (Some w) other)

  or_else : (newest : Option WaitingStore) (w : WaitingStore) (other : Option WaitingStore) (b : Bool) →
      option_or newest (cond b (Some w) other) ≡ option_or (option_or newest (cond b (Some w) None)) other
  or_else None w other true = refl
  or_else None w other false = refl
  or_else (Some v) w other b = refl

  -- the given one counts where there is no other
  pub newest-or : (waiting : List WaitingStore) (other : Option WaitingStore) → newest_by waiting other ≡ option_or (newest_by waiting None) other
  newest-or [] other = refl
  newest-or (w ∷ waiting) other =
      newest-or waiting (cond (test w) (Some w) other) ∙ or_else (newest_by waiting None) w other (test w)
      ∙ ap (λ o. option_or o other) (sym (newest-or waiting (cond (test w) (Some w) None)))

  -- the newest from a number on
  pub newest-from : (waiting : List WaitingStore) (k : ℕ) (w : WaitingStore) → k < length waiting → w ≡ get_or waiting k w →
      newest_by (drop k waiting) None ≡ option_or (newest_by (drop (k + 1) waiting) None) (cond (test w) (Some w) None)
  newest-from waiting k w within is =
      ap (λ ws. newest_by ws None) (drop_more waiting k w within)
      ∙ ap (λ x. newest_by (x ∷ drop (k + 1) waiting) None) (sym is)
      ∙ newest-or (drop (k + 1) waiting) (cond (test w) (Some w) None)

  -- one that is the newest from a number on is the newest of all
  pub newest-all : (waiting : List WaitingStore) (k : ℕ) (v : WaitingStore) → newest_by (drop k waiting) None ≡ Some v → newest_by waiting None ≡ Some v
  newest-all waiting zero v is = is
  newest-all [] (suc k) v is = is
  newest-all (w ∷ waiting) (suc k) v is =
      newest-or waiting (cond (test w) (Some w) None) ∙ ap (λ o. option_or o (cond (test w) (Some w) None)) (newest-all waiting k v is)

  -- where there is none from a number on, it is the newest of those before
  pub newest-older : (waiting : List WaitingStore) (k : ℕ) → newest_by (drop k waiting) None ≡ None → newest_by waiting None ≡ newest_by (take k waiting) None
  newest-older waiting zero none = none
  newest-older [] (suc k) none = refl
  newest-older (w ∷ waiting) (suc k) none =
      newest-or waiting (cond (test w) (Some w) None) ∙ ap (λ o. option_or o (cond (test w) (Some w) None)) (newest-older waiting k none)
      ∙ sym (newest-or (take k waiting) (cond (test w) (Some w) None))

  -- where there is one from a number on, it is the newest of all
  pub newest-some : (waiting : List WaitingStore) (k : ℕ) (found : Option WaitingStore) → found ≡ newest_by (drop k waiting) None → is_some found ≡ true →
      found ≡ newest_by waiting None
  newest-some waiting k None is some = absurd cc
  newest-some waiting k (Some v) is some = sym (newest-all waiting k v (sym is))

-- the newest that has a cell
pub over-by : (waiting : List WaitingStore) (cell : ℕ) (other : Option WaitingStore) → newest_over waiting cell other ≡ newest_by (λ w. covers w.place cell) waiting other
over-by [] cell other = refl
over-by (w ∷ waiting) cell other = over-by waiting cell (cond (covers w.place cell) (Some w) other)

-- the newest that shares a cell with a place
pub sharing-by : (waiting : List WaitingStore) (place : Place) (other : Option WaitingStore) → newest_sharing waiting place other ≡ newest_by (λ w. overlaps w.place place) waiting other
sharing-by [] place other = refl
sharing-by (w ∷ waiting) place other = sharing-by waiting place (cond (overlaps w.place place) (Some w) other)

-- what is seen at a cell of which the newest store was found
pub seen_at : (memory : Memory) (waiting : List WaitingStore) (cell : ℕ) (found : List (Option WaitingStore)) (i : ℕ) (other : Option WaitingStore) (seen : Option CellContent) → i < length found →
    get_or found i None ≡ newest_over waiting cell None → seen ≡ seen_before memory cell (get_or found i other) → seen ≡ sees memory waiting cell
seen_at memory waiting cell found i other seen within is at = at ∙ ap (seen_before memory cell) (get_or_default found i other None within ∙ is)
