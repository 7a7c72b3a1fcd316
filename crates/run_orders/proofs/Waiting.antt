-- The entries that waiting stores are in a buffer, where operations at some locations are left out, and what is read of them.
use Rattle.std.proofs.Common.{◌≡◌, ◌∙◌, sym, ap, refl, ℕ, suc, ◌-◌, ◌&&◌, inl, inr, Bool, true, false, not, cond, nat_eq, nat_le, nat_lt, Option, None, Some, option_map, List, [], ◌∷◌, ◌++◌, length, get_or, append_assoc, arith}
use Rattle.std.specs.List.{AllByRecursion, list_any}
use Rattle.std.proofs.lemmas.Bool.{cases_eq, eq-eqb, ne_eqb}
use Rattle.std.proofs.lemmas.Bool.Decides.{nat_tests}
use Rattle.run_steps.specs.declared.cells.Cell.{Cell}
use Rattle.run_steps.specs.declared.cells.Cell.TheVariants.{First, Stored, Unknown}
use Rattle.run_steps.specs.declared.places.Place.{Place}
use Rattle.run_steps.specs.declared.processors.WaitingStore.{WaitingStore}
use Rattle.run_steps.specs.declared.refusals.CellContent.{CellContent}
use Rattle.run_steps.specs.Places.{cell_parts, covers}
use Rattle.run_steps.specs.Widths.{cells_of}
use Rattle.run_steps.specs.Reads.{Memory, joined_cells, newest_over, read_in, seen_before, seen_in, sees}
use Rattle.unit_core.specs.Machine.{Entry, newest, oldest_of}
use Rattle.run_orders.specs.RunLogs.{IsLocation}

-- nothing unknown was done to the location
abbrev pub is_known : List ℕ → ℕ → Bool
is_known unknown a = not (list_any (nat_eq a) unknown)

-- the entry, where its location is known
abbrev pub kept : Bool → Entry → List Entry
kept true e = e ∷ []
kept false e = []

-- the entry that a store is; as many STBARs were before it as its tag says
abbrev pub entry_by : (ℕ → ℕ) → WaitingStore → Entry
entry_by stbars w = record { a = w.place.address; v = w.value; stbars = stbars w.stbar }

-- those of stores that wait
abbrev pub entries : (ℕ → ℕ) → List ℕ → List WaitingStore → List Entry
entries stbars unknown [] = []
entries stbars unknown (w ∷ waits) = kept (is_known unknown w.place.address) (entry_by stbars w) ++ entries stbars unknown waits

pub entries-append : (stbars : ℕ → ℕ) (unknown : List ℕ) (xs ys : List WaitingStore) →
    entries stbars unknown (xs ++ ys) ≡ entries stbars unknown xs ++ entries stbars unknown ys
entries-append stbars unknown [] ys = refl
entries-append stbars unknown (x ∷ xs) ys =
    ap (λ es. kept (is_known unknown x.place.address) (entry_by stbars x) ++ es) (entries-append stbars unknown xs ys)
    ∙ sym (append_assoc (kept (is_known unknown x.place.address) (entry_by stbars x)) (entries stbars unknown xs) (entries stbars unknown ys))

-- another count that agrees at the stores' tags gives the same entries
pub entries-same : (f g : ℕ → ℕ) (unknown : List ℕ) (waits : List WaitingStore) → AllByRecursion (λ w. f w.stbar ≡ g w.stbar) waits →
    entries f unknown waits ≡ entries g unknown waits
entries-same f g unknown [] all = refl
entries-same f g unknown (w ∷ waits) all =
    ap (λ n. kept (is_known unknown w.place.address) (record { a = w.place.address; v = w.value; stbars = n }) ++ entries f unknown waits) all.0
    ∙ ap (λ es. kept (is_known unknown w.place.address) (entry_by g w) ++ es) (entries-same f g unknown waits all.1)

-- ---- one cell

-- a location is one cell
covers_same : (a width cell : ℕ) → width ≡ 0 → a ≡ cell → (nat_le a cell && nat_lt (cell - a) (cells_of width)) ≡ true
covers_same a width cell none same =
    let one : cells_of width ≡ 1 = ap cells_of none in
    grind (arith, nat_tests)

covers_other : (a width cell : ℕ) → width ≡ 0 → (a ≡ cell → ⊥) → (nat_le a cell && nat_lt (cell - a) (cells_of width)) ≡ false
covers_other a width cell none other =
    let one : cells_of width ≡ 1 = ap cells_of none in
    grind (arith, nat_tests)

-- what a cell of a location holds of a value is the value
pub parts_whole : (place : Place) (v : ℕ) → IsLocation place → cell_parts place v ≡ v ∷ []
parts_whole place v location = rw location refl

-- ---- what is read

-- the value of what is seen, if it is known
abbrev pub value_seen : Option CellContent → Option ℕ
value_seen seen = option_map (λ (c : CellContent). c.value) seen

-- the cell holds this value
abbrev pub HasWord : Cell → ℕ → Type 0
HasWord (First v) w = v ≡ w
HasWord (Stored v store reached) w = v ≡ w
HasWord Unknown w = ⊥

module _ (stbars : ℕ → ℕ) (unknown : List ℕ) (memory : Memory) (a : ℕ) (known : is_known unknown a ≡ true) where
  newest_next : (w : WaitingStore) (b : Bool) (buffer : List Entry) (m : ℕ) → (w.place.address ≡ a → ⊥) → newest (kept b (entry_by stbars w) ++ buffer) a m ≡ newest buffer a m
  newest_next w false buffer m other = refl
  newest_next w true buffer m other = ap (λ b. newest buffer a (cond b w.value m)) (ne_eqb w.place.address a other)

  newest_here : (w : WaitingStore) (buffer : List Entry) (m : ℕ) → w.place.address ≡ a → newest (kept (is_known unknown w.place.address) (entry_by stbars w) ++ buffer) a m ≡ newest buffer a w.value
  newest_here w buffer m same =
      ap (λ b. newest (kept b (entry_by stbars w) ++ buffer) a m) (ap (is_known unknown) same ∙ known)
      ∙ ap (λ b. newest buffer a (cond b w.value m)) (eq-eqb w.place.address a same)

  own_value : (w : WaitingStore) → IsLocation w.place → w.place.address ≡ a → value_seen (seen_before memory a (Some w)) ≡ Some w.value
  own_value w location same =
      let none : a - w.place.address ≡ 0 = omega (arith, same) in
      ap (λ n. Some (get_or (cell_parts w.place w.value) n 0)) none ∙ ap (λ parts. Some (get_or parts 0 0)) (parts_whole w.place w.value location)

  newest_seen : (waits : List WaitingStore) (other : Option WaitingStore) (m : ℕ) → AllByRecursion (λ w. IsLocation w.place) waits →
      value_seen (seen_before memory a other) ≡ Some m → value_seen (seen_before memory a (newest_over waits a other)) ≡ Some (newest (entries stbars unknown waits) a m)
  newest_seen [] other m locations is = is
  newest_seen (w ∷ waits) other m locations is =
      let rest = entries stbars unknown waits in
      elim (cases_eq w.place.address a) [
        | inl same ↦
            let test : covers w.place a ≡ true = covers_same w.place.address w.place.width a locations.0 same in
            ap (λ b. value_seen (seen_before memory a (newest_over waits a (cond b (Some w) other)))) test
            ∙ newest_seen waits (Some w) w.value locations.1 (own_value w locations.0 same) ∙ ap Some (sym (newest_here w rest m same))
        | inr differs ↦
            let test : covers w.place a ≡ false = covers_other w.place.address w.place.width a locations.0 differs in
            ap (λ b. value_seen (seen_before memory a (newest_over waits a (cond b (Some w) other)))) test
            ∙ newest_seen waits other m locations.1 is ∙ ap Some (sym (newest_next w (is_known unknown w.place.address) rest m differs))
      ]

  of_word : (cell : Cell) (m : ℕ) → HasWord cell m → value_seen (seen_in cell) ≡ Some m
  of_word (First v) m word = ap Some word
  of_word (Stored v store reached) m word = ap Some word
  of_word Unknown m word = absurd word

  -- the value that is seen in a cell is that of the newest entry, or else memory's
  pub value_of_cell : (waits : List WaitingStore) (m : ℕ) → AllByRecursion (λ w. IsLocation w.place) waits → HasWord (memory a) m →
      value_seen (sees memory waits a) ≡ Some (newest (entries stbars unknown waits) a m)
  value_of_cell waits m locations word = newest_seen waits None m locations (of_word (memory a) m word)

-- what is read at a location is what is seen in its cell
pub read_location : (place : Place) (look : ℕ → Option CellContent) (v : ℕ) → IsLocation place → value_seen (look place.address) ≡ Some v → read_in place look ≡ Some v
read_location place look v location seen = rw location (one_read (look place.address) seen)
  where
    one_read : (o : Option CellContent) → value_seen o ≡ Some v → joined_cells 0 o (Some 0) ≡ Some v
    one_read None none = absurd cc
    one_read (Some c) is = let same : c.value ≡ v = cc in ap Some (omega (arith, same))

-- ---- which entry is the oldest of a location

pub oldest_at : (stbars : ℕ → ℕ) (unknown : List ℕ) (older : List WaitingStore) (e : Entry) (newer : List Entry) →
    AllByRecursion (λ x. x.place.address ≡ e.a → ⊥) older →
    oldest_of (entries stbars unknown older ++ e ∷ newer) e.a ≡ length (entries stbars unknown older)
oldest_at stbars unknown [] e newer none = ap (λ b. cond b 0 (suc (oldest_of newer e.a))) (eq-eqb e.a e.a refl)
oldest_at stbars unknown (x ∷ older) e newer none =
    oldest_next (is_known unknown x.place.address) x none.0 (entries stbars unknown older) (oldest_at stbars unknown older e newer none.1)
  where
    oldest_next : (b : Bool) (x : WaitingStore) → (x.place.address ≡ e.a → ⊥) → (rest : List Entry) → oldest_of (rest ++ e ∷ newer) e.a ≡ length rest →
        oldest_of ((kept b (entry_by stbars x) ++ rest) ++ e ∷ newer) e.a ≡ length (kept b (entry_by stbars x) ++ rest)
    oldest_next false x other rest is = is
    oldest_next true x other rest is = ap (λ b. cond b 0 (suc (oldest_of (rest ++ e ∷ newer) e.a))) (ne_eqb x.place.address e.a other) ∙ ap suc is
