-- The two machines read the same, where their buffers have the same stores and their memories the same values.
use Rattle.std.proofs.Common.{◌≡◌, ◌↔◌, ◌∙◌, inl, inr, sym, ap, refl, ℕ, ◌+◌, ◌-◌, ◌==◌, ◌&&◌, true, false, cond, nat_le, nat_lt, Option, None, Some, List, [], ◌∷◌, get_or, option_map, unwrap_or, arith}
use Rattle.std.proofs.lemmas.Bool.{cases_eq, eq-eqb, ne_eqb}
use Rattle.std.proofs.lemmas.Bool.Decides.{nat_tests}
use Rattle.unit_core.specs.Machine.{Entry, newest}
use Rattle.run_steps.specs.declared.places.Place.{Place}
use Rattle.run_steps.specs.declared.processors.WaitingStore.{WaitingStore}
use Rattle.run_steps.specs.declared.refusals.CellContent.{CellContent}
use Rattle.run_steps.specs.Places.{covers, parts_from}
use Rattle.run_steps.specs.Reads.{Memory, joined_cells, newest_over, read_from, read_in, seen_before, seen_in, seen_of, sees}
use Rattle.run_steps.specs.Steps.{IsRead}
use Rattle.run_steps.specs.Widths.{cells_of}
use Rattle.unit_runs.specs.Lines.{IsLocationAt}
use Rattle.unit_runs.specs.States.{AreSameStores, IsSameStore}

-- the value of what is seen, if something is
abbrev pub value_seen : Option CellContent → Option ℕ
value_seen o = option_map (λ (x : CellContent). x.value) o

value_alone : (o : Option CellContent) → joined_cells 0 o (Some 0) ≡ value_seen o
value_alone None = refl
value_alone (Some seen) = let same : seen.value + 0 ≡ seen.value = omega arith in ap Some same

-- a location has the value of its one cell
location_read : (a : ℕ) (place : Place) (look : ℕ → Option CellContent) → IsLocationAt a place → read_in place look ≡ value_seen (look a)
location_read a place look is =
    ap (λ n. read_from n look place.address (cells_of n)) is.width ∙ ap (λ n. read_from 0 look n 1) is.address ∙ value_alone (look a)

covers_number : (b a : ℕ) → (nat_le b a && nat_lt (a - b) 1) ≡ (b == a)
covers_number b a = grind (arith, nat_tests)

covers_one : (b a : ℕ) (place : Place) → IsLocationAt b place → covers place a ≡ (b == a)
covers_one b a place is =
    ap (λ n. nat_le n a && nat_lt (a - n) (cells_of place.width)) is.address ∙ ap (λ n. nat_le b a && nat_lt (a - b) (cells_of n)) is.width ∙ covers_number b a

-- what the store has in its cell
store_seen : (a : ℕ) (e : Entry) (w : WaitingStore) → IsSameStore e w → e.a ≡ a → value_seen (Some (seen_of w a)) ≡ Some e.v
store_seen a e w is here =
    let first : a - w.place.address ≡ 0 = (let at = is.location.address in omega (arith, at, here)) in
    ap (λ n. Some (get_or (parts_from n (cells_of n) w.value) (a - w.place.address) 0)) is.location.width
    ∙ ap (λ n. Some (get_or (w.value ∷ []) n 0)) first ∙ ap Some is.value

newest_next : (memory : Memory) (a : ℕ) (e : Entry) (w : WaitingStore) (o : Option WaitingStore) (v : ℕ) → IsSameStore e w →
    value_seen (seen_before memory a o) ≡ Some v →
    value_seen (seen_before memory a (cond (covers w.place a) (Some w) o)) ≡ Some (cond (e.a == a) e.v v)
newest_next memory a e w o v is before = elim (cases_eq e.a a) [
  | inl here ↦
      let test : (e.a == a) ≡ true = eq-eqb e.a a here in
      ap (λ b. value_seen (seen_before memory a (cond b (Some w) o))) (covers_one e.a a w.place is.location ∙ test) ∙ store_seen a e w is here
      ∙ ap (λ b. Some (cond b e.v v)) (sym test)
  | inr other ↦
      let test : (e.a == a) ≡ false = ne_eqb e.a a other in
      ap (λ b. value_seen (seen_before memory a (cond b (Some w) o))) (covers_one e.a a w.place is.location ∙ test) ∙ before
      ∙ ap (λ b. Some (cond b e.v v)) (sym test)
]

newest_seen : (memory : Memory) (a n t : ℕ) (buffer : List Entry) (waits : List WaitingStore) (m u : ℕ) (o : Option WaitingStore) (v : ℕ) →
    AreSameStores n t buffer waits m u →
    value_seen (seen_before memory a o) ≡ Some v → value_seen (seen_before memory a (newest_over waits a o)) ≡ Some (newest buffer a v)
newest_seen memory a n t [] [] m u o v same before = before
newest_seen memory a n t [] (w ∷ waits) m u o v same before = absurd same
newest_seen memory a n t (e ∷ buffer) [] m u o v same before = absurd same
newest_seen memory a n t (e ∷ buffer) (w ∷ waits) m u o v same before =
    newest_seen memory a e.stbars w.stbar buffer waits m u (cond (covers w.place a) (Some w) o) (cond (e.a == a) e.v v) same.2
    (newest_next memory a e w o v same.1 before)

-- what is read at the location of an address
pub same_read : (memory : Memory) (a : ℕ) (place : Place) (n t : ℕ) (buffer : List Entry) (waits : List WaitingStore) (m u v : ℕ) → IsLocationAt a place →
    AreSameStores n t buffer waits m u →
    value_seen (seen_in (memory a)) ≡ Some v → read_in place (sees memory waits) ≡ Some (newest buffer a v)
same_read memory a place n t buffer waits m u v is same has =
    location_read a place (sees memory waits) is
    ∙ newest_seen memory a n t buffer waits m u None v same has

-- where something is read, a load reads that and nothing else
pub read_exactly : (place : Place) (look : ℕ → Option CellContent) (has v : ℕ) → read_in place look ≡ Some has → IsRead place look v ↔ (v ≡ has)
read_exactly place look has v is = (λ read. sym (read has is), λ same other at. ap (λ o. unwrap_or o other) (sym at ∙ is) ∙ sym same)
