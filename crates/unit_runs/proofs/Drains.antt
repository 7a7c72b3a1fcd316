-- The same stores may drain from buffers that have the same stores.
use Rattle.std.proofs.Common.{◌≡◌, ◌∙◌, inl, inr, sym, ap, refl, subst, ℕ, zero, suc, ◌+◌, ◌-◌, ◌<◌, ◌≤◌, ◌==◌, ◌&&◌, ◌||◌, not, Bool, true, false, cond, nat_le, nat_lt, None, Some, List, [], ◌∷◌, length, slice_get, take, unwrap_or, arith}
use Rattle.std.specs.List.{AllByRecursion, position_or_len}
use Rattle.std.proofs.lemmas.Bool.{cases_eq, eq-eqb, ne_eqb}
use Rattle.std.proofs.lemmas.Bool.Decides.{nat_tests}
use Rattle.std.proofs.lemmas.Option.{none-some, slice_get_within}
use Rattle.tso_ops.specs.declared.settings.Order.{Order}
use Rattle.tso_ops.specs.declared.settings.Order.TheVariants.{Pso}
use Rattle.unit_core.specs.Machine.{Entry, Waits, WaitsFirst, oldest_of}
use Rattle.run_steps.specs.declared.places.Place.{Place}
use Rattle.run_steps.specs.declared.processors.WaitingStore.{WaitingStore}
use Rattle.run_steps.specs.Machine.{drained_number, keeps_back}
use Rattle.run_steps.specs.Places.{is_place, overlaps}
use Rattle.run_steps.specs.Steps.{MayDrain}
use Rattle.run_steps.specs.Widths.{cells_of}
use Rattle.unit_runs.specs.Lines.{IsLocationAt}
use Rattle.unit_runs.specs.States.{AreSameStores}
use Rattle.unit_runs.proofs.SameStores.{as_many, both_at, counts_rise, entry_at, same_count, same_line, store_at}

-- ---- places of one location

-- two locations are one place exactly where they have one address
pub one_place : (a b : ℕ) (x y : Place) → IsLocationAt a x → IsLocationAt b y → is_place x y ≡ (b == a)
one_place a b x y first second =
    ap (λ n. (n == y.address) && (x.width == y.width)) first.address ∙ ap (λ n. (a == n) && (x.width == y.width)) second.address
    ∙ ap (λ n. (a == b) && (n == y.width)) first.width ∙ ap (λ n. (a == b) && (0 == n)) second.width ∙ one_number a b
  where
    one_number : (a b : ℕ) → ((a == b) && (0 == 0)) ≡ (b == a)
    one_number a b = elim (cases_eq a b) [
      | inl same ↦ ap (λ t. t && true) (eq-eqb a b same) ∙ sym (eq-eqb b a (sym same))
      | inr other ↦ ap (λ t. t && true) (ne_eqb a b other) ∙ sym (ne_eqb b a (λ same. other (sym same)))
    ]

apart_one : (a b : ℕ) → (a ≡ b → ⊥) → cond (nat_le a b) (nat_lt (b - a) 1) (nat_lt (a - b) 1) ≡ false
apart_one a b other = grind (arith, nat_tests)

-- two locations of other addresses share no cell
apart : (a b : ℕ) (x y : Place) → IsLocationAt a x → IsLocationAt b y → (a ≡ b → ⊥) → overlaps x y ≡ false
apart a b x y first second other =
    ap (λ n. cond (nat_le n y.address) (nat_lt (y.address - n) (cells_of x.width)) (nat_lt (n - y.address) (cells_of y.width))) first.address
    ∙ ap (λ n. cond (nat_le a n) (nat_lt (n - a) (cells_of x.width)) (nat_lt (a - n) (cells_of y.width))) second.address
    ∙ ap (λ n. cond (nat_le a b) (nat_lt (b - a) (cells_of n)) (nat_lt (a - b) (cells_of y.width))) first.width
    ∙ ap (λ n. cond (nat_le a b) (nat_lt (b - a) 1) (nat_lt (a - b) (cells_of n))) second.width ∙ apart_one a b other

-- ---- which store is the oldest of its address

number_by : (b : Bool) (i j : ℕ) → i ≡ j → cond (not b) (1 + i) 0 ≡ cond b 0 (suc j)
number_by true i j same = refl
number_by false i j same = omega (arith, same)

-- the oldest store at the place has the number of the oldest entry of the address
pub oldest_number : (a : ℕ) (place : Place) → IsLocationAt a place → (n t : ℕ) (buffer : List Entry) (waits : List WaitingStore) (m u : ℕ) →
    AreSameStores n t buffer waits m u →
    position_or_len (λ w. is_place place w.place) waits ≡ oldest_of buffer a
oldest_number a place is n t [] [] m u same = refl
oldest_number a place is n t [] (w ∷ waits) m u same = absurd same
oldest_number a place is n t (e ∷ buffer) [] m u same = absurd same
oldest_number a place is n t (e ∷ buffer) (w ∷ waits) m u same =
    let i = position_or_len (λ (w : WaitingStore). is_place place w.place) waits in
    ap (λ b. cond (not b) (1 + i) 0) (one_place a e.a place w.place is same.1.location)
    ∙ number_by (e.a == a) i (oldest_of buffer a) (oldest_number a place is e.stbars w.stbar buffer waits m u same.2)

found_at : (b : Bool) (i k : ℕ) → cond b (Some i) None ≡ Some k → i ≡ k
found_at true i k e = ap (λ o. unwrap_or o i) e
found_at false i k e = absurd (none-some k e)

-- ---- which stores keep it back

-- an older one of another address with the same STBARs before it doesn't
passes_one : (a b : ℕ) (newer older : WaitingStore) → IsLocationAt a newer.place → IsLocationAt b older.place → (b ≡ a → ⊥) → older.stbar ≡ newer.stbar →
    keeps_back Pso newer older ≡ false
passes_one a b newer older is other_is other same =
    ap (λ b. b || not (older.stbar == newer.stbar)) (apart b a older.place newer.place other_is is other) ∙ ap not (eq-eqb older.stbar newer.stbar same)

either_false : (a b : Bool) → (a || not b) ≡ false → b ≡ true
either_false true b e = absurd cc
either_false false true e = refl
either_false false false e = absurd cc

-- one that doesn't has the same STBARs before it
passed_one : (newer older : WaitingStore) → keeps_back Pso newer older ≡ false → older.stbar ≡ newer.stbar
passed_one newer older passes =
    let test = either_false (overlaps older.place newer.place) (older.stbar == newer.stbar) passes in
    elim (cases_eq older.stbar newer.stbar) [
      | inl same ↦ same
      | inr other ↦ let no : (older.stbar == newer.stbar) ≡ false = ne_eqb older.stbar newer.stbar other in absurd cc
    ]

later_number : (b : Bool) (i k : ℕ) → cond b 0 (suc i) ≡ suc k → (b ≡ false) × (i ≡ k)
later_number true i k e = absurd (omega (arith, e))
later_number false i k e = (refl, omega (arith, e))

not_address : (x a : ℕ) → (x == a) ≡ false → x ≡ a → ⊥
not_address x a test same = let yes : (x == a) ≡ true = eq-eqb x a same in cc

-- the oldest entry of its address, where none has fewer STBARs before it: its store passes all older ones
passes_all : (n t : ℕ) (buffer : List Entry) (waits : List WaitingStore) (k m u a : ℕ) (e : Entry) (w : WaitingStore) → AreSameStores n t buffer waits m u →
    slice_get buffer k ≡ Some e → slice_get waits k ≡ Some w → oldest_of buffer a ≡ k → IsLocationAt a w.place →
    ((j : ℕ) (f : Entry) → slice_get buffer j ≡ Some f → e.stbars ≤ f.stbars) → AllByRecursion (λ older. keeps_back Pso w older ≡ false) (take k waits)
passes_all n t [] waits k m u a e w same read waiting oldest is least = absurd cc
passes_all n t (f ∷ buffer) [] k m u a e w same read waiting oldest is least = absurd same
passes_all n t (f ∷ buffer) (x ∷ waits) zero m u a e w same read waiting oldest is least = tt
passes_all n t (f ∷ buffer) (x ∷ waits) (suc k) m u a e w same read waiting oldest is least =
    let later = later_number (f.a == a) (oldest_of buffer a) k oldest in
    let after = both_at f.stbars x.stbar buffer waits k m u e w same.2 read waiting in (
      passes_one a f.a w x is same.1.location (not_address f.a a later.0) (same_count f.stbars x.stbar e.stbars w.stbar after (least 0 f refl)),
      passes_all f.stbars x.stbar buffer waits k m u a e w same.2 read waiting later.1 is (λ j g at. least (suc j) g at),
    )

-- an entry whose store passes all older ones: none has fewer STBARs before it
has_least : (n t : ℕ) (buffer : List Entry) (waits : List WaitingStore) (k j m u : ℕ) (e f : Entry) (w : WaitingStore) → AreSameStores n t buffer waits m u →
    slice_get buffer k ≡ Some e → slice_get waits k ≡ Some w → AllByRecursion (λ older. keeps_back Pso w older ≡ false) (take k waits) →
    slice_get buffer j ≡ Some f → e.stbars ≤ f.stbars
has_least n t [] waits k j m u e f w same read waiting passes at = absurd cc
has_least n t (x ∷ buffer) [] k j m u e f w same read waiting passes at = absurd same
has_least n t (x ∷ buffer) (y ∷ waits) zero zero m u e f w same read waiting passes at =
    let one : x ≡ e = cc in let two : x ≡ f = cc in let both : e.stbars ≡ f.stbars = ap (λ (z : Entry). z.stbars) (sym one ∙ two) in omega (arith, both)
has_least n t (x ∷ buffer) (y ∷ waits) zero (suc j) m u e f w same read waiting passes at =
    let one : x ≡ e = cc in
    let found = store_at x.stbars y.stbar buffer waits j m u f same.2 at in
    subst (λ (z : Entry). z.stbars ≤ f.stbars) one (counts_rise x.stbars y.stbar f.stbars found.0.stbar found.3)
has_least n t (x ∷ buffer) (y ∷ waits) (suc k) zero m u e f w same read waiting passes at =
    let one : x ≡ f = cc in
    let after = both_at x.stbars y.stbar buffer waits k m u e w same.2 read waiting in
    let counts = same_line x.stbars y.stbar e.stbars w.stbar after (passed_one w y passes.0) in
    subst (λ (z : Entry). e.stbars ≤ z.stbars) one (omega (arith, counts))
has_least n t (x ∷ buffer) (y ∷ waits) (suc k) (suc j) m u e f w same read waiting passes at =
    has_least x.stbars y.stbar buffer waits k j m u e f w same.2 read waiting passes.1 at

-- ---- drains

module _ (order : Order) (n t : ℕ) (buffer : List Entry) (waits : List WaitingStore) (m u : ℕ) (same : AreSameStores n t buffer waits m u) where
  -- a drain of the oldest of all
  pub first_number : (e : Entry) → slice_get buffer 0 ≡ Some e → drained_number None waits ≡ Some 0
  first_number e read = by waits (store_at n t buffer waits 0 m u e same read).1
    where
      by : (waits : List WaitingStore) {w : WaitingStore} → slice_get waits 0 ≡ Some w → drained_number None waits ≡ Some 0
      by [] read = absurd cc
      by (w ∷ waits) read = refl

  pub first_drains : Waits buffer 0 → MayDrain order None waits None
  first_drains there =
      let found = store_at n t buffer waits 0 m u there.0 same there.1 in
      record { number = 0; store = found.0; is = first_number there.0 there.1; waits_there = found.1; passes = tt; has = tt }

  pub first_waits : MayDrain order None waits None → Waits buffer 0
  first_waits may = by waits may.is same
    where
      by : (waits : List WaitingStore) {k : ℕ} → drained_number None waits ≡ Some k → AreSameStores n t buffer waits m u → Waits buffer 0
      by [] is others = absurd (none-some _ is)
      by (w ∷ waits) is others = let found = entry_at n t buffer (w ∷ waits) 0 m u w others refl in (found.0, found.1)

  -- a drain of the oldest at a place
  module _ (a : ℕ) (place : Place) (is : IsLocationAt a place) where
    pub place_number : (e : Entry) → slice_get buffer (oldest_of buffer a) ≡ Some e → drained_number (Some place) waits ≡ Some (oldest_of buffer a)
    place_number e read =
        let k = oldest_of buffer a in
        let below : k < length waits = (let there = slice_get_within buffer k e read in omega (arith, there, as_many n t buffer waits m u same)) in
        let test : nat_lt k (length waits) ≡ true = grind (arith, nat_tests) in
        ap (λ i. cond (nat_lt i (length waits)) (Some i) None) (oldest_number a place is n t buffer waits m u same) ∙ ap (λ b. cond b (Some k) None) test

    pub place_drains : WaitsFirst buffer (oldest_of buffer a) → (e : Entry) → slice_get buffer (oldest_of buffer a) ≡ Some e → e.a ≡ a →
        MayDrain Pso (Some place) waits None
    place_drains first e read of_a =
        let k = oldest_of buffer a in
        let found = store_at n t buffer waits k m u first.0 same first.1 in
        let one : e ≡ first.0 = cc in
        let address : first.0.a ≡ a = subst (λ (x : Entry). x.a ≡ a) one of_a in
        record {
          number = k;
          store = found.0;
          is = place_number first.0 first.1;
          waits_there = found.1;
          passes = passes_all n t buffer waits k m u a first.0 found.0 same first.1 found.1 refl
              (subst (λ x. IsLocationAt x found.0.place) address found.2.location) first.2;
          has = tt;
        }

    pub place_waits : MayDrain Pso (Some place) waits None → WaitsFirst buffer (oldest_of buffer a)
    place_waits may =
        let k = oldest_of buffer a in
        let number : k ≡ may.number = sym (oldest_number a place is n t buffer waits m u same)
        ∙ found_at (nat_lt (position_or_len (λ (w : WaitingStore). is_place place w.place) waits) (length waits)) _ may.number may.is in
        let there = subst (λ i. slice_get waits i ≡ Some may.store) (sym number) may.waits_there in
        let passes = subst (λ i. AllByRecursion (λ older. keeps_back Pso may.store older ≡ false) (take i waits)) (sym number) may.passes in
        let found = entry_at n t buffer waits k m u may.store same there in
        (found.0, found.1, λ j f at. has_least n t buffer waits k j m u found.0 f may.store same found.1 there passes at)

-- the oldest entry of an address is of the address
pub oldest_address : (buffer : List Entry) (a : ℕ) (e : Entry) → slice_get buffer (oldest_of buffer a) ≡ Some e → e.a ≡ a
oldest_address [] a e read = absurd cc
oldest_address (f ∷ buffer) a e read = elim (cases_eq f.a a) [
  | inl here ↦
      let first : slice_get (f ∷ buffer) 0 ≡ Some e =
      subst (λ b. slice_get (f ∷ buffer) (cond b 0 (suc (oldest_of buffer a))) ≡ Some e) (eq-eqb f.a a here) read in
      let one : f ≡ e = cc in
      subst (λ (x : Entry). x.a ≡ a) one here
  | inr other ↦ oldest_address buffer a e (subst (λ b. slice_get (f ∷ buffer) (cond b 0 (suc (oldest_of buffer a))) ≡ Some e) (ne_eqb f.a a other) read)
]
