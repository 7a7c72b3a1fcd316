-- How many numbers have a property, and how many loads of a log have two sources.
use Rattle.std.proofs.Common.{◌≡◌, ◌∙◌, ◌↔◌, ◌⊎◌, ⊎_elim, inl, inr, refl, sym, ap, subst, ℕ, zero, suc, ◌+◌, ◌≤◌, true, false, List, [], ◌∷◌, length, get_or, nat_eq, Some, slice_get, arith}
use Rattle.std.specs.List.{All, Contains}
use Rattle.std.proofs.lemmas.Bool.{cases_eq, false≢true}
use Rattle.std.proofs.lemmas.Bool.Decides.{nat_tests}
use Rattle.std.proofs.lemmas.List.Elements.{Contains-get_or, recursion_from_All}
use Rattle.std.proofs.lemmas.Map.Keys.{IsDistinct-cons}
use Rattle.std.proofs.lemmas.Option.{slice_get_within}
use Rattle.log_selections.specs.declared.accesses.Access.{Access}
use Rattle.log_selections.specs.declared.sources.LoadSource.{LoadSource}
use Rattle.log_selections.specs.declared.sources.LoadSource.TheVariants.{Known, Ambiguous, Unwritten}
use Rattle.log_selections.specs.Sources.{IsCountOf}
use Rattle.log_selections.specs.Internal.Known.{AreAllListed, HasTwoWriters, IsAmbiguousLoad, IsFound, IsOnlyWriter, IsUnwrittenNumber, IsWriter, with_found}
use Rattle.log_selections.proofs.SourceFacts.{distinct-none}
use Rattle.log_selections.proofs.WriterFacts.{same_access}

-- ---- counts

contains_cases : (x : ℕ) (xs : List ℕ) (y : ℕ) → Contains (x ∷ xs) y → (x ≡ y) ⊎ Contains xs y
contains_cases x xs y (zero, within, is) = inl is
contains_cases x xs y (suc k, within, is) = inr (k, omega arith, is)

contains_later : (x : ℕ) (xs : List ℕ) (y : ℕ) → Contains xs y → Contains (x ∷ xs) y
contains_later x xs y (k, within, is) = (suc k, omega arith, is)

not_equal : (x y : ℕ) → (x ≡ y → ⊥) → nat_eq x y ≡ false
not_equal x y other = grind (arith, nat_tests)

module _ (P Q : ℕ → Type 0) where
  -- one property, in other words
  pub count-same : (count : ℕ) → ((n : ℕ) → P n ↔ Q n) → IsCountOf P count → IsCountOf Q count
  count-same count same (those, distinct, each, is) = (those, distinct, λ n. (λ has. (same n).0 ((each n).0 has), λ q. (each n).1 ((same n).1 q)), is)

  -- one number more has it
  pub count-more : (count x : ℕ) → (P x → ⊥) → Q x → ((n : ℕ) → P n → Q n) → ((n : ℕ) → Q n → (n ≡ x → ⊥) → P n) → IsCountOf P count → IsCountOf Q (count + 1)
  count-more count x fresh here before after (those, distinct, each, is) = (
    x ∷ those,
    IsDistinct-cons nat_eq x those (recursion_from_All (λ y. nat_eq x y ≡ false) those apart) distinct,
    λ n. (
      λ has. ⊎_elim (λ same. subst Q same here) (λ old. before n ((each n).0 old)) (contains_cases x those n has),
      λ q. ⊎_elim (λ (same : n ≡ x). (0, omega arith, sym same)) (λ other. contains_later x those n ((each n).1 (after n q other))) (cases_eq n x),
    ),
    omega (arith, is),
  )
    where
      apart : All (λ y. nat_eq x y ≡ false) those
      apart k d within = not_equal x (get_or those k d) (λ same. fresh (subst P (sym same) ((each (get_or those k d)).0 (Contains-get_or those k d within))))

pub count-none : (P : ℕ → Type 0) → ((n : ℕ) → P n → ⊥) → IsCountOf P 0
count-none P none = ([], distinct-none, λ n. (λ (k, within, is). absurd (omega (arith, within)), λ p. absurd (none n p)), refl)

-- ---- what two can have written

-- what one alone can have written
only_writer : (first : List (ℕ × ℕ)) (accesses : List Access) (written : ℕ × ℕ) (s r : ℕ) → IsOnlyWriter first accesses written s → IsWriter first accesses written r → r ≡ s
only_writer first accesses written zero zero only writer = refl
only_writer first accesses written zero (suc k) (same, none) writer = absurd (none k writer)
only_writer first accesses written (suc k) zero (other, store, only) writer = absurd (other writer)
only_writer first accesses written (suc k) (suc j) (other, store, only) writer = ap suc (only j writer)

one_writer : (first : List (ℕ × ℕ)) (accesses : List Access) (written : ℕ × ℕ) (s : ℕ) → IsOnlyWriter first accesses written s → HasTwoWriters first accesses written → ⊥
one_writer first accesses written s only (q, r, differ, writes, writes_too) = differ (only_writer first accesses written s q only writes ∙ sym (only_writer first accesses written s r only writes_too))

no_writer : (first : List (ℕ × ℕ)) (accesses : List Access) (written : ℕ × ℕ) → IsFound first accesses written Unwritten → HasTwoWriters first accesses written → ⊥
no_writer first accesses written (other, none) (zero, r, differ, writes, writes_too) = other writes
no_writer first accesses written (other, none) (suc k, r, differ, writes, writes_too) = none k writes

-- what one has written isn't unwritten
found_writer : (first : List (ℕ × ℕ)) (accesses : List Access) (written : ℕ × ℕ) (found : LoadSource) → (found ≡ Unwritten → ⊥) → IsFound first accesses written found → IsFound first accesses written Unwritten → ⊥
found_writer first accesses written (Known zero) other (same, none) (differs, unwritten) = differs same
found_writer first accesses written (Known (suc k)) other (differs_too, store, only) (differs, unwritten) = unwritten k store
found_writer first accesses written Ambiguous other two none = no_writer first accesses written none two
found_writer first accesses written Unwritten other is none = other refl

-- ---- the unwritten loads among the first accesses

module _ (first : List (ℕ × ℕ)) (accesses : List Access) where
  -- where none is listed, none of the first i accesses is one
  abbrev pub AreListedTo : ℕ → List ℕ → Type 0
  AreListedTo i unwritten = unwritten ≡ [] → (n : ℕ) → n ≤ i → IsUnwrittenNumber first accesses n → ⊥

  pub listed-none : AreListedTo 0 []
  listed-none none n within (k, number, x, at, load, is) = omega (arith, within, number)

  -- the next access is a store, or a load of which this was found
  listed-next : (i : ℕ) → (IsUnwrittenNumber first accesses (suc i) → ⊥) → ((n : ℕ) → n ≤ i → IsUnwrittenNumber first accesses n → ⊥) → (n : ℕ) → n ≤ i + 1 → IsUnwrittenNumber first accesses n → ⊥
  listed-next i other before n within is =
      ⊎_elim (λ (same : n ≡ suc i). other (subst (IsUnwrittenNumber first accesses) same is)) (λ (differs : n ≡ suc i → ⊥). before n (omega (arith, within, differs)) is) (cases_eq n (suc i))

  unwritten_of : (i : ℕ) (x : Access) → slice_get accesses i ≡ Some x → IsUnwrittenNumber first accesses (suc i) → (x.load ≡ true) × IsFound first accesses (x.a, x.value) Unwritten
  unwritten_of i x at (k, number, y, at_y, load, is) =
      let place : i ≡ k = omega (arith, number) in
      let same : y ≡ x = same_access accesses i y x (ap (slice_get accesses) place ∙ at_y) at in
      subst (λ (z : Access). (z.load ≡ true) × IsFound first accesses (z.a, z.value) Unwritten) same (load, is)

  pub listed-store : (i : ℕ) (x : Access) (unwritten : List ℕ) → slice_get accesses i ≡ Some x → x.load ≡ false → AreListedTo i unwritten → AreListedTo (i + 1) unwritten
  listed-store i x unwritten at store listed none = listed-next i (λ is. false≢true (sym store ∙ (unwritten_of i x at is).0)) (listed none)

  pub listed-load : (i : ℕ) (x : Access) (found : LoadSource) (old new : List ℕ) → slice_get accesses i ≡ Some x → IsFound first accesses (x.a, x.value) found → (new ≡ [] → (old ≡ []) × (found ≡ Unwritten → ⊥)) →
      AreListedTo i old → AreListedTo (i + 1) new
  listed-load i x found old new at is noted listed none =
      let (before, other) = noted none in
      listed-next i (λ unwritten. found_writer first accesses (x.a, x.value) found other is (unwritten_of i x at unwritten).1) (listed before)

  pub listed-all : (i : ℕ) (unwritten : List ℕ) → length accesses ≤ i → AreListedTo i unwritten → AreAllListed first accesses unwritten
  listed-all i unwritten whole listed none n is = listed none n (within n is) is
    where
      within : (n : ℕ) → IsUnwrittenNumber first accesses n → n ≤ i
      within n (k, number, x, at, load, found) = let below = slice_get_within accesses k x at in omega (arith, number, below, whole)

-- ---- the ambiguous loads among the first accesses

-- one more load or none
pub with_found-few : (i count : ℕ) (found : LoadSource) → count ≤ i → with_found count found ≤ i + 1
with_found-few i count (Known s) few = omega (arith, few)
with_found-few i count Ambiguous few = omega (arith, few)
with_found-few i count Unwritten few = omega (arith, few)

module _ (first : List (ℕ × ℕ)) (accesses : List Access) where
  -- an ambiguous load among the first i accesses
  abbrev pub IsAmbiguousTo : ℕ → ℕ → Type 0
  IsAmbiguousTo i n = (n ≤ i) × IsAmbiguousLoad first accesses n

  pub ambiguous-none : IsCountOf (IsAmbiguousTo 0) 0
  ambiguous-none = count-none (IsAmbiguousTo 0) none
    where
      none : (n : ℕ) → IsAmbiguousTo 0 n → ⊥
      none n (within, (k, number, x, at, load, two)) = omega (arith, within, number)

  -- the next access is none
  pub ambiguous-same : (i count : ℕ) → (IsAmbiguousLoad first accesses (suc i) → ⊥) → IsCountOf (IsAmbiguousTo i) count → IsCountOf (IsAmbiguousTo (i + 1)) count
  ambiguous-same i count none counted = count-same (IsAmbiguousTo i) (IsAmbiguousTo (i + 1)) count (λ n. (λ (within, is). (omega (arith, within), is), λ (within, is). (before n within is, is))) counted
    where
      before : (n : ℕ) → n ≤ i + 1 → IsAmbiguousLoad first accesses n → n ≤ i
      before n within is = ⊎_elim (λ (same : n ≡ suc i). absurd (none (subst (IsAmbiguousLoad first accesses) same is))) (λ other. omega (arith, within, other)) (cases_eq n (suc i))

  -- the next access is one
  pub ambiguous-more : (i count : ℕ) → IsAmbiguousLoad first accesses (suc i) → IsCountOf (IsAmbiguousTo i) count → IsCountOf (IsAmbiguousTo (i + 1)) (count + 1)
  ambiguous-more i count here counted = count-more (IsAmbiguousTo i) (IsAmbiguousTo (i + 1)) count (suc i) (λ (within, is). omega (arith, within)) (omega arith, here)
      (λ n. λ (within, is). (omega (arith, within), is)) (λ n. λ (within, is). λ other. (omega (arith, within, other), is)) counted

  -- what is known of an ambiguous load that is this access
  two_of : (i : ℕ) (x : Access) → slice_get accesses i ≡ Some x → IsAmbiguousLoad first accesses (suc i) → (x.load ≡ true) × HasTwoWriters first accesses (x.a, x.value)
  two_of i x at (k, number, y, at_y, load, two) =
      let place : i ≡ k = omega (arith, number) in
      let same : y ≡ x = same_access accesses i y x (ap (slice_get accesses) place ∙ at_y) at in
      subst (λ (z : Access). (z.load ≡ true) × HasTwoWriters first accesses (z.a, z.value)) same (load, two)

  -- the next access is a store
  pub ambiguous-store : (i count : ℕ) (x : Access) → slice_get accesses i ≡ Some x → x.load ≡ false → IsCountOf (IsAmbiguousTo i) count → IsCountOf (IsAmbiguousTo (i + 1)) count
  ambiguous-store i count x at store = ambiguous-same i count (λ is. false≢true (sym store ∙ (two_of i x at is).0))

  -- it is a load of which this was found
  pub ambiguous-load : (i count : ℕ) (x : Access) (found : LoadSource) → slice_get accesses i ≡ Some x → x.load ≡ true → IsFound first accesses (x.a, x.value) found →
      IsCountOf (IsAmbiguousTo i) count → IsCountOf (IsAmbiguousTo (i + 1)) (with_found count found)
  ambiguous-load i count x (Known s) at load only = ambiguous-same i count (λ is. one_writer first accesses (x.a, x.value) s only (two_of i x at is).1)
  ambiguous-load i count x Ambiguous at load two = ambiguous-more i count (i, refl, x, at, load, two)
  ambiguous-load i count x Unwritten at load none = ambiguous-same i count (λ is. no_writer first accesses (x.a, x.value) none (two_of i x at is).1)

  -- those among all accesses
  pub ambiguous-all : (i count : ℕ) → length accesses ≤ i → IsCountOf (IsAmbiguousTo i) count → IsCountOf (IsAmbiguousLoad first accesses) count
  ambiguous-all i count whole = count-same (IsAmbiguousTo i) (IsAmbiguousLoad first accesses) count (λ n. (λ (within, is). is, λ is. (within n is, is)))
    where
      within : (n : ℕ) → IsAmbiguousLoad first accesses n → n ≤ i
      within n (k, number, x, at, load, two) = let below = slice_get_within accesses k x at in omega (arith, number, below, whole)
