-- Lemmas on which items are in a list.
use Rattle.std.proofs.Common.{◌≡◌, ◌∙◌, ◌⊎◌, sym, ap, refl, subst, inl, inr, ℕ, zero, suc, ◌+◌, ◌<◌, ◌≤◌, cond, Bool, true, false, Option, None, Some, List, [], ◌∷◌, ◌++◌, length, get_or, filter, slice_get, arith}
use Rattle.std.specs.List.{cons_option, filter_map, flat_map, range_with_len}
use Rattle.std.proofs.lemmas.Bool.{cases_lt}
use Rattle.final_states.specs.Internal.Search.{AreOnce, IsIn}

pub in-left : {X : Type 0} (xs ys : List X) (y : X) → IsIn xs y → IsIn (xs ++ ys) y
in-left [] ys y in_it = absurd in_it
in-left (x ∷ xs) ys y (inl same) = inl same
in-left (x ∷ xs) ys y (inr later) = inr (in-left xs ys y later)

pub in-right : {X : Type 0} (xs ys : List X) (y : X) → IsIn ys y → IsIn (xs ++ ys) y
in-right [] ys y in_it = in_it
in-right (x ∷ xs) ys y in_it = inr (in-right xs ys y in_it)

pub in-either : {X : Type 0} (xs ys : List X) (y : X) → IsIn (xs ++ ys) y → IsIn xs y ⊎ IsIn ys y
in-either [] ys y in_it = inr in_it
in-either (x ∷ xs) ys y (inl same) = inl (inl same)
in-either (x ∷ xs) ys y (inr later) = elim (in-either xs ys y later) [ inl first ↦ inl (inr first) | inr second ↦ inr second ]

pub in-option : {X : Type 0} (o : Option X) (xs : List X) (y : X) → IsIn (cons_option o xs) y → (o ≡ Some y) ⊎ IsIn xs y
in-option None xs y in_it = inr in_it
in-option (Some x) xs y (inl same) = inl (ap Some same)
in-option (Some x) xs y (inr later) = inr later

pub in-option-first : {X : Type 0} (o : Option X) (xs : List X) (y : X) → o ≡ Some y → IsIn (cons_option o xs) y
in-option-first None xs y is = absurd cc
in-option-first (Some x) xs y is = inl cc

pub in-option-later : {X : Type 0} (o : Option X) (xs : List X) (y : X) → IsIn xs y → IsIn (cons_option o xs) y
in-option-later None xs y later = later
in-option-later (Some x) xs y later = inr later

pub in-each : {Y : Type 0} (f : ℕ → List Y) (least count k : ℕ) (y : Y) → least ≤ k → k < least + count → IsIn (f k) y → IsIn (flat_map f (range_with_len least count)) y
in-each f least zero k y low high in_it = absurd (omega arith)
in-each {Y} f least (suc count) k y low high in_it =
    let P : ℕ → Type 0 = λ n. IsIn (f n) y in
    elim (same_or_above least k low) [
      | inl same ↦ in-left (f least) _ y (subst P (sym same) in_it)
      | inr above ↦ in-right (f least) _ y (in-each f (least + 1) count k y (omega (arith, above)) (omega (arith, high)) in_it)
    ]
  where
    same_or_above : (n m : ℕ) → n ≤ m → (n ≡ m) ⊎ (n < m)
    same_or_above n m h = elim (cases_lt n m) [ inl below ↦ inr below | inr not_below ↦ inl (omega arith) ]

pub of-each : {Y : Type 0} (f : ℕ → List Y) (least count : ℕ) (y : Y) → IsIn (flat_map f (range_with_len least count)) y → (k : ℕ) × (least ≤ k) × (k < least + count) × IsIn (f k) y
of-each f least zero y in_it = absurd in_it
of-each f least (suc count) y in_it =
    elim (in-either (f least) (flat_map f (range_with_len (least + 1) count)) y in_it) [
      | inl here ↦ (least, omega arith, omega arith, here)
      | inr later ↦ let found = of-each f (least + 1) count y later in (found.0, omega (arith, found.1), omega (arith, found.2), found.3)
    ]

pub in-some : {Y : Type 0} (f : ℕ → Option Y) (least count k : ℕ) (y : Y) → least ≤ k → k < least + count → f k ≡ Some y → IsIn (filter_map f (range_with_len least count)) y
in-some f least zero k y low high is = absurd (omega arith)
in-some f least (suc count) k y low high is =
    elim (cases_lt least k) [
      | inl below ↦ in-option-later (f least) _ y (in-some f (least + 1) count k y (omega (arith, below)) (omega (arith, high)) is)
      | inr not_below ↦ let same : least ≡ k = omega (arith, not_below, low) in in-option-first (f least) _ y (ap f same ∙ is)
    ]

pub of-some : {Y : Type 0} (f : ℕ → Option Y) (least count : ℕ) (y : Y) → IsIn (filter_map f (range_with_len least count)) y → (k : ℕ) × (f k ≡ Some y)
of-some f least zero y in_it = absurd in_it
of-some f least (suc count) y in_it =
    elim (in-option (f least) (filter_map f (range_with_len (least + 1) count)) y in_it) [
      | inl here ↦ (least, here)
      | inr later ↦ of-some f (least + 1) count y later
    ]

pub in-at : {X : Type 0} (xs : List X) (k : ℕ) (d : X) → k < length xs → IsIn xs (get_or xs k d)
in-at [] k d within = absurd (omega arith)
in-at (x ∷ xs) zero d within = inl refl
in-at (x ∷ xs) (suc k) d within = inr (in-at xs k d (omega arith))

pub read-in : {X : Type 0} (xs : List X) (k : ℕ) (x : X) → slice_get xs k ≡ Some x → IsIn xs x
read-in [] k x read = absurd cc
read-in (y ∷ xs) zero x read = inl cc
read-in (y ∷ xs) (suc k) x read = inr (read-in xs k x read)

pub place-in : {X : Type 0} (xs : List X) (x : X) → IsIn xs x → (k : ℕ) × (slice_get xs k ≡ Some x)
place-in [] x in_it = absurd in_it
place-in (y ∷ xs) x (inl same) = (0, ap Some same)
place-in (y ∷ xs) x (inr later) = let rest = place-in xs x later in (suc rest.0, rest.1)

-- ---- items that pass a test

pub in-filter : {X : Type 0} (test : X → Bool) (xs : List X) (y : X) → IsIn xs y → test y ≡ true → IsIn (filter test xs) y
in-filter test [] y in_it passes = absurd in_it
in-filter {X} test (x ∷ xs) y (inl same) passes =
    let P : Bool → Type 0 = λ b. IsIn (cond b (x ∷ filter test xs) (filter test xs)) y in
    subst P (sym (ap test same ∙ passes)) (inl same)
in-filter test (x ∷ xs) y (inr later) passes = kept (test x) (in-filter test xs y later passes)
  where
    kept : (b : Bool) → IsIn (filter test xs) y → IsIn (cond b (x ∷ filter test xs) (filter test xs)) y
    kept true there = inr there
    kept false there = there

filtered : {X : Type 0} (test : X → Bool) (x y : X) (rest : List X) (b : Bool) → test x ≡ b → IsIn (cond b (x ∷ rest) rest) y → ((x ≡ y) × (test y ≡ true)) ⊎ IsIn rest y
filtered test x y rest true passes (inl same) = inl (same, ap test (sym same) ∙ passes)
filtered test x y rest true passes (inr later) = inr later
filtered test x y rest false passes later = inr later

pub of-filter : {X : Type 0} (test : X → Bool) (xs : List X) (y : X) → IsIn (filter test xs) y → IsIn xs y × (test y ≡ true)
of-filter test [] y in_it = absurd in_it
of-filter test (x ∷ xs) y in_it =
    elim (filtered test x y (filter test xs) (test x) refl in_it) [
      | inl here ↦ (inl here.0, here.1)
      | inr later ↦ let rest = of-filter test xs y later in (inr rest.0, rest.1)
    ]

pub once-filter : {X : Type 0} (test : X → Bool) (xs : List X) → AreOnce xs → AreOnce (filter test xs)
once-filter test [] once = tt
once-filter test (x ∷ xs) once = kept (test x) (λ there. once.0 (of-filter test xs x there).0) (once-filter test xs once.1)
  where
    kept : (b : Bool) → (IsIn (filter test xs) x → ⊥) → AreOnce (filter test xs) → AreOnce (cond b (x ∷ filter test xs) (filter test xs))
    kept true first rest = (first, rest)
    kept false first rest = rest

-- ---- numbers one after the other

pub in-range : (least count k : ℕ) → least ≤ k → k < least + count → IsIn (range_with_len least count) k
in-range least zero k low high = absurd (omega arith)
in-range least (suc count) k low high =
    elim (cases_lt least k) [
      | inl below ↦ inr (in-range (least + 1) count k (omega (arith, below)) (omega (arith, high)))
      | inr not_below ↦ inl (omega (arith, not_below, low))
    ]

pub of-range : (least count k : ℕ) → IsIn (range_with_len least count) k → (least ≤ k) × (k < least + count)
of-range least zero k in_it = absurd in_it
of-range least (suc count) k (inl same) = (omega (arith, same), omega (arith, same))
of-range least (suc count) k (inr later) = let rest = of-range (least + 1) count k later in (omega (arith, rest.0), omega (arith, rest.1))

pub once-range : (least count : ℕ) → AreOnce (range_with_len least count)
once-range least zero = tt
once-range least (suc count) = (λ later. absurd (omega (arith, (of-range (least + 1) count least later).0)), once-range (least + 1) count)
