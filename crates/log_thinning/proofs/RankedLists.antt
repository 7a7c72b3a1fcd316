-- The numbers from 1 to n in the order of their ranks, where no two have one rank.
use Rattle.std.proofs.Common.{◌≡◌, ◌⊎◌, ◌↔◌, ℕ, zero, suc, ◌<◌, ◌≤◌, List, [], ◌∷◌, inl, inr, refl, subst, arith}
use Rattle.std.proofs.lemmas.Bool.{cases_eq, cases_lt}
use Rattle.tso_model.specs.Axioms.{occurrences, IsUpTo}
use Rattle.tso_model.proofs.Places.{place-here, place-later, occurrences-cons, occurrences-same, occurrences-other, occurrences-later}

-- the first number of a list occurs there
occurs-first : (x n : ℕ) (ys : List ℕ) → x ≡ n → 0 < occurrences n (x ∷ ys)
occurs-first x n ys same = omega (arith, occurrences-cons n x ys, occurrences-same n x same)

-- and what occurs in the rest does
occurs-rest : (x n : ℕ) (ys : List ℕ) → 0 < occurrences n ys → 0 < occurrences n (x ∷ ys)
occurs-rest x n ys occurs = omega (arith, occurs, occurrences-cons n x ys)

-- what occurs is the first number or occurs in the rest
occurs_cases : (x n : ℕ) (ys : List ℕ) → 0 < occurrences n (x ∷ ys) → (x ≡ n) ⊎ (0 < occurrences n ys)
occurs_cases x n ys occurs = elim (cases_eq x n) [
  | inl same ↦ inl same
  | inr other ↦ inr (omega (arith, occurs, occurrences-later n x ys other))
]

module _ (rank : ℕ → ℕ) where
  -- x before y, or behind it where it stands in the rest already
  abbrev pub placed : (x y : ℕ) (ys rest : List ℕ) → (rank x < rank y) ⊎ (rank y ≤ rank x) → List ℕ
  placed x y ys rest (inl below) = x ∷ y ∷ ys
  placed x y ys rest (inr above) = y ∷ rest

  -- the list with x, before the first of a higher rank
  abbrev pub insert : ℕ → List ℕ → List ℕ
  insert x [] = x ∷ []
  insert x (y ∷ ys) = placed x y ys (insert x ys) (cases_lt (rank x) (rank y))

  -- the numbers from 1 to n
  abbrev pub ranked : ℕ → List ℕ
  ranked zero = []
  ranked (suc n) = insert (suc n) (ranked n)

  -- each is of a lower rank than those behind it
  IsRanked : List ℕ → Type 0
  IsRanked [] = Unit {0}
  IsRanked (y ∷ ys) = ((n : ℕ) → 0 < occurrences n ys → rank y < rank n) × IsRanked ys

  -- one number more occurs
  occurrences-insert : (n x : ℕ) (ys : List ℕ) → occurrences n (insert x ys) ≡ occurrences n (x ∷ ys)
  occurrences-insert n x [] = refl
  occurrences-insert n x (y ∷ ys) = by_cases (cases_lt (rank x) (rank y)) (occurrences-insert n x ys)
    where
      by_cases : (side : (rank x < rank y) ⊎ (rank y ≤ rank x)) → occurrences n (insert x ys) ≡ occurrences n (x ∷ ys) →
          occurrences n (placed x y ys (insert x ys) side) ≡ occurrences n (x ∷ y ∷ ys)
      by_cases (inl below) rest = refl
      by_cases (inr above) rest = omega (arith, rest, occurrences-cons n y (insert x ys), occurrences-cons n x ys, occurrences-cons n x (y ∷ ys), occurrences-cons n y ys)

  -- the list stays ranked
  insert-ranked : (x : ℕ) (ys : List ℕ) → ((n : ℕ) → 0 < occurrences n ys → rank n ≡ rank x → ⊥) → IsRanked ys → IsRanked (insert x ys)
  unfolding IsRanked
  insert-ranked x [] apart is = (λ n occurs. absurd (omega (arith, occurs)), tt)
  insert-ranked x (y ∷ ys) apart is = by_cases (cases_lt (rank x) (rank y)) (insert-ranked x ys (λ n occurs. apart n (occurs-rest y n ys occurs)) is.1)
    where
      by_cases : (side : (rank x < rank y) ⊎ (rank y ≤ rank x)) → IsRanked (insert x ys) → IsRanked (placed x y ys (insert x ys) side)
      by_cases (inl below) rest = (
        λ n occurs. elim (occurs_cases y n ys occurs) [
          | inl same ↦ subst (λ k. rank x < rank k) same below
          | inr later ↦ let above = is.0 n later in omega (arith, above, below)
        ],
        is,
      )
      by_cases (inr above) rest =
          let other : rank y ≡ rank x → ⊥ = apart y (occurs-first y y ys refl) in
          let less : rank y < rank x = omega (arith, above, other) in (
            λ n occurs. elim (occurs_cases x n ys (subst (λ k. 0 < k) (occurrences-insert n x ys) occurs)) [
              | inl same ↦ subst (λ k. rank y < rank k) same less
              | inr later ↦ is.0 n later
            ],
            rest,
          )

  -- of two numbers of a ranked list one stands no later than the other exactly where its rank isn't higher
  ranked-up_to : (ys : List ℕ) (u v : ℕ) → IsRanked ys → 0 < occurrences u ys → 0 < occurrences v ys → IsUpTo ys u v ↔ (rank u ≤ rank v)
  unfolding IsRanked
  ranked-up_to [] u v is occurs_u occurs_v = absurd (omega (arith, occurs_u))
  ranked-up_to (y ∷ ys) u v is occurs_u occurs_v = elim (cases_eq y u) [
    | inl here ↦ (
      λ up_to. elim (occurs_cases y v ys occurs_v) [
        | inl same ↦ subst (λ k. rank k ≤ rank v) here (subst (λ k. rank y ≤ rank k) same (omega arith))
        | inr later ↦ subst (λ k. rank k ≤ rank v) here (let less = is.0 v later in omega (arith, less))
      ],
      λ low. omega (arith, place-here y ys u here),
    )
    | inr after ↦ elim (cases_eq y v) [
      | inl there ↦ (
        λ up_to. absurd (omega (arith, up_to, place-later y ys u after, place-here y ys v there)),
        λ low. absurd (let less = subst (λ k. rank k < rank u) there (is.0 u (rest u occurs_u after)) in omega (arith, less, low)),
      )
      | inr later ↦ (
        λ up_to. (ranked-up_to ys u v is.1 (rest u occurs_u after) (rest v occurs_v later)).0 (omega (arith, up_to, place-later y ys u after, place-later y ys v later)),
        λ low. let up_to = (ranked-up_to ys u v is.1 (rest u occurs_u after) (rest v occurs_v later)).1 low in omega (arith, up_to, place-later y ys u after, place-later y ys v later),
      )
    ]
  ]
    where
      rest : (n : ℕ) → 0 < occurrences n (y ∷ ys) → (y ≡ n → ⊥) → 0 < occurrences n ys
      rest n occurs other = omega (arith, occurs, occurrences-later n y ys other)

  -- the numbers from 1 to n occur once, and no others
  pub ranked-none : (n m : ℕ) → n < m → occurrences m (ranked n) ≡ 0
  ranked-none zero m above = refl
  ranked-none (suc n) m above =
      omega (arith, occurrences-insert m (suc n) (ranked n), occurrences-cons m (suc n) (ranked n), occurrences-other m (suc n) (λ same. omega (arith, same, above)), ranked-none n m (omega (arith, above)))

  -- nor does 0
  pub ranked-not_zero : (n : ℕ) → occurrences 0 (ranked n) ≡ 0
  ranked-not_zero zero = refl
  ranked-not_zero (suc n) =
      omega (arith, occurrences-insert 0 (suc n) (ranked n), occurrences-cons 0 (suc n) (ranked n), occurrences-other 0 (suc n) (λ same. omega (arith, same)), ranked-not_zero n)

  -- each of them occurs once
  pub ranked-once : (n m : ℕ) → 0 < m → m ≤ n → occurrences m (ranked n) ≡ 1
  ranked-once zero m above low = absurd (omega (arith, above, low))
  ranked-once (suc n) m above low = elim (cases_eq (suc n) m) [
    | inl same ↦ omega (arith, occurrences-insert m (suc n) (ranked n), occurrences-cons m (suc n) (ranked n), occurrences-same m (suc n) same, ranked-none n m (omega (arith, same)))
    | inr other ↦ omega (arith, occurrences-insert m (suc n) (ranked n), occurrences-cons m (suc n) (ranked n), occurrences-other m (suc n) other, ranked-once n m above (omega (arith, low, other)))
  ]

  -- what occurs is one of them
  occurs_within : (n m : ℕ) → 0 < occurrences m (ranked n) → (0 < m) × (m ≤ n)
  occurs_within n zero occurs = absurd (omega (arith, occurs, ranked-not_zero n))
  occurs_within n (suc k) occurs = elim (cases_lt n (suc k)) [
    | inl above ↦ absurd (omega (arith, occurs, ranked-none n (suc k) above))
    | inr low ↦ (omega arith, low)
  ]

  module _ (total : ℕ) (apart : (u v : ℕ) → 0 < u → u ≤ total → 0 < v → v ≤ total → rank u ≡ rank v → u ≡ v) where
    -- the list is ranked
    all_ranked : (n : ℕ) → n ≤ total → IsRanked (ranked n)
    unfolding IsRanked
    all_ranked zero low = tt
    all_ranked (suc n) low =
        insert-ranked (suc n) (ranked n)
        (λ m occurs same. let within = occurs_within n m occurs in
        let one = apart m (suc n) within.0 (omega (arith, within.1, low)) (omega arith) low same in omega (arith, one, within.1))
        (all_ranked n (omega (arith, low)))

    -- two of them stand as their ranks say
    pub ranked-in_order : (u v : ℕ) → 0 < u → u ≤ total → 0 < v → v ≤ total → IsUpTo (ranked total) u v ↔ (rank u ≤ rank v)
    ranked-in_order u v above_u low_u above_v low_v =
        ranked-up_to (ranked total) u v (all_ranked total (omega arith)) (omega (arith, ranked-once total u above_u low_u)) (omega (arith, ranked-once total v above_v low_v))
