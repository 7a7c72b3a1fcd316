-- Lemmas on the order of lists of numbers.
use Rattle.std.proofs.Common.{◌≡◌, ◌∙◌, ◌⊎◌, ℕ, zero, suc, ◌+◌, ◌<◌, ◌≤◌, Bool, true, false, List, [], ◌∷◌, ◌++◌, length, get_or, take, None, refl, ap, ap₂, sym, subst, inl, inr, arith}
use Rattle.std.specs.Prelude.{◌≢◌, min, nat_lt}
use Rattle.std.proofs.lemmas.Grind.{common_steps}
use Rattle.std.proofs.lemmas.Bool.{cases_eq, cases_lt, cases_Bool}
use Rattle.outcome_reports.specs.Internal.Counting.{AreRising, IsBetween, IsPlaceOf}
use Rattle.final_states.specs.FinalStates.{is_below}

-- the first numbers decide, or else the others
head_below : (x y : ℕ) (xs ys : List ℕ) → is_below (x ∷ xs) (y ∷ ys) ≡ true → (x < y) ⊎ ((x ≡ y) × (is_below xs ys ≡ true))
head_below x y xs ys below = grind (arith, common_steps)

less_below : (x y : ℕ) (xs ys : List ℕ) → x < y → is_below (x ∷ xs) (y ∷ ys) ≡ true
less_below x y xs ys less = grind (arith, common_steps)

tail_below : (x y : ℕ) (xs ys : List ℕ) → x ≡ y → is_below xs ys ≡ true → is_below (x ∷ xs) (y ∷ ys) ≡ true
tail_below x y xs ys same below = grind (arith, common_steps)

pub below_trans : (xs ys zs : List ℕ) → is_below xs ys ≡ true → is_below ys zs ≡ true → is_below xs zs ≡ true
below_trans [] ys zs first second = absurd cc
below_trans (x ∷ xs) [] zs first second = absurd cc
below_trans (x ∷ xs) (y ∷ ys) [] first second = absurd cc
below_trans (x ∷ xs) (y ∷ ys) (z ∷ zs) first second = elim (head_below x y xs ys first) [
  | inl less ↦ elim (head_below y z ys zs second) [ inl then ↦ less_below x z xs zs (omega arith) | inr then ↦ less_below x z xs zs (omega arith) ]
  | inr same ↦ elim (head_below y z ys zs second) [
    | inl then ↦ less_below x z xs zs (omega arith)
    | inr then ↦ tail_below x z xs zs (omega arith) (below_trans xs ys zs same.1 then.1)
  ]
]

pub below_itself : (xs : List ℕ) → is_below xs xs ≡ true → ⊥
below_itself [] below = absurd cc
below_itself (x ∷ xs) below = elim (head_below x x xs xs below) [ inl less ↦ omega arith | inr same ↦ below_itself xs same.1 ]

-- Below by the numbers of first parts of one length, or these are the same.
pub first_below : (xs ys us vs : List ℕ) → length xs ≡ length us → is_below (xs ++ ys) (us ++ vs) ≡ true → (is_below xs us ≡ true) ⊎ (xs ≡ us)
first_below [] ys [] vs count below = inr refl
first_below [] ys (u ∷ us) vs count below = absurd cc
first_below (x ∷ xs) ys [] vs count below = absurd cc
first_below (x ∷ xs) ys (u ∷ us) vs count below = elim (head_below x u (xs ++ ys) (us ++ vs) below) [
  | inl less ↦ inl (less_below x u xs us less)
  | inr same ↦ elim (first_below xs ys us vs (omega arith) same.1) [ inl then ↦ inl (tail_below x u xs us same.0 then) | inr then ↦ inr (ap₂ (λ h t. h ∷ t) same.0 then) ]
]

-- ---- where two lists first differ

same_head : (x : ℕ) (xs ys : List ℕ) → is_below (x ∷ xs) (x ∷ ys) ≡ is_below xs ys
same_head x xs ys = grind (arith, common_steps)

other_head : (x y : ℕ) (xs ys : List ℕ) → x ≢ y → is_below (x ∷ xs) (y ∷ ys) ≡ nat_lt x y
other_head x y xs ys other = grind (arith, common_steps)

pub below_at : (i : ℕ) (xs ys : List ℕ) → take i xs ≡ take i ys → i < length xs → i < length ys → get_or xs i 0 ≢ get_or ys i 0 → is_below xs ys ≡ nat_lt (get_or xs i 0) (get_or ys i 0)
below_at i [] ys same inside within other = absurd (omega arith)
below_at i (x ∷ xs) [] same inside within other = absurd (omega arith)
below_at zero (x ∷ xs) (y ∷ ys) same inside within other = other_head x y xs ys other
below_at (suc i) (x ∷ xs) (y ∷ ys) same inside within other =
    let head : x ≡ y = cc in
    let tail : take i xs ≡ take i ys = cc in
    ap (λ h. is_below (x ∷ xs) (h ∷ ys)) (sym head) ∙ same_head x xs ys ∙ below_at i xs ys tail (omega arith) (omega arith) other

pub below_never : (i : ℕ) (xs ys : List ℕ) → take i xs ≡ take i ys → min (length xs) (length ys) ≤ i → is_below xs ys ≡ false
below_never i [] ys same past = refl
below_never i (x ∷ xs) [] same past = refl
below_never zero (x ∷ xs) (y ∷ ys) same past = absurd (omega arith)
below_never (suc i) (x ∷ xs) (y ∷ ys) same past =
    let head : x ≡ y = cc in
    let tail : take i xs ≡ take i ys = cc in
    ap (λ h. is_below (x ∷ xs) (h ∷ ys)) (sym head) ∙ same_head x xs ys ∙ below_never i xs ys tail (omega arith)

-- ---- a search

pub true_not_false : (b : Bool) → b ≡ true → b ≡ false → ⊥
true_not_false b on off = absurd cc

pub all_between : (keys : List (List ℕ)) (values : List ℕ) → IsBetween keys values 0 (length keys)
all_between keys values = record { before = λ k early. absurd (omega arith); after = λ k late inside. absurd (omega arith) }

module _ (keys : List (List ℕ)) (values : List ℕ) (rise : AreRising keys) (start end middle : ℕ) (between : IsBetween keys values start end) (inside : middle < length keys) where
  pub between_above : is_below (get_or keys middle []) values ≡ true → IsBetween keys values (middle + 1) end
  between_above below = record {
    before = λ k early. elim (cases_lt k middle) [
      | inl less ↦ below_trans (get_or keys k []) (get_or keys middle []) values (rise.rising k middle less inside) below
      | inr more ↦ (let here : k ≡ middle = omega arith in subst (λ j. is_below (get_or keys j []) values ≡ true) (sym here) below)
    ];
    after = between.after;
  }

  pub between_below : is_below (get_or keys middle []) values ≡ false → IsBetween keys values start middle
  between_below not_below = record {
    before = between.before;
    after = λ k late within. elim (cases_eq k middle) [
      | inl here ↦ subst (λ j. is_below (get_or keys j []) values ≡ false) (sym here) not_below
      | inr other ↦ elim (cases_Bool (is_below (get_or keys k []) values)) [
        | inr off ↦ off
        | inl on ↦
            absurd
            (true_not_false (is_below (get_or keys middle []) values)
            (below_trans (get_or keys middle []) (get_or keys k []) values (rise.rising middle k (omega arith) within) on) not_below)
      ]
    ];
  }

pub nowhere : (keys : List (List ℕ)) (values : List ℕ) (k : ℕ) → (AreRising keys → IsBetween keys values k k) → (k < length keys → get_or keys k [] ≡ values → ⊥) → IsPlaceOf keys values None
nowhere keys values k between other rise j inside is =
    elim (cases_eq j k) [
      | inl here ↦ other (subst (λ n. n < length keys) here inside) (ap (λ n. get_or keys n []) (sym here) ∙ is)
      | inr apart ↦ elim (cases_lt j k) [
        | inl early ↦ below_itself values (subst (λ vs. is_below vs values ≡ true) is ((between rise).before j early))
        | inr late ↦
            let above = rise.rising k j (omega arith) inside in
            true_not_false (is_below (get_or keys k []) values) (subst (λ vs. is_below (get_or keys k []) vs ≡ true) is above) ((between rise).after k (omega arith) (omega arith))
      ]
    ]
