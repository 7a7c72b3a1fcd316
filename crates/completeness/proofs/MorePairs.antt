-- What is so of pairs in force whenever it is so with each pair more that they have no path for, is so of all pairs in force.
use Rattle.std.proofs.Common.{◌≡◌, ◌⊎◌, inl, inr, subst, ℕ, zero, suc, ◌<◌, ◌≤◌, arith}
use Rattle.std.proofs.lemmas.Bool.{cases_eq}
use Rattle.order_paths.specs.Paths.{Reaches}
use Rattle.order_paths.proofs.Decisions.{Decision, Decision-both, Decision-either}
use Rattle.order_paths.proofs.Reach.{Reaches-edge}
use Rattle.refutation_check.specs.Refutations.{WithPair}

-- whether a pair is in force is decided, and such pairs are of numbers below n
pub record AreDecidedBelow (n : ℕ) (Pair : ℕ → ℕ → Type 0) : Type 0 where
  pub decide : (x y : ℕ) → Decision (Pair x y)
  pub below : (x y : ℕ) → Pair x y → (x < n) × (y < n)

with_decided : (n : ℕ) (Pair : ℕ → ℕ → Type 0) (u v : ℕ) → u < n → v < n → AreDecidedBelow n Pair → AreDecidedBelow n (WithPair Pair u v)
with_decided n Pair u v below_u below_v known = record {
  decide = λ x y. Decision-either (known.decide x y) (Decision-both (cases_eq u x) (cases_eq v y));
  below = λ x y pair. elim pair [
    | inl before ↦ known.below x y before
    | inr here ↦ (subst (λ k. k < n) here.0 below_u, subst (λ k. k < n) here.1 below_v)
  ];
}

-- the pair comes after that of a and b: its first number is greater, or is a, and its second isn't below b
abbrev IsFrom : ℕ → ℕ → ℕ → ℕ → Type 0
IsFrom a b u v = (a < u) ⊎ ((a ≡ u) × (b ≤ v))

-- such a pair is that of a and b, or comes after that of a and suc b
from_cases : (a b u v : ℕ) → IsFrom a b u v → ((a ≡ u) × (b ≡ v)) ⊎ IsFrom a (suc b) u v
from_cases a b u v (inl above) = inr (inl above)
from_cases a b u v (inr here) = elim (cases_eq b v) [
  | inl same ↦ inl (here.0, same)
  | inr other ↦ (let from : b ≤ v = here.1 in inr (inr (here.0, omega (arith, from, other))))
]

module _ (n : ℕ) (Answer : (ℕ → ℕ → Type 0) → Type 0) where
  -- where more pairs are in force, and none of their paths leads from u to v, the answer is there with this pair
  abbrev IsSettled : (ℕ → ℕ → Type 0) → ℕ → ℕ → Type 1
  IsSettled Pair u v = (More : ℕ → ℕ → Type 0) → ((x y : ℕ) → Pair x y → More x y) → AreDecidedBelow n More → u < n → v < n → (Reaches More u v → ⊥) → Answer (WithPair More u v)

  -- the answer is there where all pairs from that of a and b on are settled
  abbrev IsAnsweredFrom : ℕ → ℕ → Type 1
  IsAnsweredFrom a b = (Pair : ℕ → ℕ → Type 0) → AreDecidedBelow n Pair → ((u v : ℕ) → IsFrom a b u v → IsSettled Pair u v) → Answer Pair

  -- from the pair before on it is there too, since with that pair in force it needs no other
  with_one : (a b : ℕ) → IsAnsweredFrom a b → IsAnsweredFrom a (suc b)
  with_one a b answered Pair known settled = answered Pair known settled_too
    where
      settled_with : (More : ℕ → ℕ → Type 0) → ((x y : ℕ) → Pair x y → More x y) → (u v : ℕ) → IsFrom a b u v → IsSettled (WithPair More a b) u v
      settled_with More more u v from Even even known_even below_u below_v none = elim (from_cases a b u v from) [
        | inl here ↦ absurd (none (Reaches-edge Even u v (even u v (inr here))))
        | inr later ↦ settled u v later Even (λ x y pair. even x y (inl (more x y pair))) known_even below_u below_v none
      ]

      settled_here : IsSettled Pair a b
      settled_here More more known_more below_a below_b none = answered (WithPair More a b) (with_decided n More a b below_a below_b known_more) (settled_with More more)

      settled_too : (u v : ℕ) → IsFrom a b u v → IsSettled Pair u v
      settled_too u v from More more known_more below_u below_v none = elim (from_cases a b u v from) [
        | inl here ↦ subst (λ k. Answer (WithPair More k v)) here.0 (subst (λ k. Answer (WithPair More a k)) here.1
            (settled_here More more known_more (omega (arith, below_u, here.0)) (omega (arith, below_v, here.1))
            (λ path. none (subst (λ k. Reaches More k v) here.0 (subst (λ k. Reaches More a k) here.1 path)))))
        | inr later ↦ settled u v later More more known_more below_u below_v none
      ]

  with_number : (a : ℕ) → IsAnsweredFrom a 0 → (b : ℕ) → IsAnsweredFrom a b
  with_number a answered zero = answered
  with_number a answered (suc b) = with_one a b (with_number a answered b)

  -- no number of a pair is n or above, so after the pairs of a come those of the next number
  next_number : (a : ℕ) → IsAnsweredFrom a n → IsAnsweredFrom (suc a) 0
  next_number a answered Pair known settled = answered Pair known settled_too
    where
      settled_too : (u v : ℕ) → IsFrom a n u v → IsSettled Pair u v
      settled_too u v (inr here) More more known_more below_u below_v none = (let beyond : n ≤ v = here.1 in absurd (omega (arith, beyond, below_v)))
      settled_too u v (inl above) More more known_more below_u below_v none = elim (cases_eq (suc a) u) [
        | inl same ↦ settled u v (inr (same, omega arith)) More more known_more below_u below_v none
        | inr other ↦ settled u v (inl (omega (arith, above, other))) More more known_more below_u below_v none
      ]

  module _ (by_more : (Pair : ℕ → ℕ → Type 0) → AreDecidedBelow n Pair → ((u v : ℕ) → u < n → v < n → (Reaches Pair u v → ⊥) → Answer (WithPair Pair u v)) → Answer Pair) where
    from_first : IsAnsweredFrom 0 0
    from_first Pair known settled = by_more Pair known (λ u v. settled u v (elim (cases_eq 0 u) [
      | inl same ↦ inr (same, omega arith)
      | inr other ↦ inl (omega (arith, other))
    ]) Pair (λ x y pair. pair) known)

    from_number : (a : ℕ) → IsAnsweredFrom a 0
    from_number zero = from_first
    from_number (suc a) = next_number a (with_number a (from_number a) n)

    pub answer_by_more : (Pair : ℕ → ℕ → Type 0) → AreDecidedBelow n Pair → Answer Pair
    answer_by_more Pair known = from_number n Pair known above
      where
        above : (u v : ℕ) → IsFrom n 0 u v → IsSettled Pair u v
        above u v (inl over) More more known_more below_u below_v none = absurd (omega (arith, over, below_u))
        above u v (inr here) More more known_more below_u below_v none = (let same : n ≡ u = here.0 in absurd (omega (arith, same, below_u)))
