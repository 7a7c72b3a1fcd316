-- A list of numbers, restricted to the origins of other numbers, and renamed to these.
use Rattle.std.proofs.Common.{◌≡◌, ◌⊎◌, ◌↔◌, ℕ, suc, true, List, [], ◌∷◌, inl, inr, sym, refl, ap, subst, ◌∙◌, arith, eqb}
use Rattle.std.proofs.lemmas.Bool.{cases_eq, eq-eqb}
use Rattle.order_paths.proofs.Decisions.{Decision}
use Rattle.tso_model.specs.Axioms.{occurrences, place, IsUpTo}
use Rattle.tso_model.proofs.Places.{place-here, place-later, occurrences-later}

-- The kept numbers have origins of their own, and whether a number is the origin of one is decided.
pub record HasOrigins (Kept : ℕ → Type 0) (origin : ℕ → ℕ) : Type 0 where
  pub once : (u v : ℕ) → Kept u → Kept v → origin u ≡ origin v → u ≡ v
  pub decided : (x : ℕ) → Decision ((n : ℕ) × Kept n × (origin n ≡ x))

-- the number that was found, before the rest
abbrev pub found_before : (Kept : ℕ → Type 0) (origin : ℕ → ℕ) (x : ℕ) → Decision ((n : ℕ) × Kept n × (origin n ≡ x)) → List ℕ → List ℕ
found_before Kept origin x (inl found) rest = found.0 ∷ rest
found_before Kept origin x (inr none) rest = rest

-- the kept numbers whose origins stand in the list, in the order of these
abbrev pub restriction : (Kept : ℕ → Type 0) (origin : ℕ → ℕ) → HasOrigins Kept origin → List ℕ → List ℕ
restriction Kept origin origins [] = []
restriction Kept origin origins (x ∷ rest) = found_before Kept origin x (origins.decided x) (restriction Kept origin origins rest)

-- the first number occurs once more than in the rest
occurrences-here : (n x : ℕ) (rest : List ℕ) → x ≡ n → occurrences n (x ∷ rest) ≡ suc (occurrences n rest)
occurrences-here n x rest same = let test : eqb x n ≡ true = eq-eqb x n same in rw test

module _ (Kept : ℕ → Type 0) (origin : ℕ → ℕ) (origins : HasOrigins Kept origin) where
  -- a kept number occurs as often as its origin does in the list
  pub restriction-kept : (order : List ℕ) (n : ℕ) → Kept n → occurrences n (restriction Kept origin origins order) ≡ occurrences (origin n) order
  restriction-kept [] n kept = refl
  restriction-kept (x ∷ rest) n kept = by_cases (origins.decided x) (restriction-kept rest n kept)
    where
      by_cases : (found : Decision ((m : ℕ) × Kept m × (origin m ≡ x))) → occurrences n (restriction Kept origin origins rest) ≡ occurrences (origin n) rest →
          occurrences n (found_before Kept origin x found (restriction Kept origin origins rest)) ≡ occurrences (origin n) (x ∷ rest)
      by_cases (inl found) in_rest = elim (cases_eq found.0 n) [
        | inl same ↦ (
            occurrences-here n found.0 (restriction Kept origin origins rest) same
            ∙ ap suc in_rest
            ∙ sym (occurrences-here (origin n) x rest (sym found.2 ∙ ap origin same))
            )
        | inr other ↦ (
            occurrences-later n found.0 (restriction Kept origin origins rest) other
            ∙ in_rest
            ∙ sym (occurrences-later (origin n) x rest (λ same. other (origins.once found.0 n found.1 kept (found.2 ∙ same))))
            )
      ]
      by_cases (inr none) in_rest = in_rest ∙ sym (occurrences-later (origin n) x rest (λ same. none (n, kept, sym same)))

  -- another number doesn't occur
  pub restriction-others : (order : List ℕ) (n : ℕ) → (Kept n → ⊥) → occurrences n (restriction Kept origin origins order) ≡ 0
  restriction-others [] n out = refl
  restriction-others (x ∷ rest) n out = by_cases (origins.decided x) (restriction-others rest n out)
    where
      by_cases : (found : Decision ((m : ℕ) × Kept m × (origin m ≡ x))) → occurrences n (restriction Kept origin origins rest) ≡ 0 →
          occurrences n (found_before Kept origin x found (restriction Kept origin origins rest)) ≡ 0
      by_cases (inl found) in_rest =
          occurrences-later n found.0 (restriction Kept origin origins rest) (λ same. out (subst Kept same found.1)) ∙ in_rest
      by_cases (inr none) in_rest = in_rest

  -- where a kept number and its origin stand, with a kept number before the one list and its origin before the other
  places : (m x : ℕ) (small rest : List ℕ) (n : ℕ) → Kept m → origin m ≡ x → Kept n →
      ((place (m ∷ small) n ≡ 0) × (place (x ∷ rest) (origin n) ≡ 0))
      ⊎ ((place (m ∷ small) n ≡ suc (place small n)) × (place (x ∷ rest) (origin n) ≡ suc (place rest (origin n))))
  places m x small rest n kept_m is kept_n = elim (cases_eq m n) [
    | inl same ↦ inl (place-here m small n same, place-here x rest (origin n) (sym is ∙ ap origin same))
    | inr other ↦ inr (place-later m small n other, place-later x rest (origin n) (λ same. other (origins.once m n kept_m kept_n (is ∙ same))))
  ]

  -- of two kept numbers one stands no later than the other exactly where their origins do
  pub restriction-up_to : (order : List ℕ) (u v : ℕ) → Kept u → Kept v →
      IsUpTo (restriction Kept origin origins order) u v ↔ IsUpTo order (origin u) (origin v)
  restriction-up_to [] u v kept_u kept_v = (λ up_to. omega arith, λ up_to. omega arith)
  restriction-up_to (x ∷ rest) u v kept_u kept_v = by_cases (origins.decided x) (restriction-up_to rest u v kept_u kept_v)
    where
      by_places : (m : ℕ) (small : List ℕ) → IsUpTo small u v ↔ IsUpTo rest (origin u) (origin v) →
          ((place (m ∷ small) u ≡ 0) × (place (x ∷ rest) (origin u) ≡ 0))
          ⊎ ((place (m ∷ small) u ≡ suc (place small u)) × (place (x ∷ rest) (origin u) ≡ suc (place rest (origin u)))) →
          ((place (m ∷ small) v ≡ 0) × (place (x ∷ rest) (origin v) ≡ 0))
          ⊎ ((place (m ∷ small) v ≡ suc (place small v)) × (place (x ∷ rest) (origin v) ≡ suc (place rest (origin v)))) →
          IsUpTo (m ∷ small) u v ↔ IsUpTo (x ∷ rest) (origin u) (origin v)
      by_places m small alike (inl first) second = (λ up_to. omega (arith, first.1), λ up_to. omega (arith, first.0))
      by_places m small alike (inr first) (inl second) = (λ up_to. absurd (omega (arith, up_to, first.0, second.0)), λ up_to. absurd (omega (arith, up_to, first.1, second.1)))
      by_places m small alike (inr first) (inr second) = (
        λ up_to. let below = alike.0 (omega (arith, up_to, first.0, second.0)) in omega (arith, below, first.1, second.1),
        λ up_to. let below = alike.1 (omega (arith, up_to, first.1, second.1)) in omega (arith, below, first.0, second.0),
      )

      by_cases : (found : Decision ((m : ℕ) × Kept m × (origin m ≡ x))) →
          IsUpTo (restriction Kept origin origins rest) u v ↔ IsUpTo rest (origin u) (origin v) →
          IsUpTo (found_before Kept origin x found (restriction Kept origin origins rest)) u v ↔ IsUpTo (x ∷ rest) (origin u) (origin v)
      by_cases (inl found) alike =
          by_places found.0 (restriction Kept origin origins rest) alike
          (places found.0 x (restriction Kept origin origins rest) rest u found.1 found.2 kept_u)
          (places found.0 x (restriction Kept origin origins rest) rest v found.1 found.2 kept_v)
      by_cases (inr none) alike =
          let first = place-later x rest (origin u) (λ same. none (u, kept_u, sym same)) in
          let second = place-later x rest (origin v) (λ same. none (v, kept_v, sym same)) in
          (λ up_to. let below = alike.0 up_to in omega (arith, below, first, second), λ up_to. alike.1 (omega (arith, up_to, first, second)))
