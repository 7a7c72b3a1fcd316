-- Lemmas on processors after a store reached memory.
use Rattle.std.proofs.Common.{◌≡◌, ◌<◌, ◌==◌, ◌++◌, ap, ℕ, zero, suc, cond, List, [], ◌∷◌, length, get_or, set, take, drop, arith}
use Rattle.run_steps.specs.declared.places.Place.{Place}
use Rattle.run_steps.specs.declared.processors.Taken.{Taken}
use Rattle.run_steps.specs.Machine.{ProcessorState, processors_after, idle, without_reserved}

module _ (p : ℕ) (place : Place) (by : Taken) where
  -- those passed are as they shall be, and one more is
  pub processors_after-next : (n q : ℕ) (xs : List ProcessorState) (y : ProcessorState) → q < length xs → y ≡ cond (n == p) (get_or xs q idle) (without_reserved place by (get_or xs q idle)) →
      take (suc q) (set xs q y) ++ processors_after p place by (suc n) (drop (suc q) (set xs q y)) ≡ take q xs ++ processors_after p place by n (drop q xs)
  processors_after-next n q [] y within is = absurd (omega (arith, within))
  processors_after-next n zero (x ∷ xs) y within is = ap (λ z. z ∷ processors_after p place by (suc n) xs) is
  processors_after-next n (suc q) (x ∷ xs) y within is = ap (λ zs. x ∷ zs) (processors_after-next n q xs y (omega (arith, within)) is)
