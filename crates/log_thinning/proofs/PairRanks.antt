-- Ranks that are made of two: the first counts, and the second where the first are the same.
use Rattle.std.proofs.Common.{◌≡◌, ℕ, suc, ◌+◌, ◌*◌, ◌<◌, ◌≤◌, inl, inr, ap, arith}
use Rattle.std.proofs.Math.Nat.{mul-le-mul_right}
use Rattle.std.proofs.lemmas.Bool.{cases_lt}

-- neither is higher
pub pair_up : (bound a b p q : ℕ) → a ≤ b → p ≤ q → a * bound + p ≤ b * bound + q
pair_up bound a b p q first second = let whole = mul-le-mul_right bound first in omega (arith, whole, second)

-- the first of one isn't higher where the whole isn't
pub pair_first : (bound a b p q : ℕ) → q < bound → a * bound + p ≤ b * bound + q → a ≤ b
pair_first bound a b p q below low = elim (cases_lt b a) [
  | inr up ↦ up
  | inl less ↦ absurd (
      let next : suc b ≤ a = omega (arith, less) in
      let whole : suc b * bound ≤ a * bound = mul-le-mul_right bound next in
      let more : suc b * bound ≡ b * bound + bound = omega arith in
      omega (arith, whole, more, below, low)
      )
]

-- nor is the second, where the first are the same
pub pair_second : (bound a b p q : ℕ) → a ≡ b → a * bound + p ≤ b * bound + q → p ≤ q
pair_second bound a b p q same low = let whole : a * bound ≡ b * bound = ap (λ n. n * bound) same in omega (arith, whole, low)
