-- Lemmas on the small lines of boxes.
use Rattle.std.proofs.Common.{ℕ, ◌≤◌, List, length, take, arith}
use Rattle.std.proofs.lemmas.List.{length-take}

-- no more are taken than are asked for
pub taken-most : {X : Type 0} (n : ℕ) (xs : List X) → length (take n xs) ≤ n
taken-most n xs = let count = length-take n xs in omega (arith, count)
