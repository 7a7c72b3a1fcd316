use Rattle.std.proofs.Common.{◌≡◌, ◌+◌, ◌<◌, ℕ, length, get_or}
use Rattle.round_pool.proofs.worksets.all_rows.Given as goal

-- the numbers up to the one that was reached are listed
abbrev pub invariant-loop-u : goal.invariant-loop-u
invariant-loop-u l = (length l.numbers.items ≡ l.u) × ((k : ℕ) → k < l.u → get_or l.numbers.items k 0 ≡ k + 1)
