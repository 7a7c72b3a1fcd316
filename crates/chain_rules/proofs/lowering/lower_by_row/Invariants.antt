use Rattle.std.proofs.Common.{◌≡◌, ℕ, ◌+◌, ◌<◌, ◌≤◌, min, get_or}
use Rattle.chain_rules.proofs.lowering.lower_by_row.Given as goal

-- the numbers below d were lowered; the others are as they were
abbrev pub invariant-loop-d : goal.invariant-loop-d
invariant-loop-d l =
    ((k : ℕ) → k < l.d → get_or l.least k 0 ≡ min (get_or l.initial.least k 0) (get_or l.table (l.start + k) 0))
    × ((k : ℕ) → l.d ≤ k → get_or l.least k 0 ≡ get_or l.initial.least k 0)
