use Rattle.std.proofs.Common.{◌≡◌, ◌+◌, ◌*◌, ◌<◌, ℕ, length, get_or}
use Rattle.tso_rules_tests.proofs.tests.rounds.claims.claims_of.Given as goal

-- the rows so far are 2, 4 and so on
abbrev pub invariant-loop-i : goal.invariant-loop-i
invariant-loop-i l = (length l.rows.items ≡ l.i) × ((k d : ℕ) → k < length l.rows.items → get_or l.rows.items k d ≡ 2 * k + 2)
