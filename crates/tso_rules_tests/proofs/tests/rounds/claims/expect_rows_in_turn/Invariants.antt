use Rattle.std.proofs.Common.{◌≡◌, length, All}
use Rattle.round_pool.specs.Claims.{IsOf}
use Rattle.tso_rules_tests.proofs.tests.rounds.claims.expect_rows_in_turn.Given as goal

abbrev pub invariant-loop-k : goal.invariant-loop-k
invariant-loop-k g l = All (IsOf l.claims) l.claimants × (length l.claimants ≡ length l.initial.claimants)
