use Rattle.std.proofs.Common.{◌≡◌, ◌+◌, length, sum_by, All}
use Rattle.round_pool.specs.Claims.{claimant_parts, IsFresh}
use Rattle.round_pool.specs.ClaimCounts.{all_parts}
use Rattle.round_pool.proofs.claims.types.Claims.claimants.Given as goal

-- the claimants made have a part each, and the last one the rest
abbrev pub invariant-loop : goal.invariant-loop
invariant-loop l =
    IsFresh l.self l.last × All (IsFresh l.self) l.claimants.items × (sum_by claimant_parts l.claimants.items + claimant_parts l.last ≡ all_parts)
    × (claimant_parts l.last + l.counter ≡ all_parts + 1) × (length l.claimants.items + 1 ≡ l.counter)
