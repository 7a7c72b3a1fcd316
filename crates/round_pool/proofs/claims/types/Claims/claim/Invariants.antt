use Rattle.std.proofs.Common.{◌≡◌, ◌-◌, ◌≤◌, length}
use Rattle.round_pool.specs.Claims.{rows_to_claim, places_of, tried_by, claimant_parts, IsOf}
use Rattle.round_pool.proofs.claims.types.Claims.claim.Given as goal

-- places that others have claimed were tried
abbrev pub invariant-loop-claimant : goal.invariant-loop-claimant
invariant-loop-claimant l =
    IsOf l.self l.claimant × (claimant_parts l.claimant ≡ claimant_parts l.initial.claimant) × (places_of l.claimant ≡ places_of l.initial.claimant)
    × (tried_by l.initial.claimant ≤ tried_by l.claimant)

abbrev pub decreases-loop-claimant : goal.decreases-loop-claimant
decreases-loop-claimant l = length (rows_to_claim l.self) - tried_by l.claimant
