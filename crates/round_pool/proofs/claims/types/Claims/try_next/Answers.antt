use Rattle.std.proofs.Common.{◌+◌, length, sym, subst, arith}
use mathlib.Core.Option.{none}
use Rattle.atomic_table.specs.Table.{step, Allows}
use Rattle.round_pool.specs.Claims.{rows_to_claim}
use Rattle.round_pool.specs.Internal.ClaimTable.{KeepsClaims, tries}
use Rattle.round_pool.proofs.ClaimFacts.{tries_at}
use Rattle.round_pool.proofs.claims.types.Claims.try_next.Goals as goal

pub swap-found-requires : goal.swap-found-requires
swap-found-requires c =
    let claims = c.args.self.now in
    let claimant = c.args.claimant.now in
    let tries_is = claimant.tries in
    let words = claims.words in
    let low = c.requires.some in (
      c.requires.own.table,
      omega (arith, words, low),
      subst (λ n. Allows (KeepsClaims n) claims.table.shared.table_id.slots claimant.seat.id claimant.seat.me (claimant.tried + 1) (λ _. 1) (tries (step claims.table.shared.table_id.slots (claimant.tried + 1) 1 0 none) claimant.seat.me))
          (sym claims.places)
          (tries_at (length (rows_to_claim claims)) claims.table.shared.table_id.slots claimant.seat.id claimant.seat.me (claimant.tried + 1) (omega (arith, tries_is)) (omega (arith, tries_is, low)) c.requires.own.some),
    )
