use Rattle.std.proofs.Common.{arith}
use Rattle.round_pool.proofs.ClaimFacts.{splits}
use Rattle.round_pool.proofs.claims.types.Claims.split.Goals as goal

pub split_seat-seat-requires : goal.split_seat-seat-requires
split_seat-seat-requires c =
    let claims = c.args.self.now in
    let seat = c.args.claimant.now.seat in
    let words = claims.words in
    (c.requires.fresh.own.table, omega (arith, words), splits claims.table.shared.key seat.id seat.me.0 c.requires.some)
