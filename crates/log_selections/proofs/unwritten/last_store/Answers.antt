use Rattle.std.proofs.Common.{arith, ◌≤◌}
use Rattle.log_selections.proofs.StoreFacts.{extreme_all, extreme_step}
use Rattle.log_selections.proofs.unwritten.last_store.Goals as goal

pub loop-store-preserved : goal.loop-store-preserved
loop-store-preserved c =
    extreme_step (λ x y. y.line ≤ x.line) (λ x y z low high. omega (arith, low, high)) c.args.stores.now c.loop-store.store-index _ c.loop-store.last c.later-last.result
    c.loop-store-test.true c.later-last.ensures.either c.later-last.ensures.last.0 c.later-last.ensures.last.1 c.loop-store.invariant

pub returns : goal.returns
returns c = extreme_all (λ x y. y.line ≤ x.line) c.args.stores.now c.loop-store.store-index c.loop-store.last c.loop-store-test.false c.loop-store.invariant
