use Rattle.std.proofs.Common.{arith, ◌≤◌}
use Rattle.log_selections.proofs.StoreFacts.{extreme_all, extreme_step}
use Rattle.log_selections.proofs.unwritten.first_store.Goals as goal

pub loop-store-preserved : goal.loop-store-preserved
loop-store-preserved c =
    extreme_step (λ x y. x.line ≤ y.line) (λ x y z low high. omega (arith, low, high)) c.args.stores.now c.loop-store.store-index _ c.loop-store.first c.earlier-first.result
    c.loop-store-test.true c.earlier-first.ensures.either c.earlier-first.ensures.first.0 c.earlier-first.ensures.first.1 c.loop-store.invariant

pub returns : goal.returns
returns c = extreme_all (λ x y. x.line ≤ y.line) c.args.stores.now c.loop-store.store-index c.loop-store.first c.loop-store-test.false c.loop-store.invariant
