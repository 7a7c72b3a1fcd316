use Rattle.std.proofs.Common.{◌≡◌, ◌⊎◌, ◌<◌, ◌+◌, inl, inr, get_or, arith}
use Rattle.std.proofs.lemmas.Option.{slice_get_within}
use Rattle.log_order_check.proofs.PlaceFacts.{event_more, no_event_here, within_more}
use Rattle.log_order_check.proofs.places.first_no_event.Goals as goal
use Rattle.log_order_check.proofs.places.first_no_event.Goals.{then-number-eq0-via-then-number-eq0, then-number-eq0-via-else-number-eq0+then-number-count}

pub returns-then-number-eq0-clause-told : goal.returns-then-number-eq0-clause-told
returns-then-number-eq0-clause-told c = λ t total.
    let order = c.args.order.now in
    let k = c.loop-k.k in
    let out : (get_or order k 0 ≡ 0) ⊎ (c.args.count < get_or order k 0) = elim c.then-number-eq0.branch [
      | then-number-eq0-via-then-number-eq0 w ↦ inl (omega (arith, w.if-number-eq0.true))
      | then-number-eq0-via-else-number-eq0+then-number-count w ↦ inr (omega (arith, w.if-number-count.true))
    ] in
    (no_event_here t order k c.loop-k-test.true (rw total out), c.loop-k.invariant.events t total)

pub loop-k-preserved : goal.loop-k-preserved
loop-k-preserved c =
    let order = c.args.order.now in
    let k = c.loop-k.k in
    record {
      events = λ t total. event_more t order k c.loop-k-test.true (omega (arith, c.if-number-eq0.false)) (omega (arith, c.if-number-count.false, total)) (c.loop-k.invariant.events t total);
      within = within_more order k (c.args.count + 1) c.loop-k-test.true (omega (arith, c.if-number-count.false)) c.loop-k.invariant.within;
    }

pub returns-clause-told : goal.returns-clause-told
returns-clause-told c = λ t total k absent.
    c.loop-k.invariant.events t total k (omega (arith, slice_get_within c.args.order.now k absent.0 absent.1, c.loop-k-test.false)) absent

pub returns-clause-within : goal.returns-clause-within
returns-clause-within c = λ k n at. c.loop-k.invariant.within k n (omega (arith, slice_get_within c.args.order.now k n at, c.loop-k-test.false)) at
