use Rattle.std.proofs.Common.{◌+◌, ◌<◌, ◌∙◌, get_or, length, arith}
use Rattle.std.proofs.lemmas.List.{length-set}
use Rattle.std.proofs.lemmas.Option.{slice_get-get_or}
use Rattle.order_check.proofs.PlaceFacts.{distinct_more, places_next}
use Rattle.log_order_check.proofs.places.enter_places.Goals as goal

pub loop-k-preserved : goal.loop-k-preserved
loop-k-preserved c =
    let order = c.args.order.now in
    let k = c.loop-k.k in
    let before = c.loop-k.invariant in
    let within : get_or order k 0 < length c.loop-k.places = omega (arith, c.requires.within k (get_or order k 0) (slice_get-get_or order k 0 c.loop-k-test.true), before.long) in
    record {
      long = length-set c.loop-k.places (get_or order k 0) (k + 1) ∙ before.long;
      has = places_next order c.loop-k.places k c.loop-k-test.true within before.has (omega (arith, c.if-places-n-ne0.false));
      distinct = distinct_more order c.loop-k.places k c.loop-k-test.true within before.has (omega (arith, c.if-places-n-ne0.false)) before.distinct;
    }
