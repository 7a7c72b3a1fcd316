use Rattle.std.proofs.Common.{refl, arith}
use Rattle.std.proofs.lemmas.Option.{slice_get_within}
use Rattle.order_check.proofs.PlaceFacts.{no_event_more}
use Rattle.order_check.proofs.places.first_no_event.Goals as goal

pub loop-k-preserved : goal.loop-k-preserved
loop-k-preserved c = no_event_more c.args.trace.now c.args.order.now c.loop-k.k c.loop-k-test.true (c.if-not-is_event.ensures.0 refl) c.loop-k.invariant

pub returns : goal.returns
returns c = λ k absent. c.loop-k.invariant k (omega (arith, slice_get_within c.args.order.now k absent.0 absent.1, c.loop-k-test.false)) absent
