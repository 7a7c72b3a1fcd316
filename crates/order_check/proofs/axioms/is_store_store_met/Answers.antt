use Rattle.order_check.proofs.MetFacts.{store_store_met}
use Rattle.order_check.proofs.axioms.is_store_store_met.Goals as goal

pub returns : goal.returns
returns c = λ order passed at.
    store_store_met c.args.trace.now order c.args.v c.args.progress.now passed c.args.event at c.left_are_up_to.result c.processor_words.result.now c.processor_words.ensures c.place.result c.place.ensures
    (c.args.event, at, c.if-event.false) c.kept_stores.result.now (c.kept_stores.ensures c.args.v at) c.left_are_up_to.ensures
