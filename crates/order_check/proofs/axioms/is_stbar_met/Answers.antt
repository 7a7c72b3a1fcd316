use Rattle.order_check.proofs.MetFacts.{stbar_met}
use Rattle.order_check.proofs.axioms.is_stbar_met.Goals as goal

pub returns : goal.returns
returns c = λ order passed at.
    stbar_met c.args.trace.now order c.args.v c.args.progress.now passed c.args.event at c.left_are_up_to.result c.processor_words.result.now c.processor_words.ensures c.place.result c.place.ensures
    (c.args.event, at, c.if-event.false) c.all_store_words.result.now c.stbar_words.result.now c.all_store_words.ensures c.stbar_words.ensures c.left_are_up_to.ensures
