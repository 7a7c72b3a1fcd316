use Rattle.std.proofs.lemmas.Bool.{not-false}
use Rattle.order_check.proofs.MetFacts.{membar_met}
use Rattle.order_check.proofs.axioms.is_membar_met.Goals as goal

pub returns : goal.returns
returns c = λ order passed at.
    membar_met c.args.trace.now order c.args.v c.args.progress.now passed c.args.event at c.left_are_up_to.result c.processor_words.result.now c.processor_words.ensures c.place.result c.place.ensures
    (c.args.event, at, not-false c.args.event.load c.if-not-event.false) c.all_store_words.result.now c.barrier_words.result.now c.all_store_words.ensures c.barrier_words.ensures c.left_are_up_to.ensures
