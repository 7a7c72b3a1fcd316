use Rattle.order_check.proofs.MetFacts.{load_op_met}
use Rattle.order_check.proofs.axioms.is_load_op_met.Goals as goal

pub returns : goal.returns
returns c = λ order passed at.
    load_op_met c.args.trace.now order c.args.v c.args.progress.now passed c.args.event at c.left_are_up_to.result c.processor_words-own.result.now c.processor_words-own.ensures c.place.result c.place.ensures
    c.all_store_words.result.now c.all_store_words.ensures c.left_are_up_to.ensures
