use Rattle.std.proofs.Common.{◌∙◌, sym}
use Rattle.log_selections.proofs.SourceFacts.{distinct-none, distinct-push}
use Rattle.log_selections.proofs.known.is_distinct.Goals as goal

pub loop-k-init : goal.loop-k-init
loop-k-init c = distinct-none

pub loop-k-preserved : goal.loop-k-preserved
loop-k-preserved c = distinct-push c.args.addresses.now c.loop-k.k 0 c.loop-k-test.true c.loop-k.invariant (sym c.contains.ensures.value ∙ c.if-contains.false)
