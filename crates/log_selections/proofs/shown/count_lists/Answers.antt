use Rattle.log_selections.specs.Shown.{counted_of}
use Rattle.log_selections.proofs.ShownFacts.{count_more}
use Rattle.log_selections.proofs.shown.count_lists.Goals as goal

pub loop-p-preserved : goal.loop-p-preserved
loop-p-preserved c = count_more (counted_of c.args.shown.now) c.loop-p.lists.items c.push.new.self.items c.in_ok-count_list.field-0 c.loop-p.p c.in_ok-push.ensures.items c.in_ok-count_list.ensures c.loop-p.invariant
