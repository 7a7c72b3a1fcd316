use Rattle.tso_rules.proofs.ReasonFacts.{past_ends, past_unmarked, past_no_ends, past_more, past_none}
use Rattle.std.proofs.Common.{sym, ◌∙◌}
use Rattle.tso_rules.proofs.reasons.least_load_past.Goals as goal
use Rattle.tso_rules.proofs.reasons.least_load_past.Goals.{else-reached-load-via-then-reached-load+else-is_some, else-reached-load-via-else-reached-load}

pub returns-then-is_some : goal.returns-then-is_some
returns-then-is_some c =
    (past_ends c.args.trace.now c.args.reached.now c.loop-load.load c.args.u c.args.v c.inferred_ends.result c.inferred_ends.ensures.is (sym c.is_some.ensures ∙ c.if-is_some.true) c.if-reached-load.true, c.loop-load.invariant)

pub loop-load-preserved : goal.loop-load-preserved
loop-load-preserved c =
    past_more c.args.trace.now c.args.reached.now c.loop-load.load c.args.u c.args.v c.loop-load.invariant (elim c.else-reached-load.branch [
      | else-reached-load-via-then-reached-load+else-is_some w ↦
          past_no_ends c.args.trace.now c.args.reached.now c.loop-load.load c.args.u c.args.v w.inferred_ends.result w.inferred_ends.ensures.none (sym w.is_some.ensures ∙ w.if-is_some.false)
      | else-reached-load-via-else-reached-load w ↦ past_unmarked c.args.trace.now c.args.reached.now c.loop-load.load c.args.u c.args.v w.if-reached-load.false
    ])

pub returns : goal.returns
returns c = past_none c.args.trace.now c.args.reached.now c.loop-load.load c.args.u c.args.v c.loop-load-test.false c.loop-load.invariant
