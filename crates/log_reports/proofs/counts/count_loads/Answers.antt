use Rattle.std.proofs.Common.{◌∙◌, ◌+◌, ap, arith}
use Rattle.log_reports.proofs.CountFacts.{loads_more}
use Rattle.log_reports.proofs.counts.count_loads.Goals as goal

pub loop-logged-preserved : goal.loop-logged-preserved
loop-logged-preserved c = (
  ap (λ n. c.loop-logged.loads + n) c.loads_by-loads.ensures.count ∙ loads_more c.args.list.now c.loop-logged.logged-index _ c.loop-logged.loads c.loop-logged-test.true c.loop-logged.invariant.0,
  omega (arith, c.loads_by-loads.ensures.most, c.loop-logged.invariant.1),
)
