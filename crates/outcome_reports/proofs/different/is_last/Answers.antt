use Rattle.std.proofs.Common.{List, ap}
use Rattle.std.specs.Global.{Vec}
use Rattle.tso_ops.specs.declared.ops.Outcome.{Outcome}
use Rattle.tso_ops.specs.Values.{rows}
use Rattle.outcome_reports.proofs.TraceListFacts.{last-Decides}
use Rattle.outcome_reports.proofs.different.is_last.Goals as goal

pub returns-in-Some : goal.returns-in-Some
returns-in-Some c =
    last-Decides c.args.traces.now c.in-Some.last.now (rows c.args.lists.now) (rows c.deref.result.now) c.are_same.result c.in-Some.ensures.value (ap (λ (lists : List (Vec Outcome)). rows lists) c.deref.ensures.value) c.are_same.ensures
