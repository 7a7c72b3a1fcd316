use Rattle.std.proofs.Common.{◌∙◌, sym}
use Rattle.outcome_reports.proofs.LineFacts.{no_more_value, one_more_value}
use Rattle.outcome_reports.proofs.lines.push_values.Goals as goal
use Rattle.outcome_reports.proofs.lines.push_values.Goals.{in-Some+in_ok-push_read-in-Some, in-None}

pub loop-outcome-preserved : goal.loop-outcome-preserved
loop-outcome-preserved c =
    elim c.match-read_by.branch [
      | in-Some+in_ok-push_read-in-Some w ↦
          rw (w.text-is, w.begun-is, w.number-is)
          (one_more_value _ _ _ c.args.outcomes.now _ _ _ _ _ c.loop-outcome.invariant c.loop-outcome-test.true w.in-Some.value _ _ (sym c.read_by.ensures ∙ w.in-Some.is) w.in_ok-push_read-in-Some.ensures)
      | in-None w ↦
          rw (w.text-is, w.begun-is, w.number-is)
          (no_more_value _ _ _ c.args.outcomes.now _ _ _ _ _ c.loop-outcome.invariant c.loop-outcome-test.true (sym c.read_by.ensures ∙ w.in-None.is))
    ]
