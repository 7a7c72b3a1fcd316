use Rattle.std.proofs.Common.{◌≤◌, ◌-◌, length}
use Rattle.tso_ops.specs.Values.{rows}
use Rattle.outcome_reports.specs.Internal.Counting.{AreRising, IsBetween}
use Rattle.outcome_reports.proofs.places.first_from.Given as goal

abbrev pub invariant-loop-start : goal.invariant-loop-start
invariant-loop-start l = record {
  order : l.start ≤ l.end;
  within : l.end ≤ length l.keys;
  between : AreRising (rows l.keys) → IsBetween (rows l.keys) l.values l.start l.end;
}

abbrev pub decreases-loop-start : goal.decreases-loop-start
decreases-loop-start l = l.end - l.start
