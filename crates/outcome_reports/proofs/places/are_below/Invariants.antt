use Rattle.std.proofs.Common.{◌≡◌, take}
use Rattle.outcome_reports.proofs.places.are_below.Given as goal

abbrev pub invariant-loop-i : goal.invariant-loop-i
invariant-loop-i l = take l.i l.one ≡ take l.i l.other
