use Rattle.std.proofs.Common.{take, All}
use Rattle.refutation_check.specs.Refusals.{IsLineUpTo}
use Rattle.refutation_check.proofs.ranges.are_lines_up_to.Given as goal

abbrev pub invariant-loop-line : goal.invariant-loop-line
invariant-loop-line l = All (IsLineUpTo l.last) (take l.line-index l.lines)
