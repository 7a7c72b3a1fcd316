use Rattle.std.proofs.Common.{length}
use Rattle.log_text.proofs.CutFacts.{IsGathered}
use Rattle.log_text.proofs.cutting.boundaries_of.Given as goal

abbrev pub invariant-lines : goal.invariant-lines
invariant-lines l = IsGathered l.text l.rest l.found

abbrev pub decreases-lines : goal.decreases-lines
decreases-lines l = length l.rest
