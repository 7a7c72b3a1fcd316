use Rattle.std.proofs.Common.{length}
use Rattle.log_text.proofs.OriginFacts.{AreOriginsSoFar}
use Rattle.log_text.proofs.origins.read_cut_origins.Given as goal

abbrev pub invariant-lines : goal.invariant-lines
invariant-lines l = AreOriginsSoFar l.text l.cutting l.rest l.origins

abbrev pub decreases-lines : goal.decreases-lines
decreases-lines l = length l.rest
