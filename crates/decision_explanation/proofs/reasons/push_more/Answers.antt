use Rattle.std.proofs.Common.{◌++◌, refl, string_bytes}
use Rattle.std.specs.Prelude.{codes}
use Rattle.std.specs.Fmt.{decimal}
use Rattle.trace_explanation.proofs.TextFacts.{edges-more}
use Rattle.decision_explanation.specs.InForce.{pair_number}
use Rattle.decision_explanation.specs.Internal.Standings.{standing_of}
use Rattle.decision_explanation.proofs.reasons.push_more.Goals as goal

pub loop-z-preserved : goal.loop-z-preserved
loop-z-preserved c =
    edges-more (λ edge. codes ", " ++ decimal (pair_number (standing_of c.args.state.now).pairs edge)) c.args.rest.now c.loop-z.z-index c.loop-z.previous _ (string_bytes c.loop-z.text) (string_bytes c.write.new.self) _
    c.loop-z-test.true refl (rw c.number-number.ensures at c.in_ok-write.ensures.bytes) c.loop-z.invariant
