use Rattle.std.proofs.Common.{◌<◌, length, arith}
use Rattle.std.proofs.lemmas.Option.{slice_get-get_or}
use Rattle.issue_desk.proofs.AgreementFacts.{ops-next}
use Rattle.issue_desk.proofs.agreement.are_of_ops.Goals as goal

pub loop-k-preserved : goal.loop-k-preserved
loop-k-preserved c =
    let within : c.loop-k.k < length c.args.outcomes.now = omega (arith, c.loop-k-test.true, c.if-outcomes-ops.false) in
    ops-next c.args.outcomes.now c.args.ops.now c.loop-k.k _ _ (slice_get-get_or c.args.outcomes.now c.loop-k.k _ within) (slice_get-get_or c.args.ops.now c.loop-k.k _ c.loop-k-test.true)
    (c.is_of_op.ensures.0 c.if-not-is_of_op.false) c.loop-k.invariant
