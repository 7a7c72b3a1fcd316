use Rattle.std.proofs.Common.{◌∙◌, sym, ap, Some}
use Rattle.std.proofs.lemmas.Option.{slice_get-get_or}
use Rattle.issue_desk.proofs.AgreementFacts.{agree-next}
use Rattle.issue_desk.proofs.agreement.first_torn.Goals as goal

pub loop-p-preserved : goal.loop-p-preserved
loop-p-preserved c =
    agree-next c.args.steps.now c.args.program.now c.args.passes.now c.loop-p.p c.index-passes-p.result
    (slice_get-get_or c.args.passes.now c.loop-p.p c.index-passes-p.result c.loop-p-test.true ∙ ap Some (sym c.index-passes-p.is)) (c.agrees.ensures.0 c.if-not-agrees.false) c.loop-p.invariant
