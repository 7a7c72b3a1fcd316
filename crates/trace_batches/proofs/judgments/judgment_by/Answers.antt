use Rattle.trace_batches.proofs.JudgmentFacts.{found_some}
use Rattle.trace_batches.proofs.judgments.judgment_by.Goals as goal

pub returns-in_ok-body-in-Some : goal.returns-in_ok-body-in-Some
returns-in_ok-body-in-Some c =
    found_some c.args.trace.now c.args.finding.now c.args.explains c.in-Some.field-0 c.in_ok-body-in-Some.body c.requires c.in-Some.is c.in_ok-body-in-Some.ensures
