use Rattle.outcome_reports.specs.Outcomes.{IsOutcomes}
use Rattle.outcome_reports.proofs.SaidFacts.{said_of_program, said_of_refusal}
use Rattle.outcome_reports.proofs.listing.read_outcomes.Goals as goal

pub returns-in-Ok-clause-said : goal.returns-in-Ok-clause-said
returns-in-Ok-clause-said g c =
    said_of_program (IsOutcomes c.args.options) (g.P.Read.remaining c.args.programs.now) _ _ _ _ c.in-Ok.program c.in_ok-input.ensures.prefix c.deref.ensures.value c.in-Ok.ensures.found c.in_ok-outcomes_of-in-Ok.ensures

pub returns-clause-said : goal.returns-clause-said
returns-clause-said g c =
    let told = c.in_ok-refused_program-in-Err.ensures in
    said_of_refusal (IsOutcomes c.args.options) (g.P.Read.remaining c.args.programs.now) _ _ _ _ c.in-Err.fault c.in_ok-input.ensures.prefix c.deref.ensures.value c.in-Err.ensures.refused told.why told.line told.refused
