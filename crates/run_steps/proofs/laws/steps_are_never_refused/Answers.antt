use Rattle.run_steps.proofs.StepFacts.{refused_exactly, step_leads}
use Rattle.run_steps.proofs.laws.steps_are_never_refused.Goals as goal

pub returns-clause-exactly : goal.returns-clause-exactly
returns-clause-exactly c = refused_exactly

pub returns-clause-leads : goal.returns-clause-leads
returns-clause-leads c = step_leads
