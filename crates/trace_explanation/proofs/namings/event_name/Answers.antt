use Rattle.trace_explanation.specs.Names.{event_name}
use Rattle.trace_explanation.proofs.namings.event_name.Goals as goal

pub returns-in_ok-said-in-Some : goal.returns-in_ok-said-in-Some
unfolding event_name
returns-in_ok-said-in-Some c = rw c.in-Some.is (rw (c.in_ok-said-in-Some.ensures, c.part_text-part.ensures) at c.format.ensures.ok)
