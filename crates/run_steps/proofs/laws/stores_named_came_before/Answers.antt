use Rattle.run_steps.proofs.NameFacts.{after, begins, preset, refusal_weaker, refused, state_weaker}
use Rattle.run_steps.proofs.laws.stores_named_came_before.Goals as goal

pub returns-clause-begins : goal.returns-clause-begins
returns-clause-begins c = begins

pub returns-clause-preset : goal.returns-clause-preset
returns-clause-preset c = preset

pub returns-clause-after : goal.returns-clause-after
returns-clause-after c = after

pub returns-clause-refused : goal.returns-clause-refused
returns-clause-refused c = refused

pub returns-clause-weaker : goal.returns-clause-weaker
returns-clause-weaker c among others s weaker names = state_weaker among others weaker s names

pub returns-clause-weaker_refusal : goal.returns-clause-weaker_refusal
returns-clause-weaker_refusal c among others refusal weaker names = refusal_weaker among others weaker refusal names
