use Rattle.std.proofs.Common.{vec_len}
use Rattle.tso_text.proofs.TextLaws.{only_memory, schedule_popped, schedule_laws, schedule_refusal}
use Rattle.tso_text.proofs.readers.read_schedule.Goals as goal

pub returns-in-Ok-clause-found : goal.returns-in-Ok-clause-found
returns-in-Ok-clause-found c =
    schedule_popped c.args.text.now c.in-Ok.lists.items (vec_len c.in-Ok.lists) c.pop.result c.new.result c.unwrap_or.result c.in-Ok.ensures.found c.in-Ok.lists.ok.0 c.pop.ensures.value c.unwrap_or.ensures

pub returns-in-Ok-clause-only : goal.returns-in-Ok-clause-only
returns-in-Ok-clause-only c acts spells = schedule_laws.one_value c.args.text.now c.unwrap_or.result.items acts (returns-in-Ok-clause-found c) spells

pub returns-clause-only : goal.returns-clause-only
returns-clause-only c acts spells = only_memory c.in-Err.fault.why (λ other. schedule_laws.not_both c.args.text.now acts _ _ spells (schedule_refusal c.args.text.now _ _ (c.in-Err.ensures.refused other)))

pub returns-clause-refused : goal.returns-clause-refused
returns-clause-refused c other = schedule_refusal c.args.text.now _ _ (c.in-Err.ensures.refused other)
