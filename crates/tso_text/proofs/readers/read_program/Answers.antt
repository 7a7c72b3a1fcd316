use Rattle.tso_text.proofs.TextLaws.{only_memory, program_read, program_laws, program_refusal}
use Rattle.tso_text.proofs.readers.read_program.Goals as goal

pub returns-in-Ok-clause-found : goal.returns-in-Ok-clause-found
returns-in-Ok-clause-found c = program_read c.args.text.now _ _ _ c.in-Ok.ensures.says c.in-Ok.ensures.found c.of_lists.ensures

pub returns-in-Ok-clause-only : goal.returns-in-Ok-clause-only
returns-in-Ok-clause-only c p spells = program_laws.one_value c.args.text.now _ p (returns-in-Ok-clause-found c) spells

pub returns-in-Err-clause-only : goal.returns-in-Err-clause-only
returns-in-Err-clause-only c p spells = only_memory c.in-Err.fault.why (λ other. program_laws.not_both c.args.text.now p _ _ spells (program_refusal c.args.text.now _ _ (c.in-Err.ensures.refused other)))

pub returns-in-Err-clause-refused : goal.returns-in-Err-clause-refused
returns-in-Err-clause-refused c other = program_refusal c.args.text.now _ _ (c.in-Err.ensures.refused other)
