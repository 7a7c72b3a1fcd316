use Rattle.tso_text.proofs.KindFacts.{trace_kept}
use Rattle.tso_text.proofs.TextLaws.{only_memory, trace_read, trace_laws, trace_refusal}
use Rattle.tso_text.proofs.readers.read_trace.Goals as goal

pub of_lists-requires : goal.of_lists-requires
of_lists-requires c = trace_kept _ _ c.in-Ok.ensures.setting c.in-Ok.ensures.kept

pub returns-in-Ok-of_lists-clause-found : goal.returns-in-Ok-of_lists-clause-found
returns-in-Ok-of_lists-clause-found c = trace_read c.args.text.now _ _ _ c.in-Ok.ensures.says c.in-Ok.ensures.found c.in-Ok-of_lists.ensures

pub returns-in-Ok-of_lists-clause-only : goal.returns-in-Ok-of_lists-clause-only
returns-in-Ok-of_lists-clause-only c t spells = trace_laws.one_value c.args.text.now _ t (returns-in-Ok-of_lists-clause-found c) spells

pub returns-in-Err-clause-only : goal.returns-in-Err-clause-only
returns-in-Err-clause-only c t spells = only_memory c.in-Err.fault.why (λ other. trace_laws.not_both c.args.text.now t _ _ spells (trace_refusal c.args.text.now _ _ (c.in-Err.ensures.refused other)))

pub returns-in-Err-clause-refused : goal.returns-in-Err-clause-refused
returns-in-Err-clause-refused c other = trace_refusal c.args.text.now _ _ (c.in-Err.ensures.refused other)
