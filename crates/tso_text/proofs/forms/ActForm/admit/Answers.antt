use Rattle.std.proofs.Common.{arith}
use Rattle.tso_text.proofs.FaultFacts.{act_clean, act_refused_for}
use Rattle.tso_text.proofs.forms.ActForm.admit.Goals as goal

pub returns-then-processor_of-gt-MAX_PROCESSOR-clause-refused : goal.returns-then-processor_of-gt-MAX_PROCESSOR-clause-refused
returns-then-processor_of-gt-MAX_PROCESSOR-clause-refused c items kept = act_refused_for items c.args.self (omega (arith, c.processor_of.ensures))

pub returns-clause-clean : goal.returns-clause-clean
returns-clause-clean c items kept = act_clean items c.args.self (omega (arith, c.processor_of.ensures))
