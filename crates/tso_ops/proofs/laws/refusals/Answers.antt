use Rattle.tso_ops.specs.Values.{program_of}
use Rattle.tso_ops.proofs.RefusalFacts.{one_refusal, program_not_refused}
use Rattle.tso_ops.proofs.laws.refusals.Goals as goal

pub returns-clause-one : goal.returns-clause-one
returns-clause-one c = one_refusal

pub returns-clause-of_program : goal.returns-clause-of_program
returns-clause-of_program c = program_not_refused

pub returns-clause-of_trace : goal.returns-clause-of_trace
returns-clause-of_trace c t why trace = program_not_refused (program_of t) why trace.program
