use Rattle.std.proofs.Common.{sym, subst}
use Rattle.tso_ops.specs.Values.{rows, program_of_lists}
use Rattle.tso_ops.specs.Limits.{IsValueRefusal}
use Rattle.tso_ops.proofs.programs.Program.with_order.Goals as goal

pub returns-in-Ok-clause-accepted : goal.returns-in-Ok-clause-accepted
returns-in-Ok-clause-accepted c why refusal = c.in-Ok.ensures.accepted why (subst (λ s. IsValueRefusal (program_of_lists s (rows c.args.lists.items)) why) (sym c.of_order.ensures) refusal)

pub returns-in-Err-clause-refused : goal.returns-in-Err-clause-refused
returns-in-Err-clause-refused c other = subst (λ s. IsValueRefusal (program_of_lists s (rows c.args.lists.items)) c.in-Err.refused.why) c.of_order.ensures (c.in-Err.ensures.refused other)
