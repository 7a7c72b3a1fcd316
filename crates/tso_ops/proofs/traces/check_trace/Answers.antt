use Rattle.std.proofs.Common.{subst, sym}
use Rattle.tso_ops.specs.Settings.{setting_of}
use Rattle.tso_ops.specs.Values.{rows, program_of, trace_of_lists}
use Rattle.tso_ops.specs.Limits.{IsValueRefusal}
use Rattle.tso_ops.proofs.traces.check_trace.Goals as goal

pub returns-in-Err-clause-refused : goal.returns-in-Err-clause-refused
returns-in-Err-clause-refused c other =
    subst (λ lists. IsValueRefusal (program_of (trace_of_lists (setting_of c.args.setting) (rows lists))) c.in-Err.why) c.deref.ensures.value (c.in-Err.ensures.refused other)

pub returns-in-Ok-clause-accepted : goal.returns-in-Ok-clause-accepted
returns-in-Ok-clause-accepted c why refusal =
    c.in_default.ensures.accepted why
    (subst (λ lists. IsValueRefusal (program_of (trace_of_lists (setting_of c.args.setting) (rows lists))) why) (sym c.deref.ensures.value) refusal)
