use Rattle.std.proofs.Common.{◌∙◌, ap, sym, subst, refl}
use Rattle.tso_ops.specs.Settings.{setting_of}
use Rattle.tso_ops.specs.Values.{rows, program_of_lists}
use Rattle.tso_ops.specs.Limits.{IsProgram, IsValueRefusal}
use Rattle.tso_ops.proofs.CheckFacts.{program_by-same}
use Rattle.tso_ops.proofs.programs.check_program.Goals as goal

pub invariant_of-result : goal.invariant_of-result
invariant_of-result c =
    subst IsProgram (program_by-same _ (λ _. refl) _ _ ∙ ap (λ lists. program_of_lists (setting_of c.args.setting) (rows lists)) c.deref.ensures.value) c.in-Ok.ensures.limits

pub returns-in-Ok-clause-accepted : goal.returns-in-Ok-clause-accepted
returns-in-Ok-clause-accepted c why refusal =
    c.in-Ok.ensures.accepted why
    (subst (λ p. IsValueRefusal p why) (sym (program_by-same _ (λ _. refl) _ _ ∙ ap (λ lists. program_of_lists (setting_of c.args.setting) (rows lists)) c.deref.ensures.value)) refusal)

pub returns-in-Err-clause-refused : goal.returns-in-Err-clause-refused
returns-in-Err-clause-refused c other =
    subst (λ p. IsValueRefusal p c.in-Err.why) (program_by-same _ (λ _. refl) _ _ ∙ ap (λ lists. program_of_lists (setting_of c.args.setting) (rows lists)) c.deref.ensures.value)
    (c.in-Err.ensures.refused other)
