use Rattle.std.proofs.Common.{◌∙◌, sym, ap, refl}
use Rattle.tso_cert.specs.declared.steps.Certificate.TheVariants.{Cycle}
use Rattle.cert_check.proofs.RefusalFacts.{told_of_cycle}
use Rattle.cert_check.proofs.checks.judge.Goals as goal

pub returns-in-Cycle-clause-told : goal.returns-in-Cycle-clause-told
returns-in-Cycle-clause-told c =
    told_of_cycle c.args.trace.now c.args.certificate.now c.items.result.now c.items-in-Cycle.result.now c.judge_cycle.result
    (c.in-Cycle.is ∙ ap (λ s. Cycle s c.in-Cycle.cycle) (sym c.items.ensures) ∙ ap (λ n. Cycle c.items.result.now n) (sym c.items-in-Cycle.ensures))
    (c.if-not-is_in_range.ensures.within.0 refl) c.judge_cycle.ensures
