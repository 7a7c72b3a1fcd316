use Rattle.std.proofs.Common.{◌∙◌, sym, ap, refl, arith}
use Rattle.tso_ops.proofs.EventFacts.{event_total-most}
use Rattle.tso_cert.specs.declared.steps.Certificate.TheVariants.{Cycle}
use Rattle.cert_check.proofs.RefusalFacts.{told_of_cycle}
use Rattle.cert_check.proofs.checks.judge_with_table.Goals as goal

pub in_table-requires : goal.in_table-requires
in_table-requires c = let most = event_total-most c.args.trace.now c.events.ensures.kept in omega (arith, c.events.ensures.count, most)

pub returns-in_ok-pairs-in-Cycle-clause-told : goal.returns-in_ok-pairs-in-Cycle-clause-told
returns-in_ok-pairs-in-Cycle-clause-told c =
    told_of_cycle c.args.trace.now c.args.certificate.now c.items.result.now c.items-in-Cycle.result.now c.judge_cycle.result
    (c.in-Cycle.is ∙ ap (λ s. Cycle s c.in-Cycle.cycle) (sym c.items.ensures) ∙ ap (λ n. Cycle c.items.result.now n) (sym c.items-in-Cycle.ensures))
    (c.if-not-is_in_range.ensures.within.0 refl) c.judge_cycle.ensures
