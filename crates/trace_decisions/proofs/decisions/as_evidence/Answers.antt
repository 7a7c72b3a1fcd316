use Rattle.std.proofs.Common.{◌≡◌, ◌∙◌, ap, sym, subst}
use Rattle.tso_model.specs.Certs.{Holds}
use Rattle.tso_evidence.specs.Certificates.{certificate_lines}
use Rattle.refutation_check.specs.Refutations.{RefutationHolds}
use Rattle.refutation_check.proofs.CertificateFacts.{certificate_holds_as}
use Rattle.trace_decisions.proofs.decisions.as_evidence.Goals as goal

pub accepted-requires : goal.accepted-requires
accepted-requires c =
    let t = c.args.trace.now in
    let lines : c.in_ok-lines-in-Cycle.lines.items ≡ certificate_lines c.in-Cycle.steps c.in-Cycle.cycle =
    c.in_ok-lines-in-Cycle.ensures ∙ ap (λ steps. certificate_lines steps c.items-in-Cycle.result.now) c.items.ensures ∙ ap (certificate_lines c.in-Cycle.steps) c.items-in-Cycle.ensures in
    subst (RefutationHolds t) (sym lines) ((certificate_holds_as t c.in-Cycle.steps c.in-Cycle.cycle).0 (subst (Holds t) c.in-Cycle.is c.requires))
