use Rattle.std.proofs.Common.{IfSome, string_bytes, subst}
use Rattle.tso_model.proofs.CertificateCause.{certificate_cause}
use Rattle.trace_reduction.specs.declared.candidates.Candidate.{Candidate}
use Rattle.trace_reduction.specs.Reductions.{IsReduction}
use Rattle.trace_reduction.proofs.ReductionFacts.{reduced_text, whole_reduction}
use Rattle.trace_reduction.proofs.reductions.reduce_violation.Goals as goal

pub returns-in_ok-tell-in-Some-clause-reduced : goal.returns-in_ok-tell-in-Some-clause-reduced
returns-in_ok-tell-in-Some-clause-reduced g c =
    reduced_text c.args.trace.now c.in-Some.small.trace (string_bytes c.in_ok-tell-in-Some.field-0.text) c.in_ok-tell-in-Some.field-0.verdict
    (certificate_cause c.args.trace.now c.args.certificate.now c.requires)
    (subst (λ found. IfSome found (λ (small : Candidate). IsReduction c.args.trace.now small.trace)) c.in-Some.is c.in_ok-small-in-Cycle.ensures.found)
    c.in_ok-tell-in-Some.ensures.text c.in_ok-tell-in-Some.ensures.verdict

pub returns-in_ok-tell-in-None-clause-reduced : goal.returns-in_ok-tell-in-None-clause-reduced
returns-in_ok-tell-in-None-clause-reduced g c =
    reduced_text c.args.trace.now c.args.trace.now (string_bytes c.in_ok-tell-in-None.field-0.text) c.in_ok-tell-in-None.field-0.verdict
    (certificate_cause c.args.trace.now c.args.certificate.now c.requires) (whole_reduction c.args.trace.now c.args.certificate.now _ _ c.processors-processors.ensures.kept c.in-Cycle.is c.requires)
    c.in_ok-tell-in-None.ensures.text c.in_ok-tell-in-None.ensures.verdict
