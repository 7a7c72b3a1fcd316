-- What a certificate says of its trace: an unwritten load, or else a cycle in the derived order.
use Rattle.std.proofs.Common.{◌≡◌, ◌⊎◌, ◌↔◌, ℕ, inl, inr, refl}
use Rattle.tso_ops.specs.Values.{TraceValue}
use Rattle.tso_ops.specs.Events.{IsUnwritten}
use Rattle.tso_cert.specs.declared.steps.Certificate.{Certificate}
use Rattle.tso_cert.specs.declared.steps.Certificate.TheVariants.{Unwritten, Cycle}
use Rattle.tso_model.specs.Rules.{HasDerivedCycle}
use Rattle.tso_model.specs.Certs.{IsCertificateOf}
use Rattle.tso_model.proofs.DerivedPaths.{derived_cycle_exactly}

-- A trace that has a certificate has an unwritten load or a derived cycle.
pub certificate_cause : (t : TraceValue) (certificate : Certificate) → IsCertificateOf t certificate → ((l : ℕ) × IsUnwritten t l) ⊎ HasDerivedCycle t
certificate_cause t (Unwritten n) of_trace = inl (n, of_trace.0)
certificate_cause t (Cycle steps cycle) of_trace =
    let rounds = of_trace.1 in
    inr ((derived_cycle_exactly t).1 (rounds.0, (cycle, rounds.2.0)))

-- A certificate of a trace names an unwritten load exactly if the trace has one.
pub certificate_form : (t : TraceValue) (certificate : Certificate) → IsCertificateOf t certificate →
    ((l : ℕ) × IsUnwritten t l) ↔ ((n : ℕ) × (certificate ≡ Unwritten n))
certificate_form t (Unwritten n) of_trace = (λ unwritten. (n, refl), λ form. (n, of_trace.0))
certificate_form t (Cycle steps cycle) of_trace = (λ unwritten. absurd (of_trace.0 unwritten.0 unwritten.1), λ form. absurd (other form.0 form.1))
  where
    other : (n : ℕ) → Cycle steps cycle ≡ Unwritten n → ⊥
    other n same = cc
