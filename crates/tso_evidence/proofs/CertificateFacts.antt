-- Certificates as evidence: their texts, and the numbers in them.
use Rattle.std.proofs.Common.{◌≡◌, ℕ, suc, List, [], ◌∷◌, ◌++◌, refl, ap, sym, ◌∙◌}
use Rattle.std.specs.Prelude.{All}
use Rattle.std.specs.List.{flat_map}
use Rattle.std.proofs.lemmas.List.Elements.{All-nil, All-cons}
use Rattle.line_text.specs.Lines.{line_text}
use Rattle.tso_cert.specs.declared.steps.CertStep.{CertStep}
use Rattle.tso_cert.specs.declared.steps.Certificate.{Certificate}
use Rattle.tso_cert.specs.declared.steps.Certificate.TheVariants.{Unwritten as UnwrittenLoad, Cycle as CycleOf}
use Rattle.tso_cert.specs.Printed.{step_tokens, steps_tokens, cycle_tokens, cert_text, Fits, StepFits, CertFits}
use Rattle.tso_cert.specs.Spelling.{SpellsCertificate}
use Rattle.tso_cert.proofs.SayingFacts.{all_first, all_after}
use Rattle.tso_evidence.specs.declared.refutations.RefutationLine.TheVariants.{Step, Cycle}
use Rattle.tso_evidence.specs.Printed.{lines_tokens, evidence_text, LineFits, EvidenceFits}
use Rattle.tso_evidence.specs.Certificates.{certificate_lines, evidence_of}
use Rattle.tso_evidence.specs.Spelling.{SpellsEvidence}

-- steps and a cycle have the same lines as in a certificate
steps_lines : (k : ℕ) (steps : List CertStep) (cycle : List ℕ) → steps_tokens k steps ++ cycle_tokens cycle ∷ [] ≡ lines_tokens k (certificate_lines steps cycle)
steps_lines k [] cycle = refl
steps_lines k (s ∷ steps) cycle = ap (λ rest. step_tokens k s ∷ rest) (steps_lines (suc k) steps cycle)

pub same_text : (c : Certificate) → cert_text c ≡ evidence_text (evidence_of c)
unfolding cert_text evidence_text
same_text (UnwrittenLoad n) = refl
same_text (CycleOf steps cycle) = ap (flat_map line_text) (steps_lines 1 steps cycle)

steps_fit : (steps : List CertStep) (cycle : List ℕ) → All StepFits steps → All Fits cycle → All LineFits (certificate_lines steps cycle)
steps_fit [] cycle fits last = All-cons LineFits (Cycle cycle) [] last (All-nil LineFits)
steps_fit (s ∷ steps) cycle fits last = All-cons LineFits (Step s) (certificate_lines steps cycle) (all_first StepFits s steps fits) (steps_fit steps cycle (all_after StepFits s steps fits) last)

lines_fit : (steps : List CertStep) (cycle : List ℕ) → All LineFits (certificate_lines steps cycle) → All StepFits steps × All Fits cycle
lines_fit [] cycle fits = (All-nil StepFits, all_first LineFits (Cycle cycle) [] fits)
lines_fit (s ∷ steps) cycle fits =
    let more = lines_fit steps cycle (all_after LineFits (Step s) (certificate_lines steps cycle) fits) in
    (All-cons StepFits s steps (all_first LineFits (Step s) (certificate_lines steps cycle) fits) more.0, more.1)

fits_in : (c : Certificate) → CertFits c → EvidenceFits (evidence_of c)
fits_in (UnwrittenLoad n) fits = fits
fits_in (CycleOf steps cycle) fits = steps_fit steps cycle fits.0 fits.1

fits_out : (c : Certificate) → EvidenceFits (evidence_of c) → CertFits c
fits_out (UnwrittenLoad n) fits = fits
fits_out (CycleOf steps cycle) fits = lines_fit steps cycle fits

pub spelled_in : (text : List ℕ) (c : Certificate) → SpellsCertificate text c → SpellsEvidence text (evidence_of c)
spelled_in text c spells = (fits_in c spells.0, spells.1 ∙ same_text c)

pub spelled_out : (text : List ℕ) (c : Certificate) → SpellsEvidence text (evidence_of c) → SpellsCertificate text c
spelled_out text c spells = (fits_out c spells.0, spells.1 ∙ sym (same_text c))
