-- The tokens of what a line can say: they say it, and have no fault; so a line has one fault, and says nothing where it has it.
use Rattle.std.proofs.Common.{◌≡◌, ℕ, true, ◌&&◌, eqb, List, [], ◌∷◌, Result, Ok, Err, refl, ap, sym, ◌∙◌, subst}
use Rattle.std.specs.Prelude.{codes, All}
use Rattle.std.specs.Fmt.{decimal}
use Rattle.std.proofs.lemmas.Bool.{false≢true}
use Rattle.std.proofs.lemmas.List.Elements.{All-nil, All-cons}
use Rattle.tso_cert.specs.declared.steps.Reason.{Reason}
use Rattle.tso_cert.specs.declared.steps.Reason.TheVariants.{Base, Inferred}
use Rattle.tso_cert.specs.declared.faults.CertificateRefusal.{CertificateRefusal}
use Rattle.tso_cert.specs.Printed.{event_text, reason_tokens, ReasonFits, cycle_tokens, unwritten_tokens, Fits}
use Rattle.tso_cert.specs.Spelling.{IsEventToken, HasStepNumbers}
use Rattle.tso_cert.specs.Internal.LineValues.{unwritten_said}
use Rattle.tso_cert.proofs.LineFacts.{events_all, step_numbers}
use Rattle.tso_cert.proofs.SayingFacts.{event-text, events-text, decimal_differs, base_said, inferred_said}
use Rattle.tso_evidence.specs.declared.refutations.RefutationLine.{RefutationLine}
use Rattle.tso_evidence.specs.declared.refutations.RefutationLine.TheVariants.{Step, Case, Else, Cycle}
use Rattle.tso_evidence.specs.declared.lines.Line.{Line}
use Rattle.tso_evidence.specs.declared.lines.Line.TheVariants.{Refuting, Unwritten, Order}
use Rattle.tso_evidence.specs.declared.faults.EvidenceFault.{EvidenceFault}
use Rattle.tso_evidence.specs.declared.faults.EvidenceFault.TheVariants.{BadLine, BadNumber, BadRule, AfterEnd, OutOfMemory}
use Rattle.tso_evidence.specs.Printed.{line_tokens, order_tokens}
use Rattle.tso_evidence.specs.Spelling.{has_evidence_form, IsEvidenceLineFault}
use Rattle.tso_evidence.specs.Internal.LineValues.{line_fault, named_said, numbered_said, order_said, evidence_line_said}
use Rattle.tso_evidence.proofs.SayingFacts.{numbered-tokens, reason_named}
use Rattle.tso_evidence.proofs.LineFacts.{said_tokens, SaidFits, numbered_form, told, refused}

-- ---- the tokens of a line say it

step-tokens : (k u v : ℕ) (r : Reason) → Fits u → Fits v → ReasonFits r → numbered_said k (decimal k ∷ event_text u ∷ event_text v ∷ reason_tokens r) ≡ Ok (Step (record { from = u; to = v; reason = r }))
step-tokens k u v (Base rule) from to fits = numbered-tokens k u v _ [] _ from to (reason_named u v _ [] (Base rule) (base_said rule))
step-tokens k u v (Inferred rule load path) from to fits = numbered-tokens k u v _ _ _ from to (reason_named u v _ _ (Inferred rule load path) (inferred_said rule load path fits.0 fits.1))

-- a line with a number is read as one
number_first : (line k : ℕ) (ps : List (List ℕ)) (l : RefutationLine) → numbered_said k (decimal k ∷ ps) ≡ Ok l → evidence_line_said line k (decimal k ∷ ps) ≡ Ok (Refuting l)
unfolding evidence_line_said
number_first line k ps l is = rw (decimal_differs k (codes "cycle") refl, decimal_differs k (codes "unwritten") refl, decimal_differs k (codes "order") refl, is) refl

pub said-tokens : (line k : ℕ) (l : Line) → SaidFits line l → evidence_line_said line k (said_tokens k l) ≡ Ok l
unfolding evidence_line_said unwritten_said order_said named_said
said-tokens line k (Refuting (Step s)) fits = number_first line k _ (Step s) (step-tokens k s.from s.to s.reason fits.0 fits.1 fits.2)
said-tokens line k (Refuting (Case u v)) fits = number_first line k _ (Case u v) (numbered-tokens k u v (codes "Case") [] (Case u v) fits.0 fits.1 refl)
said-tokens line k (Refuting (Else u v)) fits = number_first line k _ (Else u v) (numbered-tokens k u v (codes "Else") [] (Else u v) fits.0 fits.1 refl)
said-tokens line k (Refuting (Cycle ns)) fits = rw (events-text ns fits) refl
said-tokens line k (Unwritten n) fits = rw (fits.1, event-text n fits.0) refl
said-tokens line k (Order ns) fits = rw (fits.1, events-text ns fits.0) refl

-- ---- and have no fault

pair_numbers : (k u v : ℕ) → Fits u → Fits v → (decimal k ≡ decimal k) × All IsEventToken (event_text u ∷ event_text v ∷ [])
pair_numbers k u v from to = (refl, events_all (u ∷ v ∷ []) (All-cons Fits u (v ∷ []) from (All-cons Fits v [] to (All-nil Fits))))

-- a line with the numbers of a step, which is that of a line of a refutation, has no fault
no_numbered_fault : (line k : ℕ) (l : RefutationLine) (why : EvidenceFault) → HasStepNumbers k (line_tokens k l) → IsEvidenceLineFault line k (line_tokens k l) why → ⊥
no_numbered_fault line k l BadLine has fault = false≢true (sym fault ∙ (numbered_form line k (line_tokens k l) has).1)
no_numbered_fault line k l BadNumber has fault = fault.2 has
no_numbered_fault line k l BadRule has fault = fault.1 l refl
no_numbered_fault line k l AfterEnd has fault = fault
no_numbered_fault line k l OutOfMemory has fault = fault

pub no_fault : (line k : ℕ) (l : Line) (why : EvidenceFault) → SaidFits line l → IsEvidenceLineFault line k (said_tokens k l) why → ⊥
no_fault line k (Refuting (Step s)) why fits fault = no_numbered_fault line k (Step s) why (step_numbers k s.from s.to s.reason fits.0 fits.1 fits.2) fault
no_fault line k (Refuting (Case u v)) why fits fault = no_numbered_fault line k (Case u v) why (pair_numbers k u v fits.0 fits.1) fault
no_fault line k (Refuting (Else u v)) why fits fault = no_numbered_fault line k (Else u v) why (pair_numbers k u v fits.0 fits.1) fault
no_fault line k (Refuting (Cycle ns)) BadLine fits fault = absurd cc
no_fault line k (Refuting (Cycle ns)) BadNumber fits fault = fault.1 refl (events_all ns fits)
no_fault line k (Refuting (Cycle ns)) BadRule fits fault = absurd (let s = (numbered_form line k (cycle_tokens ns) fault.0).0 in cc)
no_fault line k (Unwritten n) BadLine fits fault = absurd (let s = sym fault ∙ ap (λ j. eqb j 1 && true) fits.1 in cc)
no_fault line k (Unwritten n) BadNumber fits fault = fault.1 refl (events_all (n ∷ []) (All-cons Fits n [] fits.0 (All-nil Fits)))
no_fault line k (Unwritten n) BadRule fits fault = absurd (let s = (numbered_form line k (unwritten_tokens n) fault.0).0 in cc)
no_fault line k (Order ns) BadLine fits fault = absurd (let s = sym fault ∙ ap (λ j. eqb j 1) fits.1 in cc)
no_fault line k (Order ns) BadNumber fits fault = fault.1 refl (events_all ns fits.0)
no_fault line k (Order ns) BadRule fits fault = absurd (let s = (numbered_form line k (order_tokens ns) fault.0).0 in cc)
no_fault line k l AfterEnd fits fault = absurd fault
no_fault line k l OutOfMemory fits fault = absurd fault

form_of_fault : (line k : ℕ) (ps : List (List ℕ)) → IsEvidenceLineFault line k ps BadRule → has_evidence_form line ps ≡ true
form_of_fault line k ps fault = (numbered_form line k ps fault.0).1

-- a line has one fault
one_fault : (line k : ℕ) (ps : List (List ℕ)) (v w : EvidenceFault) → IsEvidenceLineFault line k ps v → IsEvidenceLineFault line k ps w → v ≡ w
one_fault line k ps BadLine BadLine one other = refl
one_fault line k ps BadLine BadNumber one other = absurd (false≢true (sym one ∙ other.0))
one_fault line k ps BadLine BadRule one other = absurd (false≢true (sym one ∙ form_of_fault line k ps other))
one_fault line k ps BadNumber BadLine one other = absurd (false≢true (sym other ∙ one.0))
one_fault line k ps BadNumber BadNumber one other = refl
one_fault line k ps BadNumber BadRule one other = absurd (one.2 other.0)
one_fault line k ps BadRule BadLine one other = absurd (false≢true (sym other ∙ form_of_fault line k ps one))
one_fault line k ps BadRule BadNumber one other = absurd (other.2 one.0)
one_fault line k ps BadRule BadRule one other = refl
one_fault line k ps AfterEnd w one other = absurd one
one_fault line k ps OutOfMemory w one other = absurd one
one_fault line k ps v AfterEnd one other = absurd other
one_fault line k ps v OutOfMemory one other = absurd other

-- a line with the fault says nothing
pub fault_said : (line k : ℕ) (ps : List (List ℕ)) (why : EvidenceFault) → IsEvidenceLineFault line k ps why → (w : CertificateRefusal) × (evidence_line_said line k ps ≡ Err w) × (line_fault w ≡ why)
fault_said line k ps why fault = by (evidence_line_said line k ps) refl
  where
    by : (r : Result Line CertificateRefusal) → evidence_line_said line k ps ≡ r → (w : CertificateRefusal) × (evidence_line_said line k ps ≡ Err w) × (line_fault w ≡ why)
    by (Err other) is = (other, is, one_fault line k ps (line_fault other) why (refused line k ps other is) fault)
    by (Ok l) is = let t = told line k ps l is in absurd (no_fault line k l why t.fits (subst (λ qs. IsEvidenceLineFault line k qs why) t.says fault))
