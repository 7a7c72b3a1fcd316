-- Lemmas on evidence that is a certificate.
use Rattle.std.proofs.Common.{◌≡◌, ◌≢◌, ◌∙◌, sym, ap, refl, ℕ, ◌+◌, ◌<◌, List, [], ◌∷◌, ◌++◌, length, map, get_or, drop, None, Some, append_assoc, arith}
use Rattle.std.proofs.lemmas.List.{append-nil, drop_all, drop_more, length-drop}
use Rattle.tso_cert.specs.declared.steps.CertStep.{CertStep}
use Rattle.tso_cert.specs.declared.steps.Certificate.{Certificate}
use Rattle.tso_cert.specs.declared.steps.Certificate.TheVariants.{Unwritten as UnwrittenLoad, Cycle as CycleOf}
use Rattle.tso_evidence.specs.declared.refutations.RefutationLine.{RefutationLine}
use Rattle.tso_evidence.specs.declared.refutations.RefutationLine.TheVariants.{Step, Case, Else, Cycle}
use Rattle.tso_evidence.specs.declared.evidence.Evidence.{Evidence}
use Rattle.tso_evidence.specs.declared.evidence.Evidence.TheVariants.{Unwritten, Order, Refutation}
use Rattle.tso_evidence.specs.Certificates.{evidence_of}
use Rattle.decision_explanation.specs.Certificates.{certificate_of, certificate_of_evidence}

-- ---- the law

-- these steps and then one cycle, after those steps
found : (steps more : List CertStep) (cycle : List ℕ) → certificate_of steps (map Step more ++ Cycle cycle ∷ []) ≡ Some (CycleOf (steps ++ more) cycle)
found steps [] cycle = ap (λ all. Some (CycleOf all cycle)) (sym (append-nil steps))
found steps (s ∷ more) cycle = found (steps ++ s ∷ []) more cycle ∙ ap (λ all. Some (CycleOf all cycle)) (append_assoc steps (s ∷ []) more)

-- what lines are by which a certificate is found
pub record IsFoundBy (steps : List CertStep) (lines : List RefutationLine) (c : Certificate) : Type 0 where
  pub more : List CertStep
  pub cycle : List ℕ
  pub lines_are : lines ≡ map Step more ++ Cycle cycle ∷ []
  pub is : c ≡ CycleOf (steps ++ more) cycle

found_only : (steps : List CertStep) (lines : List RefutationLine) (c : Certificate) → certificate_of steps lines ≡ Some c → IsFoundBy steps lines c
found_only steps [] c is = absurd cc
found_only steps (Step s ∷ lines) c is =
    let later = found_only (steps ++ s ∷ []) lines c is in
    record {
      more = s ∷ later.more;
      cycle = later.cycle;
      lines_are = ap (λ rest. Step s ∷ rest) later.lines_are;
      is = later.is ∙ ap (λ all. CycleOf all later.cycle) (append_assoc steps (s ∷ []) later.more);
    }
found_only steps (Case u v ∷ lines) c is = absurd cc
found_only steps (Else u v ∷ lines) c is = absurd cc
found_only steps (Cycle cycle ∷ []) c is =
    let same : CycleOf steps cycle ≡ c = cc in
    record { more = []; cycle = cycle; lines_are = refl; is = sym same ∙ ap (λ all. CycleOf all cycle) (sym (append-nil steps)) }
found_only steps (Cycle cycle ∷ (line ∷ lines)) c is = absurd cc

-- evidence is a certificate where that is found, and nowhere else
pub certificate_found : (e : Evidence) (c : Certificate) → e ≡ evidence_of c → certificate_of_evidence e ≡ Some c
certificate_found e (UnwrittenLoad n) is = ap certificate_of_evidence is
certificate_found e (CycleOf steps cycle) is = ap certificate_of_evidence is ∙ found [] steps cycle

pub certificate_only : (e : Evidence) (c : Certificate) → certificate_of_evidence e ≡ Some c → e ≡ evidence_of c
certificate_only (Unwritten n) c is = let same : UnwrittenLoad n ≡ c = cc in ap evidence_of same
certificate_only (Order order) c is = absurd cc
certificate_only (Refutation lines) c is = let by = found_only [] lines c is in ap Refutation by.lines_are ∙ sym (ap evidence_of by.is)

-- ---- line by line

module _ (steps : List CertStep) (lines : List RefutationLine) (k : ℕ) (line : RefutationLine) (within : k < length lines) (at : line ≡ get_or lines k line) where
  next_line : drop k lines ≡ line ∷ drop (k + 1) lines
  next_line = drop_more lines k line within ∙ ap (λ l. l ∷ drop (k + 1) lines) (sym at)

  pub after_step : (s : CertStep) (new : List CertStep) → line ≡ Step s → new ≡ steps ++ s ∷ [] → certificate_of new (drop (k + 1) lines) ≡ certificate_of steps (drop k lines)
  after_step s new is added =
      ap (λ all. certificate_of all (drop (k + 1) lines)) added ∙ sym (ap (certificate_of steps) (next_line ∙ ap (λ l. l ∷ drop (k + 1) lines) is))

  pub at_cycle : (cycle : List ℕ) → line ≡ Cycle cycle → k + 1 ≡ length lines → certificate_of steps (drop k lines) ≡ Some (CycleOf steps cycle)
  at_cycle cycle is last =
      let none : drop (k + 1) lines ≡ [] = drop_all (k + 1) lines (omega arith) in
      ap (certificate_of steps) (next_line ∙ ap (λ l. l ∷ drop (k + 1) lines) is ∙ ap (λ rest. Cycle cycle ∷ rest) none)

  inner : (cycle : List ℕ) (rest : List RefutationLine) → rest ≢ [] → certificate_of steps (Cycle cycle ∷ rest) ≡ None
  inner cycle [] more = absurd (more refl)
  inner cycle (l ∷ rest) more = refl

  pub at_inner_cycle : (cycle : List ℕ) → line ≡ Cycle cycle → k + 1 ≢ length lines → certificate_of steps (drop k lines) ≡ None
  at_inner_cycle cycle is earlier =
      let more : drop (k + 1) lines ≢ [] = λ none. let left = length-drop (k + 1) lines in let no : length (drop (k + 1) lines) ≡ 0 = ap length none in absurd (omega arith) in
      ap (certificate_of steps) (next_line ∙ ap (λ l. l ∷ drop (k + 1) lines) is) ∙ inner cycle (drop (k + 1) lines) more

  pub at_case : (u v : ℕ) → line ≡ Case u v → certificate_of steps (drop k lines) ≡ None
  at_case u v is = ap (certificate_of steps) (next_line ∙ ap (λ l. l ∷ drop (k + 1) lines) is)

  pub at_else : (u v : ℕ) → line ≡ Else u v → certificate_of steps (drop k lines) ≡ None
  at_else u v is = ap (certificate_of steps) (next_line ∙ ap (λ l. l ∷ drop (k + 1) lines) is)
