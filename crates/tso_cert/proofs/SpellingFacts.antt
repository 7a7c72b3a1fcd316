-- Laws on spelling: the outcome of a text is the certificate that it spells or its one refusal, and it is what the reader makes of the text.
use Rattle.std.proofs.Common.{◌≡◌, ℕ, suc, ◌+◌, List, [], ◌∷◌, ◌++◌, length, Result, Ok, Err, refl, ap, sym, ◌∙◌, subst, arith, inl, inr, ◌⊎◌, eqb}
use Rattle.std.specs.Prelude.{All, ◌≢◌}
use Rattle.std.specs.List.{flat_map}
use Rattle.std.proofs.lemmas.List.Elements.{All-nil}
use Rattle.line_text.specs.Lines.{line_text, parts_of, tokens_of}
use Rattle.line_text.specs.Readings.{whole, read_parts}
use Rattle.line_text.specs.Refusals.{ArePartsRefused}
use Rattle.line_text.specs.Results.{◌>>=◌}
use Rattle.line_text.proofs.CutFacts.{split_parts}
use Rattle.line_text.proofs.ReadingFacts as texts
use Rattle.line_text.proofs.ReadingFacts.{TextsOf, IsRightAfter, AreReadBy, ReaderOf, none_before}
use Rattle.line_text.proofs.SplitFacts.{IsCut}
use Rattle.tso_cert.specs.declared.steps.CertStep.{CertStep}
use Rattle.tso_cert.specs.declared.steps.Certificate.{Certificate}
use Rattle.tso_cert.specs.declared.steps.Certificate.TheVariants.{Unwritten as UnwrittenLoad, Cycle as CycleOf}
use Rattle.tso_cert.specs.declared.lines.Line.{Line}
use Rattle.tso_cert.specs.declared.lines.Line.TheVariants.{Step, Cycle, Unwritten}
use Rattle.tso_cert.specs.declared.faults.CertificateRefusal.{CertificateRefusal}
use Rattle.tso_cert.specs.declared.faults.CertificateRefusal.TheVariants.{BadLine, BadNumber, BadRule, NoCycle, AfterCycle, OutOfMemory}
use Rattle.tso_cert.specs.declared.faults.CertificateTextFault.{CertificateTextFault}
use Rattle.tso_cert.specs.Printed.{step_tokens, steps_tokens, cycle_tokens, unwritten_tokens, cert_text, StepFits, CertFits}
use Rattle.tso_cert.specs.Spelling.{SpellsCertificate, IsCertTextRefusal, IsLineFault}
use Rattle.tso_cert.specs.Internal.LineValues.{cert_line_said}
use Rattle.tso_cert.specs.Internal.ReadTexts.{unended_cert_fault, said_after, cert_reading}
use Rattle.tso_cert.proofs.LineFacts.{told, refused, fault_said, cert_line_said-tokens}
use Rattle.tso_cert.proofs.PrintFacts.{steps_tokens-push}
use Rattle.tso_cert.proofs.PrintedFacts.{line_cut}

abbrev pub cert_texts : TextsOf CertStep Certificate CertificateRefusal
cert_texts = record {
  Fits = StepFits;
  lines = λ steps. steps_tokens 1 steps;
  Is = CertFits;
  Ends = CertFits;
  text = cert_text;
  Refused = λ steps line rest why. ArePartsRefused NoCycle BadLine (IsLineFault (suc (length steps))) (parts_of rest) why;
}

-- what a line says, that the line says which is read so
pub said_line : (steps : List CertStep) (tokens : List (List ℕ)) (said : Result Line CertificateRefusal) → cert_line_said (suc (length steps)) tokens ≡ said → cert_reading.said steps tokens ≡ (said >>= λ l. Ok (said_after steps l))
said_line steps tokens said is = ap (λ r. r >>= λ l. Ok (said_after steps l)) is

line : (steps : List CertStep) (tokens : List (List ℕ)) → IsRightAfter cert_texts steps tokens (cert_reading.said steps tokens)
unfolding cert_text parts_of
line steps tokens = by (cert_line_said k tokens) refl
  where
    k : ℕ
    k = suc (length steps)

    cut : (l : Line) → cert_line_said k tokens ≡ Ok l → IsCut tokens
    cut l is = subst IsCut (sym (told k tokens l is).says) (line_cut k l)

    by : (said : Result Line CertificateRefusal) → cert_line_said k tokens ≡ said → IsRightAfter cert_texts steps tokens (said >>= λ l. Ok (said_after steps l))
    by (Err why) is = λ rest line after some parts same. (let p = split_parts (λ b. eqb b 10) after in rw (parts, p.2) (subst (λ ps. IsLineFault k ps why) (sym same) (refused k tokens why is)))
    by (Ok (Step s)) is =
        let t = told k tokens (Step s) is in
        let at : 1 + length steps ≡ k = omega arith in
        (cut (Step s) is, t.fits, steps_tokens-push 1 steps s ∙ ap (λ n. steps_tokens 1 steps ++ step_tokens n s ∷ []) at ∙ ap (λ ps. steps_tokens 1 steps ++ ps ∷ []) (sym t.says))
    by (Ok (Cycle ns)) is =
        let t = told k tokens (Cycle ns) is in
        (cut (Cycle ns) is, λ fits. ((fits, t.fits), (fits, t.fits), ap (λ ps. flat_map line_text (steps_tokens 1 steps ++ ps ∷ [])) (sym t.says)))
    by (Ok (Unwritten n)) is =
        let t = told k tokens (Unwritten n) is in
        let alone = none_before steps t.fits.1 in
        (cut (Unwritten n) is, λ fits. (t.fits.0, t.fits.0, ap (λ ps. flat_map line_text (ps ∷ [])) (sym t.says) ∙ ap (λ ss. flat_map line_text (steps_tokens 1 ss ++ tokens ∷ [])) (sym alone)))

refused_read : (steps : List CertStep) (rest : List ℕ) (why : CertificateRefusal) → ArePartsRefused NoCycle BadLine (IsLineFault (suc (length steps))) (parts_of rest) why → read_parts cert_reading steps (parts_of rest) ≡ Err (suc (length steps), why)
unfolding read_parts
refused_read steps rest why refused = by (parts_of rest) refused
  where
    by : (parts : List (List ℕ)) → ArePartsRefused NoCycle BadLine (IsLineFault (suc (length steps))) parts why → read_parts cert_reading steps parts ≡ Err (suc (length steps), why)
    by [] refused = absurd refused
    by (part ∷ []) refused = ap (λ w. Err (suc (length steps), w)) (sym refused)
    by (part ∷ next ∷ parts) refused = rw (fault_said (suc (length steps)) (tokens_of part) why refused) refl

said_last : (c : Certificate) → CertFits c → (steps : List CertStep) × (tokens : List (List ℕ)) × All StepFits steps × (cert_reading.said steps tokens ≡ Ok (whole c))
said_last (UnwrittenLoad n) fits = ([], unwritten_tokens n, All-nil StepFits, said_line [] (unwritten_tokens n) _ (cert_line_said-tokens 1 (Unwritten n) (fits, refl)))
said_last (CycleOf steps cycle) fits = (steps, cycle_tokens cycle, fits.0, said_line steps (cycle_tokens cycle) _ (cert_line_said-tokens (suc (length steps)) (Cycle cycle) fits.1))

pub are_read : AreReadBy cert_texts cert_reading
are_read = record {
  none = refl;
  line = line;
  unended = λ steps rest c fits is. absurd cc;
  missing = λ steps rest why none is. rw none (let same : unended_cert_fault rest ≡ why = cc in sym same);
  said_one = λ steps s fits. (step_tokens (suc (length steps)) s, said_line steps _ _ (cert_line_said-tokens (suc (length steps)) (Step s) fits));
  said_last = said_last;
  said_all = λ c fits. inl fits;
  refused = refused_read;
}

-- ---- laws

pub spelled_or_refused : (text : List ℕ) → ((c : Certificate) × SpellsCertificate text c) ⊎ ((line : ℕ) × (why : CertificateRefusal) × IsCertTextRefusal text line why)
unfolding IsCertTextRefusal
spelled_or_refused text = texts.spelled_or_refused cert_texts cert_reading are_read text

pub not_both : (text : List ℕ) (c : Certificate) (line : ℕ) (why : CertificateRefusal) → SpellsCertificate text c → IsCertTextRefusal text line why → ⊥
unfolding IsCertTextRefusal
not_both text c line why spells refusal = texts.not_both cert_texts cert_reading are_read text c line why spells refusal

pub one_value : (text : List ℕ) (c d : Certificate) → SpellsCertificate text c → SpellsCertificate text d → c ≡ d
one_value text c d one other = texts.one_value cert_texts cert_reading are_read text c d one other

pub one_refusal : (text : List ℕ) (j k : ℕ) (v w : CertificateRefusal) → IsCertTextRefusal text j v → IsCertTextRefusal text k w → (j ≡ k) × (v ≡ w)
unfolding IsCertTextRefusal
one_refusal text j k v w one other = texts.one_refusal cert_texts cert_reading are_read text j k v w one other

-- ---- the reader

pub or_memory : (why : CertificateRefusal) → (why ≡ OutOfMemory) ⊎ (why ≢ OutOfMemory)
or_memory BadLine = inr (λ e. absurd cc)
or_memory BadNumber = inr (λ e. absurd cc)
or_memory BadRule = inr (λ e. absurd cc)
or_memory NoCycle = inr (λ e. absurd cc)
or_memory AfterCycle = inr (λ e. absurd cc)
or_memory OutOfMemory = inl refl

abbrev pub cert_reader : ReaderOf CertStep Certificate CertificateRefusal CertificateTextFault
cert_reader = record { texts = cert_texts; reading = cert_reading; laws = are_read; at = λ fault. (fault.line, fault.why); memory = OutOfMemory; or_memory = or_memory }
