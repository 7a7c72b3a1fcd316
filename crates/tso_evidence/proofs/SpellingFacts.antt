-- Laws on spelling: the outcome of a text is the evidence that it spells or its one refusal, and it is what the reader makes of the text.
use Rattle.std.proofs.Common.{◌≡◌, ℕ, suc, List, [], ◌∷◌, ◌++◌, length, Result, Ok, Err, refl, ap, sym, ◌∙◌, subst, arith, inl, inr, ◌⊎◌, eqb}
use Rattle.std.specs.Prelude.{All, IfOk, IfErr, ◌≢◌}
use Rattle.std.specs.List.{flat_map, join_with_byte}
use Rattle.std.proofs.lemmas.List.{append-nil}
use Rattle.std.proofs.lemmas.List.Elements.{All-nil}
use Rattle.std.proofs.lemmas.List.Splits.{join_with_byte-slice_split}
use Rattle.line_text.specs.Lines.{line_text, parts_of, tokens_of}
use Rattle.line_text.specs.Readings.{whole, on_line, read_parts}
use Rattle.line_text.specs.Refusals.{ArePartsRefused}
use Rattle.line_text.proofs.CutFacts.{split_parts}
use Rattle.line_text.proofs.ReadingFacts as texts
use Rattle.line_text.proofs.ReadingFacts.{TextsOf, IsRightAfter, AreReadBy, ReaderOf, none_before, IsFound, IsRefused}
use Rattle.line_text.proofs.SplitFacts.{IsCut}
use Rattle.tso_cert.specs.declared.faults.CertificateRefusal.{CertificateRefusal}
use Rattle.tso_cert.specs.declared.faults.CertificateRefusal.TheVariants.{OutOfMemory as LineMemory}
use Rattle.tso_cert.specs.Printed.{unwritten_tokens}
use Rattle.tso_evidence.specs.declared.refutations.RefutationLine.{RefutationLine}
use Rattle.tso_evidence.specs.declared.evidence.Evidence.{Evidence}
use Rattle.tso_evidence.specs.declared.evidence.Evidence.TheVariants.{Unwritten as UnwrittenLoad, Order as OrderOf, Refutation}
use Rattle.tso_evidence.specs.declared.lines.Line.{Line}
use Rattle.tso_evidence.specs.declared.lines.Line.TheVariants.{Refuting, Unwritten, Order}
use Rattle.tso_evidence.specs.declared.faults.EvidenceFault.{EvidenceFault}
use Rattle.tso_evidence.specs.declared.faults.EvidenceFault.TheVariants.{BadLine, BadNumber, BadRule, AfterEnd, OutOfMemory}
use Rattle.tso_evidence.specs.declared.faults.EvidenceTextFault.{EvidenceTextFault}
use Rattle.tso_evidence.specs.Printed.{line_tokens, number_past, lines_tokens, order_tokens, evidence_text, LineFits, EvidenceFits}
use Rattle.tso_evidence.specs.Spelling.{SpellsEvidence, IsOfOneLine, IsEvidenceLineFault, IsEvidenceTextRefusal}
use Rattle.tso_evidence.specs.Internal.LineValues.{line_fault, evidence_line_said}
use Rattle.tso_evidence.specs.Internal.ReadTexts.{said_of, evidence_reading}
use Rattle.tso_evidence.proofs.LineFacts.{told, refused}
use Rattle.tso_evidence.proofs.FaultFacts.{said-tokens, fault_said}
use Rattle.tso_evidence.proofs.PrintedFacts.{said_cut, lines_tokens-push}

-- the parts of what stands after lines of a refutation are refused, on the line of this number
abbrev pub AreRefused : List RefutationLine → ℕ → List (List ℕ) → EvidenceFault → Type 0
AreRefused lines line parts why = ArePartsRefused BadLine BadLine (IsEvidenceLineFault line (number_past 1 lines)) parts why

abbrev pub evidence_texts : TextsOf RefutationLine Evidence EvidenceFault
evidence_texts = record {
  Fits = LineFits;
  lines = λ lines. lines_tokens 1 lines;
  Is = EvidenceFits;
  Ends = λ e. IsOfOneLine e × EvidenceFits e;
  text = evidence_text;
  Refused = λ lines line rest why. (rest ≢ []) × AreRefused lines line (parts_of rest) why;
}

line : (lines : List RefutationLine) (tokens : List (List ℕ)) → IsRightAfter evidence_texts lines tokens (evidence_reading.said lines tokens)
unfolding evidence_text parts_of
line lines tokens = by (evidence_line_said n k tokens) refl
  where
    n : ℕ
    n = suc (length lines)

    k : ℕ
    k = number_past 1 lines

    cut : (l : Line) → evidence_line_said n k tokens ≡ Ok l → IsCut tokens
    cut l is = subst IsCut (sym (told n k tokens l is).says) (said_cut k l)

    -- the text of evidence of one line
    alone : (ps : List (List ℕ)) → tokens ≡ ps → n ≡ 1 → flat_map line_text (ps ∷ []) ≡ flat_map line_text (lines_tokens 1 lines ++ tokens ∷ [])
    alone ps says first = ap (λ qs. flat_map line_text (qs ∷ [])) (sym says) ∙ ap (λ ls. flat_map line_text (lines_tokens 1 ls ++ tokens ∷ [])) (sym (none_before lines first))

    by : (said : Result Line CertificateRefusal) → evidence_line_said n k tokens ≡ said → IsRightAfter evidence_texts lines tokens (said_of said)
    by (Err why) is = λ rest line after some parts same. (
      some,
      let p = split_parts (λ b. eqb b 10) after in rw (parts, p.2) (subst (λ ps. IsEvidenceLineFault n k ps (line_fault why)) (sym same) (refused n k tokens why is)),
    )
    by (Ok (Refuting l)) is =
        let t = told n k tokens (Refuting l) is in
        (cut (Refuting l) is, t.fits, lines_tokens-push 1 lines l ∙ ap (λ ps. lines_tokens 1 lines ++ ps ∷ []) (sym t.says))
    by (Ok (Unwritten m)) is =
        let t = told n k tokens (Unwritten m) is in
        (cut (Unwritten m) is, λ fits. (t.fits.0, (tt, t.fits.0), alone (unwritten_tokens m) t.says t.fits.1))
    by (Ok (Order ns)) is =
        let t = told n k tokens (Order ns) is in
        (cut (Order ns) is, λ fits. (t.fits.0, (tt, t.fits.0), alone (order_tokens ns) t.says t.fits.1))

unended : (lines : List RefutationLine) (rest : List ℕ) (e : Evidence) → All LineFits lines → evidence_reading.unended lines rest ≡ Ok e → EvidenceFits e × (evidence_text e ≡ flat_map line_text (lines_tokens 1 lines) ++ rest)
unfolding evidence_text
unended lines [] e fits is = let same : Refutation lines ≡ e = cc in rw (← same) (fits, sym (append-nil (flat_map line_text (lines_tokens 1 lines))))
unended lines (b ∷ rest) e fits is = absurd cc

missing : (lines : List RefutationLine) (rest : List ℕ) (why : EvidenceFault) → parts_of rest ≡ rest ∷ [] → evidence_reading.unended lines rest ≡ Err why → (rest ≢ []) × AreRefused lines (suc (length lines)) (parts_of rest) why
missing lines [] why none is = absurd cc
missing lines (b ∷ rest) why none is = let same : BadLine ≡ why = cc in (λ e. absurd cc, rw none (sym same))

said_last : (e : Evidence) → IsOfOneLine e × EvidenceFits e → (lines : List RefutationLine) × (tokens : List (List ℕ)) × All LineFits lines × (evidence_reading.said lines tokens ≡ Ok (whole e))
said_last (UnwrittenLoad n) ends = ([], unwritten_tokens n, All-nil LineFits, ap said_of (said-tokens 1 1 (Unwritten n) (ends.1, refl)))
said_last (OrderOf ns) ends = ([], order_tokens ns, All-nil LineFits, ap said_of (said-tokens 1 1 (Order ns) (ends.1, refl)))
said_last (Refutation lines) ends = absurd ends.0

said_all : (e : Evidence) → EvidenceFits e → (IsOfOneLine e × EvidenceFits e) ⊎ ((lines : List RefutationLine) × All LineFits lines × (evidence_reading.unended lines [] ≡ Ok e))
said_all (UnwrittenLoad n) fits = inl (tt, fits)
said_all (OrderOf ns) fits = inl (tt, fits)
said_all (Refutation lines) fits = inr (lines, fits, refl)

refused_read : (lines : List RefutationLine) (rest : List ℕ) (why : EvidenceFault) → (rest ≢ []) × AreRefused lines (suc (length lines)) (parts_of rest) why → read_parts evidence_reading lines (parts_of rest) ≡ Err (suc (length lines), why)
unfolding read_parts parts_of
refused_read lines rest why refused = by (parts_of rest) refl refused.1
  where
    by : (parts : List (List ℕ)) → parts_of rest ≡ parts → AreRefused lines (suc (length lines)) parts why → read_parts evidence_reading lines parts ≡ Err (suc (length lines), why)
    by [] is bad = absurd bad
    by ([] ∷ []) is bad = absurd (refused.0 (sym (join_with_byte-slice_split 10 rest) ∙ ap (join_with_byte 10) is))
    by ((b ∷ part) ∷ []) is bad = ap (λ w. Err (suc (length lines), w)) (sym bad)
    by (part ∷ next ∷ parts) is bad = let f = fault_said (suc (length lines)) (number_past 1 lines) (tokens_of part) why bad in rw f.1 (ap (λ w. Err (suc (length lines), w)) f.2)

pub are_read : AreReadBy evidence_texts evidence_reading
are_read = record {
  none = refl;
  line = line;
  unended = unended;
  missing = missing;
  said_one = λ lines l fits. (line_tokens (number_past 1 lines) l, ap said_of (said-tokens (suc (length lines)) (number_past 1 lines) (Refuting l) fits));
  said_last = said_last;
  said_all = said_all;
  refused = refused_read;
}

-- ---- laws

pub spelled_or_refused : (text : List ℕ) → ((e : Evidence) × SpellsEvidence text e) ⊎ ((line : ℕ) × (why : EvidenceFault) × IsEvidenceTextRefusal text line why)
unfolding IsEvidenceTextRefusal
spelled_or_refused text = texts.spelled_or_refused evidence_texts evidence_reading are_read text

pub not_both : (text : List ℕ) (e : Evidence) (line : ℕ) (why : EvidenceFault) → SpellsEvidence text e → IsEvidenceTextRefusal text line why → ⊥
unfolding IsEvidenceTextRefusal
not_both text e line why spells refusal = texts.not_both evidence_texts evidence_reading are_read text e line why spells refusal

pub one_value : (text : List ℕ) (d e : Evidence) → SpellsEvidence text d → SpellsEvidence text e → d ≡ e
one_value text d e one other = texts.one_value evidence_texts evidence_reading are_read text d e one other

pub one_refusal : (text : List ℕ) (j k : ℕ) (v w : EvidenceFault) → IsEvidenceTextRefusal text j v → IsEvidenceTextRefusal text k w → (j ≡ k) × (v ≡ w)
unfolding IsEvidenceTextRefusal
one_refusal text j k v w one other = texts.one_refusal evidence_texts evidence_reading are_read text j k v w one other

-- ---- the reader

pub or_memory : (why : EvidenceFault) → (why ≡ OutOfMemory) ⊎ (why ≢ OutOfMemory)
or_memory BadLine = inr (λ e. absurd cc)
or_memory BadNumber = inr (λ e. absurd cc)
or_memory BadRule = inr (λ e. absurd cc)
or_memory AfterEnd = inr (λ e. absurd cc)
or_memory OutOfMemory = inl refl

abbrev pub evidence_reader : ReaderOf RefutationLine Evidence EvidenceFault EvidenceTextFault
evidence_reader = record { texts = evidence_texts; reading = evidence_reading; laws = are_read; at = λ fault. (fault.line, fault.why); memory = OutOfMemory; or_memory = or_memory }

-- a fault of evidence is OutOfMemory where that of its line is
pub not_memory : (said : CertificateRefusal) → line_fault said ≢ OutOfMemory → said ≢ LineMemory
not_memory said other = λ is. other (ap line_fault is)

-- the answer where no line end follows
pub unended_found : (text rest : List ℕ) (lines : List RefutationLine) (answer : Result Evidence EvidenceTextFault) → IfOk answer (λ e. (e ≡ Refutation lines) × (length rest ≡ 0)) →
    read_parts evidence_reading [] (parts_of text) ≡ on_line (suc (length lines)) (evidence_reading.unended lines rest) → IsFound evidence_reader text answer
unended_found text [] lines (Ok e) found is = is ∙ ap Ok (sym found.0)
unended_found text (b ∷ rest) lines (Ok e) found is = absurd (let none = found.1 in omega (arith, none))
unended_found text rest lines (Err f) found is = tt

pub unended_not : (text rest : List ℕ) (lines : List RefutationLine) (answer : Result Evidence EvidenceTextFault) (refusal : EvidenceTextFault) → IfErr answer (λ fault. (fault ≡ refusal) × (length rest ≡ 0 → ⊥)) → evidence_reader.at refusal ≡ (suc (length lines), BadLine) →
    read_parts evidence_reading [] (parts_of text) ≡ on_line (suc (length lines)) (evidence_reading.unended lines rest) → IsRefused evidence_reader text answer
unended_not text rest lines (Ok e) refusal refused at is = tt
unended_not text [] lines (Err f) refusal refused at is = absurd (refused.1 refl)
unended_not text (b ∷ rest) lines (Err f) refusal refused at is = λ _. is ∙ ap Err (sym (ap evidence_reader.at refused.0 ∙ at))
