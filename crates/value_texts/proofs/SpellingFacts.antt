-- Laws on spelling: the outcome of a text is the evidence that it spells or its one refusal, and it is what the reader makes of the text.
use Rattle.std.proofs.Common.{◌≡◌, ℕ, suc, List, [], ◌∷◌, ◌++◌, length, map, Result, Ok, Err, refl, ap, sym, ◌∙◌, subst, arith, inl, inr, ◌⊎◌, eqb}
use Rattle.std.specs.Prelude.{All, IfOk, IfErr, MatchResult, ◌≢◌}
use Rattle.std.specs.List.{flat_map, join_with_byte}
use Rattle.std.proofs.lemmas.List.{append-nil, map-append}
use Rattle.std.proofs.lemmas.List.Elements.{All-nil}
use Rattle.std.proofs.lemmas.List.Splits.{join_with_byte-slice_split}
use Rattle.line_text.specs.Lines.{line_text, parts_of, tokens_of}
use Rattle.line_text.specs.Readings.{Said, whole, on_line, read_parts}
use Rattle.line_text.specs.Refusals.{ArePartsRefused}
use Rattle.line_text.proofs.CutFacts.{split_parts}
use Rattle.line_text.proofs.ReadingFacts as texts
use Rattle.line_text.proofs.ReadingFacts.{TextsOf, IsRightAfter, AreReadBy, ReaderOf, none_before, IsFound, IsRefused}
use Rattle.value_evidence.specs.declared.refutations.ValueRefutationLine.{ValueRefutationLine}
use Rattle.value_evidence.specs.declared.refutations.LogEvidence.{LogEvidence}
use Rattle.value_texts.specs.declared.names.EventName.{EventName}
use Rattle.value_texts.specs.declared.refusals.ValueTextFault.{ValueTextFault}
use Rattle.value_texts.specs.declared.refusals.ValueTextRefusal.{ValueTextRefusal}
use Rattle.value_texts.specs.declared.refusals.ValueTextRefusal.TheVariants.{BadLine, NoEvent, AfterEnd, OutOfMemory}
use Rattle.value_texts.specs.Printed.{LogEvidenceValue, order_of, refutation_of, log_evidence_value, refutation_line_tokens, log_order_tokens, evidence_text_of_log, OfLineEvents, OfAllEvents}
use Rattle.value_texts.specs.Spelling.{IsNamed, SpellsLogEvidence, IsLogOrder, IsValueTextRefusal, IsValueLineFault}
use Rattle.value_texts.specs.Internal.LineValues.{evidence_line_said}
use Rattle.value_texts.specs.Internal.ReadTexts.{evidence_reading, evidence_answer}
use Rattle.value_texts.proofs.FaultFacts.{refused, fault_said}
use Rattle.value_texts.proofs.LineFacts.{Told, of_refutation, of_order, told, line_read, order_read}
use Rattle.value_texts.proofs.PrintedFacts.{line_cut, order_cut}
use Rattle.line_text.proofs.SplitFacts.{IsCut}

module _ (names : List EventName) where
  -- the parts of what stands after lines of a refutation are refused, on the line of this number
  abbrev AreRefused : ℕ → List (List ℕ) → ValueTextRefusal → Type 0
  AreRefused line parts why = ArePartsRefused BadLine BadLine (IsValueLineFault names line) parts why

  abbrev pub evidence_texts : TextsOf ValueRefutationLine LogEvidenceValue ValueTextRefusal
  evidence_texts = record {
    Fits = OfLineEvents (IsNamed names);
    lines = λ lines. map (refutation_line_tokens names) lines;
    Is = OfAllEvents (IsNamed names);
    Ends = λ e. IsLogOrder e × OfAllEvents (IsNamed names) e;
    text = evidence_text_of_log names;
    Refused = λ lines line rest why. (rest ≢ []) × AreRefused line (parts_of rest) why;
  }

  line : (lines : List ValueRefutationLine) (tokens : List (List ℕ)) → IsRightAfter evidence_texts lines tokens ((evidence_reading names).said lines tokens)
  unfolding evidence_text_of_log parts_of
  line lines tokens = by (evidence_line_said names n tokens) refl
    where
      n : ℕ
      n = suc (length lines)

      -- the text of an order
      alone : (ns : List ℕ) → tokens ≡ log_order_tokens names ns → n ≡ 1 → flat_map line_text (log_order_tokens names ns ∷ []) ≡ flat_map line_text (map (refutation_line_tokens names) lines ++ tokens ∷ [])
      alone ns says first =
          ap (λ ts. flat_map line_text (ts ∷ [])) (sym says) ∙ ap (λ ls. flat_map line_text (map (refutation_line_tokens names) ls ++ tokens ∷ [])) (sym (none_before lines first))

      right : (said : Said ValueRefutationLine LogEvidenceValue) → Told names n tokens said → IsRightAfter evidence_texts lines tokens (Ok said)
      right _ (of_refutation l says named) = (
        subst IsCut (sym says) (line_cut names l),
        named,
        map-append (refutation_line_tokens names) lines (l ∷ []) ∙ ap (λ ts. map (refutation_line_tokens names) lines ++ ts ∷ []) (sym says),
      )
      right _ (of_order ns at says named) = (subst IsCut (sym says) (order_cut names ns), λ _. (named, (tt, named), alone ns says at))

      by : (said : Result (Said ValueRefutationLine LogEvidenceValue) ValueTextRefusal) → evidence_line_said names n tokens ≡ said → IsRightAfter evidence_texts lines tokens said
      by (Err why) is = λ rest line after some parts same. (
        some,
        let p = split_parts (λ b. eqb b 10) after in rw (parts, p.2) (subst (λ ts. IsValueLineFault names n ts why) (sym same) (refused names n tokens why is)),
      )
      by (Ok said) is = right said (told names n tokens said is)

  unended : (lines : List ValueRefutationLine) (rest : List ℕ) (e : LogEvidenceValue) → All (OfLineEvents (IsNamed names)) lines → (evidence_reading names).unended lines rest ≡ Ok e →
      OfAllEvents (IsNamed names) e × (evidence_text_of_log names e ≡ flat_map line_text (map (refutation_line_tokens names) lines) ++ rest)
  unfolding evidence_text_of_log
  unended lines [] e named is = let same : refutation_of lines ≡ e = cc in rw (← same) (named, sym (append-nil (flat_map line_text (map (refutation_line_tokens names) lines))))
  unended lines (b ∷ rest) e named is = absurd cc

  missing : (lines : List ValueRefutationLine) (rest : List ℕ) (why : ValueTextRefusal) → parts_of rest ≡ rest ∷ [] → (evidence_reading names).unended lines rest ≡ Err why →
      (rest ≢ []) × AreRefused (suc (length lines)) (parts_of rest) why
  missing lines [] why none is = absurd cc
  missing lines (b ∷ rest) why none is = let same : BadLine ≡ why = cc in (λ e. absurd cc, rw none (sym same))

  said_last : (e : LogEvidenceValue) → IsLogOrder e × OfAllEvents (IsNamed names) e →
      (lines : List ValueRefutationLine) × (tokens : List (List ℕ)) × All (OfLineEvents (IsNamed names)) lines × ((evidence_reading names).said lines tokens ≡ Ok (whole e))
  said_last (order_of ns) ends = ([], log_order_tokens names ns, All-nil (OfLineEvents (IsNamed names)), order_read names ns ends.1)
  said_last (refutation_of lines) ends = absurd ends.0

  said_all : (e : LogEvidenceValue) → OfAllEvents (IsNamed names) e →
      (IsLogOrder e × OfAllEvents (IsNamed names) e) ⊎ ((lines : List ValueRefutationLine) × All (OfLineEvents (IsNamed names)) lines × ((evidence_reading names).unended lines [] ≡ Ok e))
  said_all (order_of ns) named = inl (tt, named)
  said_all (refutation_of lines) named = inr (lines, named, refl)

  refused_read : (lines : List ValueRefutationLine) (rest : List ℕ) (why : ValueTextRefusal) → (rest ≢ []) × AreRefused (suc (length lines)) (parts_of rest) why →
      read_parts (evidence_reading names) lines (parts_of rest) ≡ Err (suc (length lines), why)
  unfolding read_parts parts_of
  refused_read lines rest why refused = by (parts_of rest) refl refused.1
    where
      by : (parts : List (List ℕ)) → parts_of rest ≡ parts → AreRefused (suc (length lines)) parts why → read_parts (evidence_reading names) lines parts ≡ Err (suc (length lines), why)
      by [] is bad = absurd bad
      by ([] ∷ []) is bad = absurd (refused.0 (sym (join_with_byte-slice_split 10 rest) ∙ ap (join_with_byte 10) is))
      by ((b ∷ part) ∷ []) is bad = ap (λ w. Err (suc (length lines), w)) (sym bad)
      by (part ∷ next ∷ parts) is bad = rw (fault_said names (suc (length lines)) (tokens_of part) why bad) refl

  pub are_read : AreReadBy evidence_texts (evidence_reading names)
  are_read = record {
    none = refl;
    line = line;
    unended = unended;
    missing = missing;
    said_one = λ lines l named. (refutation_line_tokens names l, line_read names (suc (length lines)) l named);
    said_last = said_last;
    said_all = said_all;
    refused = refused_read;
  }

  -- ---- laws

  pub spelled_or_refused : (text : List ℕ) → ((e : LogEvidenceValue) × SpellsLogEvidence names text e) ⊎ ((line : ℕ) × (why : ValueTextRefusal) × IsValueTextRefusal names text line why)
  unfolding IsValueTextRefusal
  spelled_or_refused text = texts.spelled_or_refused evidence_texts (evidence_reading names) are_read text

  pub not_both : (text : List ℕ) (e : LogEvidenceValue) (line : ℕ) (why : ValueTextRefusal) → SpellsLogEvidence names text e → IsValueTextRefusal names text line why → ⊥
  unfolding IsValueTextRefusal
  not_both text e line why spells refusal = texts.not_both evidence_texts (evidence_reading names) are_read text e line why spells refusal

  pub one_value : (text : List ℕ) (d e : LogEvidenceValue) → SpellsLogEvidence names text d → SpellsLogEvidence names text e → d ≡ e
  one_value text d e one other = texts.one_value evidence_texts (evidence_reading names) are_read text d e one other

  pub one_refusal : (text : List ℕ) (j k : ℕ) (v w : ValueTextRefusal) → IsValueTextRefusal names text j v → IsValueTextRefusal names text k w → (j ≡ k) × (v ≡ w)
  unfolding IsValueTextRefusal
  one_refusal text j k v w one other = texts.one_refusal evidence_texts (evidence_reading names) are_read text j k v w one other

-- ---- the reader

pub or_memory : (why : ValueTextRefusal) → (why ≡ OutOfMemory) ⊎ (why ≢ OutOfMemory)
or_memory BadLine = inr (λ e. absurd cc)
or_memory NoEvent = inr (λ e. absurd cc)
or_memory AfterEnd = inr (λ e. absurd cc)
or_memory OutOfMemory = inl refl

abbrev pub evidence_reader : List EventName → ReaderOf ValueRefutationLine LogEvidenceValue ValueTextRefusal ValueTextFault
evidence_reader names = record {
  texts = evidence_texts names;
  reading = evidence_reading names;
  laws = are_read names;
  at = λ fault. (fault.line, fault.why);
  memory = OutOfMemory;
  or_memory = or_memory;
}

-- ---- answers, as contracts see them

pub answer_ok : (P : LogEvidenceValue → Type 0) (answer : Result LogEvidence ValueTextFault) → IfOk answer (λ e. P (log_evidence_value e)) → IfOk (evidence_answer answer) P
answer_ok P (Ok e) holds = holds
answer_ok P (Err fault) holds = tt

pub answer_ended : (value : LogEvidence) (L : Type 0) (answer : Result LogEvidence ValueTextFault) → IfOk answer (λ e. (e ≡ value) × L) → IfOk (evidence_answer answer) (λ e. (e ≡ log_evidence_value value) × L)
answer_ended value L (Ok e) holds = (ap log_evidence_value holds.0, holds.1)
answer_ended value L (Err fault) holds = tt

pub ok_answer : (P : LogEvidenceValue → Type 0) (answer : Result LogEvidence ValueTextFault) → IfOk (evidence_answer answer) P → IfOk answer (λ e. P (log_evidence_value e))
ok_answer P (Ok e) holds = holds
ok_answer P (Err fault) holds = tt

pub answer_err : (P : ValueTextFault → Type 0) (answer : Result LogEvidence ValueTextFault) → IfErr answer P → IfErr (evidence_answer answer) P
answer_err P (Ok e) holds = tt
answer_err P (Err fault) holds = holds

pub err_answer : (P : ValueTextFault → Type 0) (answer : Result LogEvidence ValueTextFault) → IfErr (evidence_answer answer) P → IfErr answer P
err_answer P (Ok e) holds = tt
err_answer P (Err fault) holds = holds

pub match_answer : (P : LogEvidenceValue → Type 0) (Q : ValueTextFault → Type 0) (answer : Result LogEvidence ValueTextFault) → MatchResult (evidence_answer answer) P Q → MatchResult answer (λ e. P (log_evidence_value e)) Q
match_answer P Q (Ok e) holds = holds
match_answer P Q (Err fault) holds = holds

-- ---- where no line end follows

pub unended_found : (names : List EventName) (text rest : List ℕ) (lines : List ValueRefutationLine) (answer : Result LogEvidenceValue ValueTextFault) → IfOk answer (λ e. (e ≡ refutation_of lines) × (length rest ≡ 0)) →
    read_parts (evidence_reading names) [] (parts_of text) ≡ on_line (suc (length lines)) ((evidence_reading names).unended lines rest) → IsFound (evidence_reader names) text answer
unended_found names text [] lines (Ok e) found is = is ∙ ap Ok (sym found.0)
unended_found names text (b ∷ rest) lines (Ok e) found is = absurd (let none = found.1 in omega (arith, none))
unended_found names text rest lines (Err f) found is = tt

pub unended_not : (names : List EventName) (text rest : List ℕ) (lines : List ValueRefutationLine) (answer : Result LogEvidenceValue ValueTextFault) (refusal : ValueTextFault) → IfErr answer (λ fault. (fault ≡ refusal) × (length rest ≡ 0 → ⊥)) →
    (evidence_reader names).at refusal ≡ (suc (length lines), BadLine) → read_parts (evidence_reading names) [] (parts_of text) ≡ on_line (suc (length lines)) ((evidence_reading names).unended lines rest) → IsRefused (evidence_reader names) text answer
unended_not names text rest lines (Ok e) refusal refused at is = tt
unended_not names text [] lines (Err f) refusal refused at is = absurd (refused.1 refl)
unended_not names text (b ∷ rest) lines (Err f) refusal refused at is = λ _. is ∙ ap Err (sym (ap (evidence_reader names).at refused.0 ∙ at))
