-- Laws on the report on two texts, that of a log and that of evidence about it.
use Rattle.std.proofs.Common.{◌≡◌, ◌⊎◌, ◌↔◌, ◌∙◌, ℕ, false, List, ap, sym, subst, inl, inr}
use Rattle.std.proofs.lemmas.Bool.{false≢true}
use Rattle.tso_ops.specs.Values.{TraceValue}
use Rattle.tso_model.specs.Axioms.{IsConsistent}
use Rattle.tso_text.specs.declared.faults.Why.{Why}
use Rattle.log_text.specs.LogTexts.{IsLogRefusal, SpellsLog}
use Rattle.log_text.specs.LogValues.{NumberedLog, log_operations}
use Rattle.log_text.proofs.TextFacts.{never_both, one_log}
use Rattle.log_thinning.specs.IdleSwaps.{with_idle_swaps_read}
use Rattle.log_thinning.proofs.IdleLogs.{idle_swaps_back, idle_swaps_forward}
use Rattle.order_check.proofs.RefusalFacts as orders
use Rattle.value_evidence.proofs.RefutationSoundness.{no_order_beside}
use Rattle.value_texts.specs.declared.names.EventName.{EventName}
use Rattle.value_texts.specs.Names.{event_names}
use Rattle.value_texts.specs.Printed.{LogEvidenceValue, order_of, refutation_of}
use Rattle.value_texts.specs.Spelling.{SpellsLogEvidence}
use Rattle.value_texts.proofs.SpellingFacts.{not_both, one_refusal, one_value}
use Rattle.value_check.proofs.RefusalFacts.{not_refused}
use Rattle.trace_reports.specs.declared.answers.Answer.{Answer}
use Rattle.trace_reports.specs.declared.answers.Answer.TheVariants.{Clear, Violation, Refused}
use Rattle.trace_reports.specs.Reports.{rendered_refusal}
use Rattle.log_evidence.specs.LogChecks.{IsLogCheck, IsLogFailureLine, IsValueLine, IsValueReport, LogEvidenceHolds, SpellHoldingEvidence, SpellOrderedLog, SpellRefutedLog, answer_of_holding, log_order_refused_text, values_refused_text, values_unread_text}
use Rattle.log_evidence.proofs.LogRefusals.{one_log_refusal}
use Rattle.log_evidence.proofs.RefutationRefusals as refutations

-- a text that spells a log isn't refused
pub never_refused : (text : List ℕ) (log : NumberedLog) (line : ℕ) (why : Why) → SpellsLog text log → IsLogRefusal false text line why → ⊥
never_refused text log line why spells refused = never_both false text log line why spells (λ needed. absurd (false≢true needed)) refused

-- the answer of evidence that holds isn't Refused
holding_not_refused : (e : LogEvidenceValue) → Refused ≡ answer_of_holding e → ⊥
holding_not_refused (order_of numbers) is = absurd cc
holding_not_refused (refutation_of lines) is = absurd cc

-- ---- one report

-- evidence that holds isn't refused
failure_fails : (t : TraceValue) (names : List EventName) (e : LogEvidenceValue) (text : List ℕ) → IsLogFailureLine t names e text → LogEvidenceHolds t e → ⊥
failure_fails t names (order_of numbers) text fails holds = orders.not_refused t numbers fails.0 holds fails.1
failure_fails t names (refutation_of lines) text fails holds = not_refused t lines fails.0 holds fails.1

one_failure : (t : TraceValue) (names : List EventName) (e : LogEvidenceValue) (a b : List ℕ) → IsLogFailureLine t names e a → IsLogFailureLine t names e b → a ≡ b
one_failure t names (order_of numbers) a b p q = p.2 ∙ ap (log_order_refused_text names) (orders.one_refusal t numbers p.0 q.0 p.1 q.1) ∙ sym q.2
one_failure t names (refutation_of lines) a b p q = p.2 ∙ ap values_refused_text (refutations.one_refusal t lines p.0 q.0 p.1 q.1) ∙ sym q.2

one_line : (t : TraceValue) (names : List EventName) (e : LogEvidenceValue) (a b : List ℕ) (v w : Answer) → IsValueLine t names e a v → IsValueLine t names e b w → (a ≡ b) × (v ≡ w)
one_line t names e a b v w (inl p) (inl q) = (p.1 ∙ sym q.1, p.2 ∙ sym q.2)
one_line t names e a b v w (inl p) (inr q) = absurd (failure_fails t names e b q.0 p.0)
one_line t names e a b v w (inr p) (inl q) = absurd (failure_fails t names e a p.0 q.0)
one_line t names e a b v w (inr p) (inr q) = (one_failure t names e a b p.0 q.0, p.1 ∙ sym q.1)

one_report : (log : NumberedLog) (input a b : List ℕ) (v w : Answer) → IsValueReport log input a v → IsValueReport log input b w → (a ≡ b) × (v ≡ w)
one_report log input a b v w (inl p) (inl q) =
    let same = one_value (event_names log) input p.0 q.0 p.1 q.1 in
    one_line (log_operations log) (event_names log) q.0 a b v w (subst (λ e. IsValueLine (log_operations log) (event_names log) e a v) same p.2) q.2
one_report log input a b v w (inl p) (inr q) = absurd (not_both (event_names log) input p.0 q.0 q.1 p.1 q.2)
one_report log input a b v w (inr p) (inl q) = absurd (not_both (event_names log) input q.0 p.0 p.1 q.1 p.2)
one_report log input a b v w (inr p) (inr q) =
    let same = one_refusal (event_names log) input p.0 q.0 p.1 q.1 p.2 q.2 in
    (p.3 ∙ ap (λ line. values_unread_text line p.1) same.0 ∙ ap (values_unread_text q.0) same.1 ∙ sym q.3, p.4 ∙ sym q.4)

pub one_check : (log evidence text other : List ℕ) (a b : Answer) → IsLogCheck log evidence text a → IsLogCheck log evidence other b → (text ≡ other) × (a ≡ b)
one_check log evidence text other a b (inl p) (inl q) =
    one_report (with_idle_swaps_read q.0) evidence text other a b (subst (λ read. IsValueReport (with_idle_swaps_read read) evidence text a) (one_log log p.0 q.0 p.1 q.1) p.3) q.3
one_check log evidence text other a b (inl p) (inr q) = absurd (never_refused log p.0 q.0 q.1 p.1 q.2)
one_check log evidence text other a b (inr p) (inl q) = absurd (never_refused log q.0 p.0 p.1 q.1 p.2)
one_check log evidence text other a b (inr p) (inr q) =
    let same = one_log_refusal false log p.0 q.0 p.1 q.1 p.2 q.2 in
    (p.3 ∙ ap (λ line. rendered_refusal log line p.1) same.0 ∙ ap (rendered_refusal log q.0) same.1 ∙ sym q.3, p.4 ∙ sym q.4)

-- ---- what the answer says

-- evidence that holds is reported so
reported_holding : (log : NumberedLog) (input text : List ℕ) (answer : Answer) (e : LogEvidenceValue) → SpellsLogEvidence (event_names log) input e → LogEvidenceHolds (log_operations log) e →
    IsValueReport log input text answer → answer ≡ answer_of_holding e
reported_holding log input text answer e spells holds (inl p) =
    let same = one_value (event_names log) input p.0 e p.1 spells in
    elim (subst (λ d. IsValueLine (log_operations log) (event_names log) d text answer) same p.2) [
      | inl said ↦ said.2
      | inr fails ↦ absurd (failure_fails (log_operations log) (event_names log) e text fails.0 holds)
    ]
reported_holding log input text answer e spells holds (inr p) = absurd (not_both (event_names log) input e p.0 p.1 spells p.2)

-- the answer of two texts that spell evidence which holds
holding_answer : (log evidence text : List ℕ) (answer : Answer) (e : LogEvidenceValue) → IsLogCheck log evidence text answer → SpellHoldingEvidence log evidence e → answer ≡ answer_of_holding e
holding_answer log evidence text answer e (inl p) s =
    reported_holding (with_idle_swaps_read s.0) evidence text answer e s.2 s.3 (subst (λ read. IsValueReport (with_idle_swaps_read read) evidence text answer) (one_log log p.0 s.0 p.1 s.1) p.3)
holding_answer log evidence text answer e (inr p) s = absurd (never_refused log s.0 p.0 p.1 s.1 p.2)

-- What the answer stands on: evidence that holds, or nothing.
data StandsOn (log evidence : List ℕ) (answer : Answer) : Type 0 where
  by_refutation : SpellRefutedLog log evidence → answer ≡ Violation → StandsOn log evidence answer
  by_order : SpellOrderedLog log evidence → answer ≡ Clear → StandsOn log evidence answer
  by_nothing : answer ≡ Refused → StandsOn log evidence answer

stands_on : (log evidence text : List ℕ) (answer : Answer) → IsLogCheck log evidence text answer → StandsOn log evidence answer
stands_on log evidence text answer (inr p) = by_nothing p.4
stands_on log evidence text answer (inl (read, spells, few, inr unread)) = by_nothing unread.4
stands_on log evidence text answer (inl (read, spells, few, inl (e, spelled, inr fails))) = by_nothing fails.1
stands_on log evidence text answer (inl (read, spells, few, inl (order_of numbers, spelled, inl said))) = by_order (numbers, (read, spells, spelled, said.0)) said.2
stands_on log evidence text answer (inl (read, spells, few, inl (refutation_of lines, spelled, inl said))) = by_refutation (lines, (read, spells, spelled, said.0)) said.2

-- the answer is Violation exactly where the texts spell a log and a refutation that holds of it
pub check_violation : (log evidence text : List ℕ) (answer : Answer) → IsLogCheck log evidence text answer → (answer ≡ Violation) ↔ SpellRefutedLog log evidence
check_violation log evidence text answer is = (λ said. by said (stands_on log evidence text answer is), λ s. holding_answer log evidence text answer (refutation_of s.0) is s.1)
  where
    by : answer ≡ Violation → StandsOn log evidence answer → SpellRefutedLog log evidence
    by said (by_refutation s other) = s
    by said (by_order s other) = absurd (let both : Clear ≡ Violation = sym other ∙ said in cc)
    by said (by_nothing other) = absurd (let both : Refused ≡ Violation = sym other ∙ said in cc)

-- and Clear exactly where they spell a log and an order of it
pub check_consistent : (log evidence text : List ℕ) (answer : Answer) → IsLogCheck log evidence text answer → (answer ≡ Clear) ↔ SpellOrderedLog log evidence
check_consistent log evidence text answer is = (λ said. by said (stands_on log evidence text answer is), λ s. holding_answer log evidence text answer (order_of s.0) is s.1)
  where
    by : answer ≡ Clear → StandsOn log evidence answer → SpellOrderedLog log evidence
    by said (by_refutation s other) = absurd (let both : Violation ≡ Clear = sym other ∙ said in cc)
    by said (by_order s other) = s
    by said (by_nothing other) = absurd (let both : Refused ≡ Clear = sym other ∙ said in cc)

-- there is no other answer but Refused
pub check_answer : (log evidence text : List ℕ) (answer : Answer) → IsLogCheck log evidence text answer → (answer ≡ Violation) ⊎ ((answer ≡ Clear) ⊎ (answer ≡ Refused))
check_answer log evidence text answer is = by (stands_on log evidence text answer is)
  where
    by : StandsOn log evidence answer → (answer ≡ Violation) ⊎ ((answer ≡ Clear) ⊎ (answer ≡ Refused))
    by (by_refutation s said) = inl said
    by (by_order s said) = inr (inl said)
    by (by_nothing said) = inr (inr said)

-- a refutation that holds leaves the log no order
pub refuted_no_order : (log evidence : List ℕ) → SpellRefutedLog log evidence → (read : NumberedLog) → SpellsLog log read → IsConsistent (log_operations read) → ⊥
refuted_no_order log evidence (lines, s) read spells consistent =
    no_order_beside (log_operations (with_idle_swaps_read s.0)) lines s.3
    (idle_swaps_forward s.0 (subst (λ (other : NumberedLog). IsConsistent (log_operations other)) (one_log log read s.0 spells s.1) consistent))

-- an order that holds is one of the log with its idle swaps read, and then the log has one
pub ordered_consistent : (log evidence : List ℕ) → SpellOrderedLog log evidence → (read : NumberedLog) → SpellsLog log read → IsConsistent (log_operations read)
ordered_consistent log evidence (order, s) read spells =
    subst (λ (other : NumberedLog). IsConsistent (log_operations other)) (one_log log s.0 read s.1 spells) (idle_swaps_back s.0 (order, s.3))
