-- What is said of a trace text of a stream, which stands in each text of a batch.
use Rattle.std.specs.Prelude.{◌≡◌, ℕ, Bool, true, false, List, [], ◌∷◌, Option, Some, None, if◌then◌else◌}
use Rattle.tso_ops.specs.Values.{TraceValue}
use Rattle.tso_text.specs.Refusals.{IsTraceRefusal}
use Rattle.tso_text.specs.Texts.{SpellsTrace}
use Rattle.tso_model.specs.Axioms.{IsConsistent}
use Rattle.request_options.specs.declared.batches.BatchMethod.{BatchMethod}
use Rattle.request_options.specs.declared.batches.BatchMethod.TheVariants.{Judge, Decide}
use Rattle.trace_batches.specs.declared.judgments.Judgment.{Judgment}
use Rattle.trace_batches.specs.declared.judgments.Judgment.TheVariants.{NoViolation, Violation, Consistent, Undecided, Refused}
use Rattle.trace_batches.specs.declared.questions.BatchQuestion.{BatchQuestion}
use Rattle.trace_reports.specs.declared.verdicts.Verdict.{Verdict}
use Rattle.trace_reports.specs.declared.verdicts.Verdict.TheVariants as verdict
use Rattle.trace_reports.specs.Renderings.{IsTextOfTrace}
use Rattle.trace_reports.specs.Violations.{IsViolation}
use Rattle.trace_reports.specs.declared.answers.Answer.TheVariants as answer
use Rattle.trace_decisions.specs.DecisionTexts.{IsDecisionText}
use Rattle.trace_explanation.specs.Explained.{explained}
use Rattle.decision_explanation.specs.Explained.{decision_explained}

-- ---- questions

-- it is asked by this method what is to be said of a trace, and whether also what explains a violation
abbrev pub asking : BatchMethod → Bool → BatchQuestion
asking method explains = record { method = method; explains = explains }

-- The text explains why the trace is a violation: it is what an explanation says, of what is found of the trace or of a decision on it.
abbrev pub ExplainsViolation : BatchMethod → TraceValue → List ℕ → Type 0
ExplainsViolation Judge t text = IsTextOfTrace explained t text verdict.Violation
ExplainsViolation (Decide effort) t text = IsDecisionText decision_explained effort t text answer.Violation

-- beside a violation stands what explains it exactly where that is asked for
abbrev pub IsBody : BatchQuestion → TraceValue → Option (List ℕ) → Type 0
IsBody question t None = question.explains ≡ false
IsBody question t (Some text) = (question.explains ≡ true) × ExplainsViolation question.method t text

-- this text where it is asked for
abbrev pub body_of : Bool → List ℕ → Option (List ℕ)
body_of explains text = if explains then Some text else None

-- ---- judgments

-- This is said of a trace: by the rules, that it is a violation or that it is none; by a decision, that it has an order or that it has none, or, after
-- as many steps as were allowed, only that it is no violation by the rules.
abbrev pub IsJudgmentOf : BatchMethod → TraceValue → Judgment → Type 0
IsJudgmentOf Judge t NoViolation = IsViolation t → ⊥
IsJudgmentOf Judge t (Violation body) = IsViolation t
IsJudgmentOf Judge t Consistent = ⊥
IsJudgmentOf Judge t (Undecided steps) = ⊥
IsJudgmentOf Judge t (Refused fault) = ⊥
IsJudgmentOf (Decide effort) t NoViolation = ⊥
IsJudgmentOf (Decide effort) t (Violation body) = IsConsistent t → ⊥
IsJudgmentOf (Decide effort) t Consistent = IsConsistent t
IsJudgmentOf (Decide effort) t (Undecided steps) = (steps ≡ effort) × (IsViolation t → ⊥)
IsJudgmentOf (Decide effort) t (Refused fault) = ⊥

-- the same, with what stands beside a violation
abbrev pub IsJudgmentOn : BatchQuestion → TraceValue → Judgment → Type 0
IsJudgmentOn question t (Violation body) = IsJudgmentOf question.method t (Violation body) × IsBody question t body
IsJudgmentOn question t NoViolation = IsJudgmentOf question.method t NoViolation
IsJudgmentOn question t Consistent = IsJudgmentOf question.method t Consistent
IsJudgmentOn question t (Undecided steps) = IsJudgmentOf question.method t (Undecided steps)
IsJudgmentOn question t (Refused fault) = ⊥

-- This is said of the trace text: what is said of the trace that it spells; or at which line it is refused, and why.
abbrev pub IsJudgment : BatchQuestion → List ℕ → Judgment → Type 0
IsJudgment question piece (Refused fault) = IsTraceRefusal piece fault.line fault.why
IsJudgment question piece NoViolation = (t : TraceValue) × SpellsTrace piece t × IsJudgmentOn question t NoViolation
IsJudgment question piece (Violation body) = (t : TraceValue) × SpellsTrace piece t × IsJudgmentOn question t (Violation body)
IsJudgment question piece Consistent = (t : TraceValue) × SpellsTrace piece t × IsJudgmentOn question t Consistent
IsJudgment question piece (Undecided steps) = (t : TraceValue) × SpellsTrace piece t × IsJudgmentOn question t (Undecided steps)

-- these are the judgments of the trace texts, one each, in order
abbrev pub AreJudgments : BatchQuestion → List (List ℕ) → List Judgment → Type 0
AreJudgments question [] [] = Unit {0}
AreJudgments question [] (judgment ∷ judgments) = ⊥
AreJudgments question (piece ∷ pieces) [] = ⊥
AreJudgments question (piece ∷ pieces) (judgment ∷ judgments) = IsJudgment question piece judgment × AreJudgments question pieces judgments

-- the same without what explains a violation
abbrev pub plain : Judgment → Judgment
plain (Violation body) = Violation None
plain NoViolation = NoViolation
plain Consistent = Consistent
plain (Undecided steps) = Undecided steps
plain (Refused fault) = Refused fault

-- the verdict of the trace text's report, where the rules say it
abbrev pub judgment_verdict : Judgment → Verdict
judgment_verdict NoViolation = verdict.NoViolation
judgment_verdict (Violation body) = verdict.Violation
judgment_verdict Consistent = verdict.NoViolation
judgment_verdict (Undecided steps) = verdict.NoViolation
judgment_verdict (Refused fault) = verdict.Refused

-- it says a violation
abbrev pub says_violation : Judgment → Bool
says_violation (Violation body) = true
says_violation _ = false

-- it says an order
abbrev pub says_consistent : Judgment → Bool
says_consistent Consistent = true
says_consistent _ = false

-- it says neither
abbrev pub says_undecided : Judgment → Bool
says_undecided (Undecided steps) = true
says_undecided _ = false

-- it says a refusal
abbrev pub says_refused : Judgment → Bool
says_refused (Refused fault) = true
says_refused _ = false

-- the trace text was judged: it is neither refused nor undecided
abbrev pub is_judged : Judgment → Bool
is_judged (Undecided steps) = false
is_judged (Refused fault) = false
is_judged _ = true
