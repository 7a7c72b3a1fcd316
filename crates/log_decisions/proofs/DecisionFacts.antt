-- Lemmas on the decision on what a reader has, and on what its answer says.
use Rattle.std.proofs.Common.{◌≡◌, ◌∙◌, ℕ, List, None, Some, IfSome, inl, inr, subst, sym}
use Rattle.std.specs.Prelude.{Option}
use Rattle.tso_model.specs.Axioms.{IsConsistent}
use Rattle.tso_text.specs.declared.faults.Why.{Why}
use Rattle.text_streams.proofs.ReadingFacts.{reads_whole}
use Rattle.log_text.specs.LogTexts.{IsEndedAsNeeded, IsLogRefusal, SpellsLog}
use Rattle.log_text.specs.LogValues.{NumberedLog, log_operations}
use Rattle.log_text.proofs.TextFacts.{one_log}
use Rattle.log_thinning.specs.IdleSwaps.{with_idle_swaps_read}
use Rattle.log_thinning.proofs.IdleLogs.{idle_swaps_back, idle_swaps_forward}
use Rattle.value_evidence.proofs.RefutationSoundness.{no_order_beside}
use Rattle.value_evidence.specs.declared.refutations.LogEvidence.TheVariants.{Order, Refutation}
use Rattle.trace_reports.specs.declared.answers.Answer.{Answer}
use Rattle.trace_reports.specs.declared.answers.Answer.TheVariants as answers
use Rattle.trace_reports.specs.Reports.{rendered_refusal}
use Rattle.log_decisions.specs.declared.deciding.LogQuestion.{LogQuestion}
use Rattle.log_decisions.specs.declared.decisions.LogDecision.{LogDecision}
use Rattle.log_decisions.specs.declared.decisions.LogDecision.TheVariants.{Decided, Undecided}
use Rattle.log_decisions.specs.LogDecisions.{IsDecisionOfLog, IsLogDecision, IsLogDecisionOfReader, IsLogDecisionText, SaysOfLog, answer_of_log}

-- ---- texts

module _ (question : LogQuestion) (remaining : Option (List ℕ)) (bytes seen told : List ℕ) (answer : Answer) (all : IfSome remaining (λ l. bytes ≡ l)) (same : seen ≡ bytes) where
  of_seen : IsLogDecisionText question seen told answer → IsLogDecisionOfReader question remaining told answer
  of_seen is = reads_whole (λ input. IsLogDecisionText question input told answer) remaining bytes all (subst (λ input. IsLogDecisionText question input told answer) same is)

  -- the decision on a log that was read
  pub decided_of_spelled : (log : NumberedLog) → SpellsLog seen log → IsEndedAsNeeded question.needs_end seen → IsDecisionOfLog question.effort log told answer →
      IsLogDecisionOfReader question remaining told answer
  decided_of_spelled log spells ended is = of_seen (inl (log, spells, ended, is))

  -- the refusal of what was read
  pub decided_of_refused : (line : ℕ) (why : Why) → IsLogRefusal question.needs_end seen line why → told ≡ rendered_refusal seen line why → answer ≡ answers.Refused →
      IsLogDecisionOfReader question remaining told answer
  decided_of_refused line why refused says gives = of_seen (inr (line, why, refused, says, gives))

-- ---- what answers say

-- a decision on a log with its idle swaps read says what its answer does of the log
decision_says : (effort : ℕ) (log : NumberedLog) (d : LogDecision) → IsLogDecision effort (log_operations (with_idle_swaps_read log)) d → SaysOfLog (log_operations log) (answer_of_log d)
decision_says effort log (Decided (Order order)) is = idle_swaps_back log (order.items, is)
decision_says effort log (Decided (Refutation lines)) is = λ consistent. no_order_beside (log_operations (with_idle_swaps_read log)) lines.items is (idle_swaps_forward log consistent)
decision_says effort log (Undecided cases) is = tt

text_says : (question : LogQuestion) (input told : List ℕ) (answer : Answer) → IsLogDecisionText question input told answer → (log : NumberedLog) → SpellsLog input log → SaysOfLog (log_operations log) answer
text_says question input told answer (inl (other, spells, ended, decided)) log spelled =
    subst (λ (l : NumberedLog). SaysOfLog (log_operations l) answer) (one_log input other log spells spelled)
    (subst (SaysOfLog (log_operations other)) (sym decided.3) (decision_says question.effort other decided.0 decided.1))
text_says question input told answer (inr (line, why, refused, says, gives)) log spelled = subst (SaysOfLog (log_operations log)) (sym gives) tt

-- of a log that a reader has what the answer says is so
pub reader_says : (question : LogQuestion) (remaining : Option (List ℕ)) (told : List ℕ) (answer : Answer) → IsLogDecisionOfReader question remaining told answer →
    IfSome remaining (λ all. (log : NumberedLog) → SpellsLog all log → SaysOfLog (log_operations log) answer)
reader_says question None told answer is = tt
reader_says question (Some all) told answer is = text_says question all told answer is.of_all
