-- How far a batch has come: its jobs, what was counted, and what was written.
use Rattle.std.specs.Prelude.{◌≡◌, ℕ, suc, ◌+◌, ◌<◌, List, [], ◌++◌, length, get_or, take, Option, IfSome, Result, Ok, Err}
use Rattle.std.specs.Io.KnownBytes.{Appends, Consumes}
use Rattle.trace_streams.specs.StreamSplitters.{IsAt, StreamSplitterValue}
use Rattle.trace_streams.specs.TraceTexts.{IsSplit}
use Rattle.text_streams.specs.declared.faults.Fault.{Fault}
use Rattle.trace_streams.specs.Limits.{trace_read_limit}
use Rattle.text_streams.specs.Readings.{ReadsAs}
use Rattle.text_streams.specs.Streams.{AppendsPrefix}
use Rattle.trace_batches.specs.declared.batches.TextJudging.{TextJudging}
use Rattle.trace_batches.specs.declared.jobs.Job.{Job}
use Rattle.trace_batches.specs.declared.judgments.Judgment.{Judgment}
use Rattle.trace_batches.specs.declared.questions.BatchQuestion.{BatchQuestion}
use Rattle.trace_batches.specs.declared.tallies.Tally.{Tally}
use Rattle.trace_batches.specs.Batches.{AreResults, asked, Counts, IsBatchFault, TextPrinting, count_violations, trace_notes, trace_results_text}
use Rattle.trace_batches.specs.Judgments.{AreJudgments, IsJudgment}

-- ---- jobs

-- what judging the trace text gave: what is said of it, or why nothing is
abbrev pub IsOutcome : BatchQuestion → List ℕ → Result Judgment Fault → Type 0
IsOutcome question piece (Ok judgment) = IsJudgment question piece judgment
IsOutcome question piece (Err fault) = IsBatchFault fault

-- the job holds the trace text, and judged it
abbrev pub IsJobOf : BatchQuestion → List ℕ → Job → Type 0
IsJobOf question piece job = (job.piece.items ≡ piece) × IsOutcome question piece job.outcome

-- these trace texts were judged by the jobs, one each
pub record AreJudged (question : BatchQuestion) (pieces : List (List ℕ)) (jobs : List Job) : Type 0 where
  pub one_each : length jobs ≡ length pieces
  pub each : (i : ℕ) (d : Job) → i < length pieces → IsJobOf question (get_or pieces i []) (get_or jobs i d)

-- ---- what was counted and written

-- What is printed of these trace texts was written, and the notes on them, where so many texts of violations were printed before this text; and their judgments
-- were counted.
pub record WroteAll (of : TextPrinting) (kept : ℕ) (before after : Tally) (pieces : List (List ℕ)) (old new errors_before errors : Option (List ℕ)) : Type 0 where
  pub judgments : List Judgment
  pub are_judgments : AreJudgments (asked of.printing) pieces judgments
  pub counts : (earlier : List Judgment) → Counts before earlier → Counts after (earlier ++ judgments)
  pub traces : after.traces ≡ before.traces + length judgments
  pub violations : after.violations ≡ before.violations + count_violations judgments
  pub written : Appends old new (trace_results_text of (suc before.traces) pieces judgments)
  pub noted : Appends errors_before errors (trace_notes of (kept + before.violations) (suc before.traces) judgments)

-- A prefix of what is printed of the first of these trace texts was written, and one of the notes on them.
pub record WroteSome (of : TextPrinting) (kept : ℕ) (before : Tally) (pieces : List (List ℕ)) (old new errors_before errors : Option (List ℕ)) : Type 0 where
  pub count : ℕ
  pub judgments : List Judgment
  pub are_judgments : AreJudgments (asked of.printing) (take count pieces) judgments
  pub written : AppendsPrefix old new (trace_results_text of (suc before.traces) (take count pieces) judgments)
  pub noted : AppendsPrefix errors_before errors (trace_notes of (kept + before.violations) (suc before.traces) judgments)

-- ---- the whole

-- All that was read is cut, and what is printed of all trace texts that ended in it is written, and the notes on them.
pub record HasWrittenSoFar (of : TextPrinting) (kept : ℕ) (remaining now old new errors_before errors : Option (List ℕ)) (splitter : StreamSplitterValue) (tally : Tally) : Type 0 where
  pub bytes : List ℕ
  pub taken : Consumes remaining now bytes
  pub ended : List (List ℕ)
  pub rest : List ℕ
  pub cut : IsSplit bytes ended rest
  pub limit : splitter.limit ≡ trace_read_limit
  pub at : IsAt splitter rest
  pub judgments : List Judgment
  pub are_judgments : AreJudgments (asked of.printing) ended judgments
  pub counts : Counts tally judgments
  pub written : Appends old new (trace_results_text of 1 ended judgments)
  pub noted : Appends errors_before errors (trace_notes of kept 1 judgments)

-- All of the stream was read, and what is printed of its trace texts is written, and the notes on them.
pub record HasWrittenAll (of : TextPrinting) (kept : ℕ) (remaining old new errors_before errors : Option (List ℕ)) (tally : Tally) : Type 0 where
  pub stream : List ℕ
  pub all : IfSome remaining (λ bytes. stream ≡ bytes)
  pub pieces : List (List ℕ)
  pub judgments : List Judgment
  pub are_results : AreResults (asked of.printing) stream pieces judgments
  pub counts : Counts tally judgments
  pub written : Appends old new (trace_results_text of 1 pieces judgments)
  pub noted : Appends errors_before errors (trace_notes of kept 1 judgments)

-- A prefix of what is printed of the trace texts of the stream was written, and one of the notes on them.
abbrev pub LeavesTraceTexts : TextPrinting → ℕ → Option (List ℕ) → Option (List ℕ) → Option (List ℕ) → Option (List ℕ) → Option (List ℕ) → Type 0
LeavesTraceTexts of kept remaining old new errors_before errors =
    (pieces : List (List ℕ)) × (judgments : List Judgment) × ReadsAs remaining (λ stream. AreResults (asked of.printing) stream pieces judgments) × AppendsPrefix old new (trace_results_text of 1 pieces judgments)
    × AppendsPrefix errors_before errors (trace_notes of kept 1 judgments)

-- how the trace texts of a text are printed
abbrev pub printing_by : TextJudging → TextPrinting
printing_by judging = record { printing = judging.options.printing; label = judging.label.now }
