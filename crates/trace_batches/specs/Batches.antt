-- The texts of a batch of several texts: a line for each of their trace texts and a last line, or those of their trace texts that are violations.
use Rattle.std.specs.Prelude.{◌≡◌, ◌+◌, ℕ, suc, Bool, true, false, List, [], ◌∷◌, ◌++◌, Option, Some, None, length, map, if◌then◌else◌}
use Rattle.std.specs.Io.KnownBytes.{Appends}
use Rattle.std.specs.List.{count_by, list_any}
use Rattle.request_options.specs.declared.batches.BatchFormat.{BatchFormat}
use Rattle.request_options.specs.declared.batches.BatchFormat.TheVariants.{Words, Json, Junit}
use Rattle.request_options.specs.declared.batches.BatchPrinting.{BatchPrinting}
use Rattle.trace_batches.specs.declared.begun.Batch.{Batch}
use Rattle.trace_batches.specs.declared.judgments.Judgment.{Judgment}
use Rattle.trace_batches.specs.declared.judgments.Judgment.TheVariants as judged
use Rattle.trace_batches.specs.declared.questions.BatchQuestion.{BatchQuestion}
use Rattle.trace_reports.specs.declared.answers.Answer.{Answer}
use Rattle.trace_reports.specs.declared.answers.Answer.TheVariants.{Clear, Violation, Undecided, Refused, Unread}
use Rattle.trace_batches.specs.declared.tallies.Tally.{Tally}
use Rattle.trace_batches.specs.BatchLines.{are_too_few, few_text, head_of, kept_line, read_fault_text, total_line, trace_line, unread_line}
use Rattle.trace_batches.specs.BatchNames.{text_label}
use Rattle.trace_batches.specs.Judgments.{AreJudgments, asking, is_judged, says_consistent, says_refused, says_undecided, says_violation}
use Rattle.trace_streams.specs.TraceTexts.{AreTraceTexts}
use Rattle.text_streams.specs.declared.faults.Fault.{Fault}
use Rattle.text_streams.specs.declared.faults.Fault.TheVariants.{Missing}
use Rattle.text_streams.specs.Streams.{AppendsPrefix}
use Rattle.text_streams.specs.Readings.{ReadsAs}

-- ---- the question

-- a document in JUnit's XML says what explains a violation
abbrev pub has_bodies : BatchFormat → Bool
has_bodies Words = false
has_bodies Json = false
has_bodies Junit = true

-- what is asked of each trace of a batch that is printed so
abbrev pub asked : BatchPrinting → BatchQuestion
asked printing = asking printing.method (if printing.violations then false else has_bodies printing.format)

-- ---- the results

-- The results of a stream: its trace texts, in order, and what is said of each.
pub record AreResults (question : BatchQuestion) (stream : List ℕ) (pieces : List (List ℕ)) (judgments : List Judgment) : Type 0 where
  pub are_trace_texts : AreTraceTexts stream pieces
  pub are_judgments : AreJudgments question pieces judgments

-- a text of a batch: its name where lines have one, its bytes where these are known, and whether it can't be read, as where its file can't be opened
pub record BatchText : Type 0 where
  pub name : Option (List ℕ)
  pub bytes : Option (List ℕ)
  pub is_unread : Bool

-- a text that is read
abbrev pub readable_text : Option (List ℕ) → Option (List ℕ) → BatchText
readable_text name bytes = record { name = name; bytes = bytes; is_unread = false }

-- a text that can't be read
abbrev pub unreadable_text : Option (List ℕ) → BatchText
unreadable_text name = record { name = name; bytes = None; is_unread = true }

-- what is found of a text: whether it can't be read, its trace texts, in order, and what is said of each, under its name
pub record TextResults : Type 0 where
  pub name : Option (List ℕ)
  pub is_unread : Bool
  pub pieces : List (List ℕ)
  pub judgments : List Judgment

-- These are the trace texts of a text, and what is said of each. One that can't be read has none.
abbrev pub AreFound : BatchQuestion → Bool → Option (List ℕ) → List (List ℕ) → List Judgment → Type 0
AreFound question true bytes pieces judgments = (pieces ≡ []) × (judgments ≡ [])
AreFound question false bytes pieces judgments = ReadsAs bytes (λ stream. AreResults question stream pieces judgments)

-- these are the results of the text
abbrev pub AreResultsOf : BatchQuestion → BatchText → TextResults → Type 0
AreResultsOf question text results =
    (results.name ≡ text.name) × (results.is_unread ≡ text.is_unread) × AreFound question text.is_unread text.bytes results.pieces results.judgments

-- these are the results of the texts, one each, in order
abbrev pub AreResultsOfAll : BatchQuestion → List BatchText → List TextResults → Type 0
AreResultsOfAll question [] [] = Unit {0}
AreResultsOfAll question [] (results ∷ all) = ⊥
AreResultsOfAll question (text ∷ texts) [] = ⊥
AreResultsOfAll question (text ∷ texts) (results ∷ all) = AreResultsOf question text results × AreResultsOfAll question texts all

-- what is said of all trace texts of all texts
abbrev pub all_judgments : List TextResults → List Judgment
all_judgments [] = []
all_judgments (results ∷ all) = results.judgments ++ all_judgments all

-- a text can't be read
abbrev pub any_unread : List TextResults → Bool
any_unread all = list_any (λ (results : TextResults). results.is_unread) all

-- how many are violations
abbrev pub count_violations : List Judgment → ℕ
count_violations judgments = count_by says_violation judgments

-- how many were judged
abbrev pub count_judged : List Judgment → ℕ
count_judged judgments = count_by is_judged judgments

-- Violation where a judgment says so, else Refused or Undecided where one says that, else Undecided where fewer were judged than have to be
abbrev pub batch_verdict : Option ℕ → List Judgment → Answer
batch_verdict required judgments =
    if list_any says_violation judgments then Violation
    else if list_any says_refused judgments then Refused
    else if list_any says_undecided judgments then Undecided
    else if are_too_few required (count_judged judgments) then Undecided
    else Clear

-- but Unread before all others where a text can't be read
abbrev pub verdict_with : Bool → Option ℕ → List Judgment → Answer
verdict_with is_unread required judgments = if is_unread then Unread else batch_verdict required judgments

abbrev pub verdict_of_all : Option ℕ → List TextResults → Answer
verdict_of_all required all = verdict_with (any_unread all) required (all_judgments all)

-- ---- the head, and what is a note

-- The head precedes lines, and no texts of violations.
abbrev pub batch_head_text : BatchPrinting → List ℕ
batch_head_text printing = if printing.violations then [] else head_of printing.format

-- a note is no document: in its place it is in words
abbrev pub note_format : BatchFormat → BatchFormat
note_format Junit = Words
note_format format = format

-- the format of the last line, and of each note
abbrev pub last_format : BatchPrinting → BatchFormat
last_format printing = if printing.violations then note_format printing.format else printing.format

-- The last line follows lines, and is a note beside texts of violations; and so is the line of a text that can't be read.
abbrev pub last_text : BatchPrinting → List ℕ → List ℕ
last_text printing line = if printing.violations then [] else line

abbrev pub note_text : BatchPrinting → List ℕ → List ℕ
note_text printing line = if printing.violations then line else []

-- ---- what is printed of a text

-- how trace texts of a text are printed, and its label
pub record TextPrinting : Type 0 where
  pub printing : BatchPrinting
  pub label : List ℕ

-- a quiet batch leaves out the lines of traces without a violation, and of consistent ones
abbrev pub is_left_out : Bool → Judgment → Bool
is_left_out quiet judged.NoViolation = quiet
is_left_out quiet judged.Consistent = quiet
is_left_out quiet _ = false

abbrev pub written_line : TextPrinting → ℕ → Judgment → List ℕ
written_line of number judgment = if is_left_out of.printing.quiet judgment then [] else trace_line of.printing.format of.label number judgment

-- the trace text as it came where it is a violation, and nothing of others
abbrev pub violating_text : List ℕ → Judgment → List ℕ
violating_text piece (judged.Violation body) = piece
violating_text piece _ = []

-- what is printed of the trace text of this number: its text where it is a violation, or its line
abbrev pub trace_result_text : TextPrinting → ℕ → List ℕ → Judgment → List ℕ
trace_result_text of number piece judgment = if of.printing.violations then violating_text piece judgment else written_line of number judgment

-- what is printed of trace texts, the first of which has this number, by their judgments
abbrev pub trace_results_text : TextPrinting → ℕ → List (List ℕ) → List Judgment → List ℕ
trace_results_text of number (piece ∷ pieces) (judgment ∷ judgments) = trace_result_text of number piece judgment ++ trace_results_text of (suc number) pieces judgments
trace_results_text of number _ _ = []

-- how many texts of violations are printed up to a trace text of which this is said, where there were so many before
abbrev pub kept_with : ℕ → Judgment → ℕ
kept_with kept judgment = if says_violation judgment then kept + 1 else kept

-- of a trace text that is printed it is noted which it is, and nothing of others
abbrev pub kept_note : BatchFormat → List ℕ → ℕ → ℕ → Judgment → List ℕ
kept_note format label kept number (judged.Violation body) = kept_line format label kept number
kept_note format label kept number _ = []

-- the note on the trace text of this number, beside texts of violations
abbrev pub trace_note : TextPrinting → ℕ → ℕ → Judgment → List ℕ
trace_note of kept number judgment = if of.printing.violations then kept_note (last_format of.printing) of.label kept number judgment else []

-- the notes on trace texts, the first of which has this number, by their judgments, where so many texts of violations were printed before
abbrev pub trace_notes : TextPrinting → ℕ → ℕ → List Judgment → List ℕ
trace_notes of kept number [] = []
trace_notes of kept number (judgment ∷ judgments) = trace_note of (kept_with kept judgment) number judgment ++ trace_notes of (kept_with kept judgment) (suc number) judgments

-- how a text of this name is printed
abbrev pub under_name : BatchPrinting → Option (List ℕ) → TextPrinting
under_name printing name = record { printing = printing; label = text_label (last_format printing) name }

-- the line of a text of this name that can't be read
abbrev pub unread_text_line : BatchPrinting → Option (List ℕ) → List ℕ
unread_text_line printing name = unread_line (last_format printing) (text_label (last_format printing) name)

-- what is printed of a text, whose trace texts are numbered from 1
abbrev pub results_text : BatchPrinting → TextResults → List ℕ
results_text printing results =
    if results.is_unread then last_text printing (unread_text_line printing results.name)
    else trace_results_text (under_name printing results.name) 1 results.pieces results.judgments

-- the notes on a text, where so many texts of violations were printed before
abbrev pub results_notes : BatchPrinting → ℕ → TextResults → List ℕ
results_notes printing kept results =
    if results.is_unread then note_text printing (unread_text_line printing results.name)
    else trace_notes (under_name printing results.name) kept 1 results.judgments

-- ---- what is printed of all

abbrev pub results_texts : BatchPrinting → List TextResults → List ℕ
results_texts printing [] = []
results_texts printing (results ∷ all) = results_text printing results ++ results_texts printing all

-- the notes on texts, where so many texts of violations were printed before
abbrev pub results_notes_of_all : BatchPrinting → ℕ → List TextResults → List ℕ
results_notes_of_all printing kept [] = []
results_notes_of_all printing kept (results ∷ all) = results_notes printing kept results ++ results_notes_of_all printing (kept + count_violations results.judgments) all

-- the last line after these judgments
abbrev pub last_line : BatchPrinting → List Judgment → List ℕ
last_line printing judgments = total_line (last_format printing) printing.method judgments

-- the notes at the end: the last line where it is one, that too few were judged where it is so, and that a text can't be read where there is one
abbrev pub end_notes : BatchPrinting → List TextResults → List ℕ
end_notes printing all =
    note_text printing (last_line printing (all_judgments all)) ++ (few_text printing.required (count_judged (all_judgments all)) ++ read_fault_text (any_unread all))

-- all notes: those on texts, and those at the end
abbrev pub notes_text : BatchPrinting → List TextResults → List ℕ
notes_text printing all = results_notes_of_all printing 0 all ++ end_notes printing all

-- The text and the notes are those of the batch of these texts, by their results.
pub record IsBatch (printing : BatchPrinting) (texts : List BatchText) (text notes : List ℕ) (verdict : Answer) : Type 0 where
  pub all : List TextResults
  pub are_results : AreResultsOfAll (asked printing) texts all
  pub whole : text ≡ batch_head_text printing ++ (results_texts printing all ++ last_text printing (last_line printing (all_judgments all)))
  pub noted : notes ≡ notes_text printing all
  pub says : verdict ≡ verdict_of_all printing.required all

-- ---- what is written

-- known bytes of the writer grow by the text of the batch of these texts, and those of the errors by its notes
abbrev pub WritesBatch : BatchPrinting → List BatchText → Option (List ℕ) → Option (List ℕ) → Option (List ℕ) → Option (List ℕ) → Answer → Type 0
WritesBatch printing texts old new before after verdict =
    (text : List ℕ) × (notes : List ℕ) × IsBatch printing texts text notes verdict × Appends old new text × Appends before after notes

-- known bytes of the writer grow by a prefix of the text of the batch, and those of the errors by one of its notes
abbrev pub LeavesBatch : BatchPrinting → List BatchText → Option (List ℕ) → Option (List ℕ) → Option (List ℕ) → Option (List ℕ) → Type 0
LeavesBatch printing texts old new before after =
    (verdict : Answer) × (text : List ℕ) × (notes : List ℕ) × IsBatch printing texts text notes verdict × AppendsPrefix old new text × AppendsPrefix before after notes

-- a text without a name, alone
abbrev pub one_text : Option (List ℕ) → List BatchText
one_text bytes = readable_text None bytes ∷ []

-- texts that are known, each with its name where lines have one
abbrev pub known_texts : List (Option (List ℕ) × List ℕ) → List BatchText
known_texts streams = map (λ stream. readable_text stream.0 (Some stream.1)) streams

-- the faults that a batch has
abbrev pub IsBatchFault : Fault → Type 0
IsBatchFault (Missing seed) = ⊥
IsBatchFault _ = Unit {0}

-- ---- a batch that has begun

-- these are the numbers of the judgments
pub record Counts (tally : Tally) (judgments : List Judgment) : Type 0 where
  pub traces : tally.traces ≡ length judgments
  pub consistent : tally.consistent ≡ count_by says_consistent judgments
  pub violations : tally.violations ≡ count_by says_violation judgments
  pub undecided : tally.undecided ≡ count_by says_undecided judgments
  pub refused : tally.refused ≡ count_by says_refused judgments

-- The batch prints so, and has judged texts that have these results.
pub record HasJudged (batch : Batch) (printing : BatchPrinting) (all : List TextResults) : Type 0 where
  pub prints : batch.options.printing ≡ printing
  pub counts : Counts batch.tally (all_judgments all)
  pub unread : batch.is_unread ≡ any_unread all

-- the notes on a text that is judged after these
abbrev pub next_notes : BatchPrinting → List TextResults → TextResults → List ℕ
next_notes printing all results = results_notes printing (count_violations (all_judgments all)) results

-- The next text was judged: what is printed of it was written, and the notes on it.
abbrev pub Judges : BatchText → Batch → Batch → Option (List ℕ) → Option (List ℕ) → Option (List ℕ) → Option (List ℕ) → Type 0
Judges text before after old new errors_before errors = (printing : BatchPrinting) (all : List TextResults) → HasJudged before printing all →
    (results : TextResults) × AreResultsOf (asked printing) text results × HasJudged after printing (all ++ results ∷ []) × Appends old new (results_text printing results)
    × Appends errors_before errors (next_notes printing all results)

-- A prefix of what is printed of the next text was written, and one of the notes on it.
abbrev pub LeavesText : BatchText → Batch → Option (List ℕ) → Option (List ℕ) → Option (List ℕ) → Option (List ℕ) → Type 0
LeavesText text before old new errors_before errors = (printing : BatchPrinting) (all : List TextResults) → HasJudged before printing all →
    (results : TextResults) × AreResultsOf (asked printing) text results × AppendsPrefix old new (results_text printing results)
    × AppendsPrefix errors_before errors (next_notes printing all results)

-- The last line was written, and the notes; or a prefix of each.
pub record EndsBatch (batch : Batch) (old new before after : Option (List ℕ)) (verdict : Answer) : Type 0 where
  pub written : (printing : BatchPrinting) (all : List TextResults) → HasJudged batch printing all → Appends old new (last_text printing (last_line printing (all_judgments all)))
  pub noted : (printing : BatchPrinting) (all : List TextResults) → HasJudged batch printing all → Appends before after (end_notes printing all)
  pub says : (printing : BatchPrinting) (all : List TextResults) → HasJudged batch printing all → verdict ≡ verdict_of_all printing.required all

pub record LeavesEnd (batch : Batch) (old new before after : Option (List ℕ)) : Type 0 where
  pub written : (printing : BatchPrinting) (all : List TextResults) → HasJudged batch printing all → AppendsPrefix old new (last_text printing (last_line printing (all_judgments all)))
  pub noted : (printing : BatchPrinting) (all : List TextResults) → HasJudged batch printing all → AppendsPrefix before after (end_notes printing all)

-- A batch that has judged just these texts, and has written what is printed of them, after the head, and the notes on them.
pub record HasWritten (batch : Batch) (printing : BatchPrinting) (texts : List BatchText) (old new before after : Option (List ℕ)) : Type 0 where
  pub all : List TextResults
  pub are_results : AreResultsOfAll (asked printing) texts all
  pub judged : HasJudged batch printing all
  pub written : Appends old new (batch_head_text printing ++ results_texts printing all)
  pub noted : Appends before after (results_notes_of_all printing 0 all)
