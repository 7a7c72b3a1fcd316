-- How often a stream of traces has each of the traces that complete runs of a program leave.
use Rattle.std.specs.Prelude.{◌≡◌, ◌≢◌, ◌⊎◌, ℕ, zero, suc, ◌+◌, ◌==◌, Bool, true, false, List, [], ◌∷◌, ◌++◌, codes, length, slice_get, Option, Some, if◌then◌else◌, cond, nat_lt}
use Rattle.std.specs.Fmt.{decimal}
use Rattle.std.specs.List.{count_by}
use Rattle.tso_ops.specs.declared.settings.Order.{Order}
use Rattle.tso_ops.specs.declared.settings.Order.TheVariants.{Tso, Pso}
use Rattle.tso_ops.specs.Values.{ProgramValue, TraceValue, program_of}
use Rattle.tso_text.specs.Refusals.{IsRefusedTrace}
use Rattle.tso_text.specs.Texts.{SpellsTrace}
use Rattle.trace_streams.specs.TraceTexts.{AreTraceTexts}
use Rattle.trace_reports.specs.declared.answers.Answer.{Answer}
use Rattle.trace_reports.specs.declared.answers.Answer.TheVariants.{Clear, Refused, Undecided, Violation}
use Rattle.text_streams.specs.Readings.{ReadsAs}
use Rattle.final_states.specs.FinalStates.{IsRunTrace}
use Rattle.outcome_reports.specs.Outcomes.{AreTracesOf, IsRefusedByStates, IsWrittenOfProgram}
use Rattle.outcome_reports.specs.StateLines.{reads_line}
use Rattle.outcome_reports.specs.declared.classes.TraceClass.{TraceClass}
use Rattle.outcome_reports.specs.declared.classes.TraceClass.TheVariants.{Reached, Unreached, Foreign}

-- what a trace text of a stream is to the traces of a program's runs: the trace of this place, from 0; a trace of the program that no complete run leaves; or
-- no trace of the program
abbrev pub IsClassOfText : ProgramValue → List TraceValue → List ℕ → TraceClass → Type 0
IsClassOfText program traces piece (Reached k) = (t : TraceValue) × SpellsTrace piece t × (slice_get traces k ≡ Some t)
IsClassOfText program traces piece Unreached = (t : TraceValue) × SpellsTrace piece t × (program_of t ≡ program) × (IsRunTrace program t → ⊥)
IsClassOfText program traces piece Foreign = IsRefusedTrace piece ⊎ ((t : TraceValue) × SpellsTrace piece t × (program_of t ≢ program))

-- what each of the trace texts is, in order
abbrev pub AreClassesOf : ProgramValue → List TraceValue → List (List ℕ) → List TraceClass → Type 0
AreClassesOf program traces [] [] = Unit {0}
AreClassesOf program traces (piece ∷ pieces) (class ∷ classes) = IsClassOfText program traces piece class × AreClassesOf program traces pieces classes
AreClassesOf program traces _ _ = ⊥

abbrev pub is_seen : ℕ → TraceClass → Bool
is_seen k (Reached j) = j == k
is_seen k _ = false

abbrev pub is_unreached : TraceClass → Bool
is_unreached Unreached = true
is_unreached _ = false

abbrev pub is_foreign : TraceClass → Bool
is_foreign Foreign = true
is_foreign _ = false

-- ---- what is printed

-- how often each trace was seen, and what was read there, from place k on
abbrev pub count_lines : List TraceClass → ℕ → List TraceValue → List ℕ
count_lines classes k [] = []
count_lines classes k (t ∷ traces) = decimal (count_by (is_seen k) classes) ++ 32 ∷ reads_line t ++ count_lines classes (suc k) traces

-- how many of so many traces, from place k on, were seen
abbrev pub seen_count : List TraceClass → ℕ → ℕ → ℕ
seen_count classes k zero = 0
seen_count classes k (suc count) = cond (nat_lt 0 (count_by (is_seen k) classes)) 1 0 + seen_count classes (suc k) count

-- how often so many traces, from place k on, were seen
abbrev pub seen_total : List TraceClass → ℕ → ℕ → ℕ
seen_total classes k zero = 0
seen_total classes k (suc count) = count_by (is_seen k) classes + seen_total classes (suc k) count

-- the word for traces that no complete run leaves: under TSO no memory order meets the axioms; under PSO one may
abbrev pub unreached_word : Order → List ℕ
unreached_word Tso = codes "Violations "
unreached_word Pso = codes "Undecided "

-- the verdict of as many traces that no complete run leaves
abbrev pub unreached_verdict : Order → Answer
unreached_verdict Tso = Violation
unreached_verdict Pso = Undecided

abbrev pub seen_text : Order → List TraceValue → List TraceClass → List ℕ
seen_text order traces classes =
    codes "Traces " ++ decimal (length traces) ++ 10 ∷ count_lines classes 0 traces
    ++ codes "Seen " ++ decimal (seen_count classes 0 (length traces)) ++ 10 ∷ unreached_word order ++ decimal (count_by is_unreached classes)
    ++ 10 ∷ codes "Refused " ++ decimal (count_by is_foreign classes) ++ 10 ∷ []

-- Violation before Refused before Undecided
abbrev pub seen_verdict : Order → List TraceClass → Answer
seen_verdict Tso classes =
    if nat_lt 0 (count_by is_unreached classes) then Violation else if nat_lt 0 (count_by is_foreign classes) then Refused else Clear
seen_verdict Pso classes =
    if nat_lt 0 (count_by is_foreign classes) then Refused else if nat_lt 0 (count_by is_unreached classes) then Undecided else Clear

-- The text and the verdict are of the traces of the program's runs in the trace texts of the stream.
pub record CountsSeen (program : ProgramValue) (stream text : List ℕ) (verdict : Answer) : Type 0 where
  pub traces : List TraceValue
  pub are_traces : AreTracesOf program traces
  pub pieces : List (List ℕ)
  pub are_trace_texts : AreTraceTexts stream pieces
  pub classes : List TraceClass
  pub are_classes : AreClassesOf program traces pieces classes
  pub whole : text ≡ seen_text program.setting.order traces classes
  pub says : verdict ≡ seen_verdict program.setting.order classes

-- what is printed of a program and the stream that a reader has, or that runs reach too many states
abbrev pub IsSeenOf : ℕ → Option (List ℕ) → ProgramValue → List ℕ → Answer → Type 0
IsSeenOf limit streams program text verdict = ReadsAs streams (λ stream. CountsSeen program stream text verdict) ⊎ IsRefusedByStates limit program text verdict

-- what is printed of what two readers have, a program and a stream
abbrev pub IsSeenOfReaders : ℕ → Option (List ℕ) → Option (List ℕ) → List ℕ → Answer → Type 0
IsSeenOfReaders limit programs streams text verdict = ReadsAs programs (λ bytes. IsWrittenOfProgram (IsSeenOf limit streams) bytes text verdict)
