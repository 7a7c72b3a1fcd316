-- What is printed of the outcomes of a program: the traces of its complete runs, or its final states.
use Rattle.std.specs.Prelude.{◌≡◌, ◌⊎◌, ℕ, true, List, ◌∷◌, ◌++◌, [], All, codes, Option}
use Rattle.std.specs.List.{flat_map}
use Rattle.tso_ops.specs.Values.{ProgramValue, TraceValue}
use Rattle.tso_text.specs.Printed.{trace_text}
use Rattle.tso_text.specs.Refusals.{IsProgramRefusal}
use Rattle.tso_text.specs.Texts.{SpellsProgram}
use Rattle.tso_text.specs.declared.faults.Why.{Why}
use Rattle.text_streams.specs.Readings.{ReadsAs}
use Rattle.trace_reports.specs.RefusalLines.{refusal_text}
use Rattle.trace_reports.specs.declared.answers.Answer.{Answer}
use Rattle.trace_reports.specs.declared.answers.Answer.TheVariants.{Clear, Refused}
use Rattle.final_states.specs.FinalStates.{AreFinalStatesOf, FinalStateValue, IsRunTrace, is_below, values_read}
use Rattle.final_states.specs.RunStates.{ReachesMoreStates}
use Rattle.request_options.specs.declared.outcomes.OutcomeForm.{OutcomeForm}
use Rattle.request_options.specs.declared.outcomes.OutcomeForm.TheVariants.{Traces, States}
use Rattle.request_options.specs.declared.outcomes.OutcomeOptions.{OutcomeOptions}
use Rattle.outcome_reports.specs.StateLines.{states_text}

-- ---- the traces of a program

-- These are the traces of the program's complete runs, all, each once, in ascending order of what was read.
pub record AreTracesOf (program : ProgramValue) (traces : List TraceValue) : Type 0 where
  pub each : All (IsRunTrace program) traces
  pub all : (t : TraceValue) → IsRunTrace program t → (before : List TraceValue) × (after : List TraceValue) × (traces ≡ before ++ t ∷ after)
  pub ascending : (before : List TraceValue) (t : TraceValue) (after : List TraceValue) →
      traces ≡ before ++ t ∷ after → All (λ earlier. is_below (values_read earlier) (values_read t) ≡ true) before

-- ---- what is printed

-- the texts of the traces, one after the other
abbrev pub traces_text : List TraceValue → List ℕ
traces_text traces = flat_map trace_text traces

-- the line of a program whose runs reach more states than the limit
abbrev pub states_refusal : List ℕ
states_refusal = codes "REFUSED States" ++ 10 ∷ []

-- the text of the program's outcomes in this form
abbrev pub IsListing : OutcomeForm → ProgramValue → List ℕ → Type 0
IsListing Traces program text = (traces : List TraceValue) × AreTracesOf program traces × (text ≡ traces_text traces)
IsListing States program text = (states : List FinalStateValue) × AreFinalStatesOf program states × (text ≡ states_text states)

-- that line, where runs of the program reach more states than the limit
pub record IsRefusedByStates (limit : ℕ) (program : ProgramValue) (text : List ℕ) (verdict : Answer) : Type 0 where
  pub more : ReachesMoreStates program limit
  pub line : text ≡ states_refusal
  pub refused : verdict ≡ Refused

-- What is said of the program that bytes spell, or the line of their refusal.
abbrev pub IsWrittenOfProgram : (ProgramValue → List ℕ → Answer → Type 0) → List ℕ → List ℕ → Answer → Type 0
IsWrittenOfProgram Says bytes text verdict =
    ((program : ProgramValue) × SpellsProgram bytes program × Says program text verdict)
    ⊎ ((line : ℕ) × (why : Why) × IsProgramRefusal bytes line why × (text ≡ refusal_text line why) × (verdict ≡ Refused))

-- the text of the outcomes of a program, or that runs reach too many states
abbrev pub IsOutcomes : OutcomeOptions → ProgramValue → List ℕ → Answer → Type 0
IsOutcomes options program text verdict =
    (IsListing options.form program text × (verdict ≡ Clear)) ⊎ IsRefusedByStates options.limit program text verdict

-- what is printed of the outcomes of the program that a reader has
abbrev pub IsOutcomesOfReader : OutcomeOptions → Option (List ℕ) → List ℕ → Answer → Type 0
IsOutcomesOfReader options programs text verdict = ReadsAs programs (λ bytes. IsWrittenOfProgram (IsOutcomes options) bytes text verdict)
