-- The trace that is asked for: the only one of a text, or the one of a number among those that stand in it one after the other.
use Rattle.std.specs.Prelude.{◌≡◌, ◌++◌, ℕ, List, [], ◌∷◌, codes, take, Option, None, Some, IfSome}
use Rattle.std.specs.Io.KnownBytes.{Consumes}
use Rattle.trace_streams.specs.NthTraceTexts.{IsKeptOfNth, IsNthTraceText}
use Rattle.trace_streams.specs.Limits.{trace_read_limit}
use Rattle.text_streams.specs.Streams.{LosesPrefix}
use Rattle.tso_text.specs.Refusals.{IsRefusedTrace}

-- the line that says that there are fewer traces
abbrev pub nth_refusal : List ℕ
nth_refusal = codes "REFUSED Nth" ++ 10 ∷ []

-- The text, and what it says, are of this trace text of a stream; or the text is that line, and says that of a refusal, where there is no trace text.
abbrev pub IsWrittenOf : {X : Type 0} → X → (List ℕ → List ℕ → X → Type 0) → Option (List ℕ) → List ℕ → X → Type 0
IsWrittenOf {X} refused Is (Some piece) text said = Is piece text said
IsWrittenOf {X} refused Is None text said = (text ≡ nth_refusal) × (said ≡ refused)

-- The text, and what it says, are of the input, or of its trace text of this number.
abbrev pub IsWrittenOfNth : {X : Type 0} → X → Option ℕ → (List ℕ → List ℕ → X → Type 0) → List ℕ → List ℕ → X → Type 0
IsWrittenOfNth {X} refused None Is input text said = Is input text said
IsWrittenOfNth {X} refused (Some number) Is input text said = (piece : Option (List ℕ)) × IsNthTraceText number input piece × IsWrittenOf refused Is piece text said

-- The input is no trace; or its trace text of this number is none, or there are fewer.
abbrev pub IsRefusedNth : Option ℕ → List ℕ → Type 0
IsRefusedNth None input = IsRefusedTrace input
IsRefusedNth (Some number) input = (piece : Option (List ℕ)) × IsNthTraceText number input piece × IfSome piece IsRefusedTrace

-- what is kept of the input, or of its trace text of this number: its first bytes
abbrev pub IsKeptOfAsked : Option ℕ → List ℕ → Option (List ℕ) → Type 0
IsKeptOfAsked None input kept = kept ≡ Some (take trace_read_limit input)
IsKeptOfAsked (Some number) input kept = IsKeptOfNth number input kept

-- What is taken where the trace is read: so many bytes that one of too many bytes is seen, or, of traces that stand one after the other, some of the first.
abbrev pub TakesTrace : Option ℕ → Option (List ℕ) → Option (List ℕ) → Type 0
TakesTrace None old new = LosesPrefix trace_read_limit old new
TakesTrace (Some number) old new = (bytes : List ℕ) × Consumes old new bytes
