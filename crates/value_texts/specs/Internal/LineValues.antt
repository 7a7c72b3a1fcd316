-- What a reader makes of one line.
use Rattle.std.specs.Prelude.{ℕ, ◌==◌, List, [], ◌∷◌, Option, None, Some, Result, Ok, Err, codes, if◌then◌else◌}
use Rattle.std.specs.List.{find}
use Rattle.std.specs.Str.{bytes_eq}
use Rattle.line_text.specs.Readings.{Said, element, whole}
use Rattle.line_text.specs.Results.{◌>>=◌}
use Rattle.value_evidence.specs.declared.steps.ValueStep.{ValueStep}
use Rattle.value_evidence.specs.declared.steps.ValueStep.TheVariants.{Read, In, Out, Over, SwapAfter, SwapBefore}
use Rattle.value_evidence.specs.declared.steps.ValueEnd.TheVariants.{NoSource, Cycle}
use Rattle.value_evidence.specs.declared.refutations.ValueRefutationLine.{ValueRefutationLine}
use Rattle.value_evidence.specs.declared.refutations.ValueRefutationLine.TheVariants.{Step, ReadCase, BeforeCase, Else, End}
use Rattle.value_texts.specs.declared.names.EventName.{EventName}
use Rattle.value_texts.specs.declared.words.Word.{Word}
use Rattle.value_texts.specs.declared.words.Word.TheVariants as words
use Rattle.value_texts.specs.declared.words.StepWord.{StepWord}
use Rattle.value_texts.specs.declared.words.StepWord.TheVariants as steps
use Rattle.value_texts.specs.declared.refusals.ValueTextRefusal.{ValueTextRefusal}
use Rattle.value_texts.specs.declared.refusals.ValueTextRefusal.TheVariants.{BadLine, NoEvent}
use Rattle.value_texts.specs.Printed.{LogEvidenceValue, order_of}
use Rattle.value_texts.specs.Spelling.{event_named}

-- the token of a word of a refutation
abbrev pub word_token : Word → List ℕ
word_token (words.Step steps.Read) = codes "read"
word_token (words.Step steps.In) = codes "in"
word_token (words.Step steps.Out) = codes "out"
word_token (words.Step steps.Over) = codes "over"
word_token (words.Step steps.After) = codes "after"
word_token (words.Step steps.Before) = codes "before"
word_token words.CaseRead = codes "case-read"
word_token words.CaseBefore = codes "case-before"
word_token words.Else = codes "else"
word_token words.NoSource = codes "nosource"
word_token words.Cycle = codes "cycle"

-- all words
abbrev pub all_words : List Word
all_words =
    words.Step steps.Read ∷ words.Step steps.In ∷ words.Step steps.Out ∷ words.Step steps.Over ∷ words.Step steps.After ∷ words.Step steps.Before
    ∷ words.CaseRead ∷ words.CaseBefore ∷ words.Else ∷ words.NoSource ∷ words.Cycle ∷ []

-- the word of a token
unfoldable pub word_of : List ℕ → Option Word
word_of token = find (λ word. bytes_eq token (word_token word)) all_words

-- the number of the event that a token names, or its fault
abbrev pub or_no_event : Option ℕ → Result ℕ ValueTextRefusal
or_no_event None = Err NoEvent
or_no_event (Some n) = Ok n

abbrev pub event_said : List EventName → List ℕ → Result ℕ ValueTextRefusal
event_said names token = or_no_event (event_named names token)

-- that of a source
unfoldable pub source_said : List EventName → List ℕ → Result ℕ ValueTextRefusal
source_said names token = if bytes_eq token (codes "init") then Ok 0 else event_said names token

-- the numbers of the events that tokens name, in their order, or the fault of the first that names none
abbrev pub events_said : List EventName → List (List ℕ) → Result (List ℕ) ValueTextRefusal
events_said names [] = Ok []
events_said names (token ∷ tokens) = event_said names token >>= λ n. events_said names tokens >>= λ ns. Ok (n ∷ ns)

-- the numbers of one event, of two, of three, and of a load and its source, where there are as many tokens
unfoldable pub one_said : List EventName → List (List ℕ) → Result ℕ ValueTextRefusal
one_said names (a ∷ []) = event_said names a
one_said names _ = Err BadLine

unfoldable pub pair_said : List EventName → List (List ℕ) → Result (ℕ × ℕ) ValueTextRefusal
pair_said names (a ∷ b ∷ []) = event_said names a >>= λ m. event_said names b >>= λ n. Ok (m, n)
pair_said names _ = Err BadLine

unfoldable pub three_said : List EventName → List (List ℕ) → Result (ℕ × ℕ × ℕ) ValueTextRefusal
three_said names (a ∷ b ∷ c ∷ []) = event_said names a >>= λ l. event_said names b >>= λ m. event_said names c >>= λ n. Ok (l, m, n)
three_said names _ = Err BadLine

unfoldable pub read_said : List EventName → List (List ℕ) → Result (ℕ × ℕ) ValueTextRefusal
read_said names (a ∷ b ∷ []) = event_said names a >>= λ load. source_said names b >>= λ source. Ok (load, source)
read_said names _ = Err BadLine

-- the step of this word and these tokens
unfoldable pub step_said : List EventName → StepWord → List (List ℕ) → Result ValueStep ValueTextRefusal
step_said names steps.Read tokens = read_said names tokens >>= λ p. Ok (Read p.0 p.1)
step_said names steps.In tokens = pair_said names tokens >>= λ p. Ok (In p.0 p.1)
step_said names steps.Out tokens = pair_said names tokens >>= λ p. Ok (Out p.0 p.1)
step_said names steps.Over tokens = three_said names tokens >>= λ p. Ok (Over p.0 p.1 p.2)
step_said names steps.After tokens = pair_said names tokens >>= λ p. Ok (SwapAfter p.0 p.1)
step_said names steps.Before tokens = pair_said names tokens >>= λ p. Ok (SwapBefore p.0 p.1)

-- the second part of a case, where no tokens follow the word
abbrev pub else_said : List (List ℕ) → Result ValueRefutationLine ValueTextRefusal
else_said [] = Ok Else
else_said (token ∷ tokens) = Err BadLine

-- what the line of this word and these tokens says
unfoldable pub word_said : List EventName → Word → List (List ℕ) → Result ValueRefutationLine ValueTextRefusal
word_said names (words.Step word) tokens = step_said names word tokens >>= λ s. Ok (Step s)
word_said names words.CaseRead tokens = read_said names tokens >>= λ p. Ok (ReadCase p.0 p.1)
word_said names words.CaseBefore tokens = pair_said names tokens >>= λ p. Ok (BeforeCase p.0 p.1)
word_said names words.Else tokens = else_said tokens
word_said names words.NoSource tokens = one_said names tokens >>= λ n. Ok (End (NoSource n))
word_said names words.Cycle tokens = one_said names tokens >>= λ n. Ok (End (Cycle n))

abbrev pub known_said : List EventName → Option Word → List (List ℕ) → Result ValueRefutationLine ValueTextRefusal
known_said names None tokens = Err BadLine
known_said names (Some word) tokens = word_said names word tokens

-- what the line of a refutation says, by its first token and those after it
abbrev pub refuting_said : List EventName → List ℕ → List (List ℕ) → Result ValueRefutationLine ValueTextRefusal
refuting_said names token tokens = known_said names (word_of token) tokens

-- the events of a line `order` of this number, with these tokens after its word
unfoldable pub order_said : List EventName → ℕ → List (List ℕ) → Result (List ℕ) ValueTextRefusal
order_said names line tokens = if line == 1 then events_said names tokens else Err BadLine

-- What the line of this number and these tokens says, or its fault.
unfoldable pub evidence_line_said : List EventName → ℕ → List (List ℕ) → Result (Said ValueRefutationLine LogEvidenceValue) ValueTextRefusal
evidence_line_said names line [] = Err BadLine
evidence_line_said names line (token ∷ tokens) =
    if bytes_eq token (codes "order") then (order_said names line tokens >>= λ numbers. Ok (whole (order_of numbers)))
    else refuting_said names token tokens >>= λ l. Ok (element l)
