-- What the lines of texts say as the readers find it, token by token, and their fault: BadLine, BadNumber, or BadModel, or one after other lines.
use Rattle.std.specs.Prelude.{ℕ, ◌&&◌, Bool, true, false, not, nat_lt, List, [], ◌∷◌, length, min, Option, None, Some, Result, Ok, Err, codes, if◌then◌else◌}
use Rattle.std.specs.List.{flat_map}
use Rattle.std.specs.Str.{bytes_eq}
use Rattle.line_text.specs.Lines.{is_empty}
use Rattle.line_text.specs.Results.{◌>>=◌}
use Rattle.tso_ops.specs.declared.ops.Op.{Op}
use Rattle.tso_ops.specs.declared.ops.Op.TheVariants.{Ld as OpLd, St as OpSt, Sw as OpSw, Mb as OpMb, Sb as OpSb}
use Rattle.tso_ops.specs.declared.ops.Outcome.{Outcome}
use Rattle.tso_ops.specs.declared.ops.Outcome.TheVariants.{Ld, St, Sw, Mb, Sb}
use Rattle.tso_ops.specs.declared.settings.Order.{Order}
use Rattle.tso_ops.specs.declared.settings.Order.TheVariants.{Tso, Pso}
use Rattle.tso_ops.specs.declared.settings.Version.{Version}
use Rattle.tso_ops.specs.declared.settings.Version.TheVariants.{One, Two}
use Rattle.tso_ops.specs.Limits.{has_fault, has_entry_fault}
use Rattle.tso_ops.specs.Settings.{SettingValue}
use Rattle.tso_ops.specs.declared.acts.Act.{Act}
use Rattle.tso_ops.specs.declared.acts.Act.TheVariants.{Issue, Drain}
use Rattle.tso_text.specs.declared.faults.Why.{Why}
use Rattle.tso_text.specs.declared.faults.Why.TheVariants.{BadLine, BadModel, BeforeProc, TooManyProcessors, ProcessorRange}
use Rattle.tso_text.specs.declared.lines.Line.{Line}
use Rattle.tso_text.specs.declared.lines.Line.TheVariants.{Proc, Item, End}
use Rattle.tso_text.specs.Numbers.{numbers, number_at}
use Rattle.tso_text.specs.Printed.{op_word}
use Rattle.tso_text.specs.Texts.{processor_of}
use Rattle.tso_text.specs.Refusals.{text_fault}

-- An address of 16 bits. A greater number counts as the greatest of them, which is past the range as well.
abbrev pub address : ℕ → ℕ
address n = min n 65535

-- ---- lines that begin with keywords

-- A keyword, whether texts of the memory model have it, how many numbers follow it, and what they say.
pub record Keyword (X : Type 0) : Type 0 where
  pub word : List ℕ
  pub known : Bool
  pub count : ℕ
  pub says : List ℕ → Line X

-- what the tokens after a word say, by the first of these keywords that it is
abbrev pub said_after : {X : Type 0} → List (Keyword X) → List ℕ → List (List ℕ) → Result (Line X) Why
said_after [] word tokens = Err BadLine
said_after (k ∷ keywords) word tokens = if k.known && bytes_eq word k.word then numbers k.count tokens >>= (λ ns. Ok (k.says ns)) else said_after keywords word tokens

abbrev pub line_of : {X : Type 0} → List (Keyword X) → List (List ℕ) → Result (Line X) Why
line_of keywords [] = Err BadLine
line_of keywords (word ∷ tokens) = said_after keywords word tokens

abbrev pub proc_keyword : {X : Type 0} → Keyword X
proc_keyword = record { word = codes "proc"; known = true; count = 0; says = λ _. Proc }

abbrev pub end_keyword : {X : Type 0} → Keyword X
end_keyword = record { word = codes "end"; known = true; count = 0; says = λ _. End }

-- the keyword of an item of so many numbers
abbrev pub item_keyword : {X : Type 0} → List ℕ → ℕ → (List ℕ → X) → Keyword X
item_keyword word count item = record { word = word; known = true; count = count; says = λ ns. Item (item ns) }

-- the keyword `stbar` is one of texts of this memory model
abbrev pub has_stbar : Order → Bool
has_stbar Tso = false
has_stbar Pso = true

abbrev pub stbar_keyword : {X : Type 0} → Order → X → Keyword X
stbar_keyword order stbar = record { word = op_word OpSb; known = has_stbar order; count = 0; says = λ _. Item stbar }

abbrev pub trace_keywords : Order → List (Keyword Outcome)
trace_keywords order =
    proc_keyword
    ∷ item_keyword (op_word (OpLd 0)) 2 (λ ns. Ld (address (number_at ns 0)) (number_at ns 1))
    ∷ item_keyword (op_word (OpSt 0 0)) 2 (λ ns. St (address (number_at ns 0)) (number_at ns 1))
    ∷ item_keyword (op_word (OpSw 0 0)) 3 (λ ns. Sw (address (number_at ns 0)) (number_at ns 1) (number_at ns 2))
    ∷ item_keyword (op_word OpMb) 0 (λ _. Mb)
    ∷ end_keyword
    ∷ stbar_keyword order Sb
    ∷ []

abbrev pub program_keywords : Order → List (Keyword Op)
program_keywords order =
    proc_keyword
    ∷ item_keyword (op_word (OpLd 0)) 1 (λ ns. OpLd (address (number_at ns 0)))
    ∷ item_keyword (op_word (OpSt 0 0)) 2 (λ ns. OpSt (address (number_at ns 0)) (number_at ns 1))
    ∷ item_keyword (op_word (OpSw 0 0)) 2 (λ ns. OpSw (address (number_at ns 0)) (number_at ns 1))
    ∷ item_keyword (op_word OpMb) 0 (λ _. OpMb)
    ∷ end_keyword
    ∷ stbar_keyword order OpSb
    ∷ []

abbrev pub schedule_keywords : List (Keyword Act)
schedule_keywords = item_keyword (codes "i") 1 (λ ns. Issue (number_at ns 0)) ∷ item_keyword (codes "d") 1 (λ ns. Drain (number_at ns 0)) ∷ end_keyword ∷ []

unfoldable pub trace_line : Order → List (List ℕ) → Result (Line Outcome) Why
trace_line order tokens = line_of (trace_keywords order) tokens

unfoldable pub program_line : Order → List (List ℕ) → Result (Line Op) Why
program_line order tokens = line_of (program_keywords order) tokens

unfoldable pub schedule_line : List (List ℕ) → Result (Line Act) Why
schedule_line tokens = line_of schedule_keywords tokens

-- ---- the memory model and first values

-- what a line `model` says after its keyword, or its fault: there is no name but `pso`
unfoldable pub model_said : List (List ℕ) → Result (Unit {0}) Why
model_said [] = Err BadLine
model_said (name ∷ []) = if bytes_eq name (codes "pso") then Ok tt else Err BadModel
model_said (name ∷ next ∷ tokens) = Err BadLine

-- what a line `init` says after its keyword, address and first value, or its fault
abbrev pub entry_by : List (List ℕ) → Result (ℕ × ℕ) Why
entry_by tokens = numbers 2 tokens >>= λ ns. Ok (address (number_at ns 0), number_at ns 1)

-- ---- faults after other lines

abbrev pub op_fault_after : SettingValue → List Op → Op → Option Why
op_fault_after setting before op = text_fault (has_fault setting before op)

abbrev pub entry_fault_after : List (ℕ × ℕ) → ℕ × ℕ → Option Why
entry_fault_after before entry = text_fault (has_entry_fault before entry)

abbrev pub act_fault_after : Act → Option Why
act_fault_after act = if nat_lt 15 (processor_of act) then Some ProcessorRange else None

-- the fault of what couldn't be read, or that of what was read
abbrev pub fault_of : {A : Type 0} → Result A Why → (A → Option Why) → Option Why
fault_of (Err why) fault = Some why
fault_of (Ok said) fault = fault said

-- the fault of a line among those of lists
abbrev pub line_fault_after : {X : Type 0} → (List X → X → Option Why) → List (List X) → Line X → Option Why
line_fault_after item_fault lists Proc = if nat_lt 15 (length lists) then Some TooManyProcessors else None
line_fault_after item_fault lists (Item x) = if is_empty lists then Some BeforeProc else item_fault (flat_map (λ row. row) lists) x
line_fault_after item_fault lists End = None

abbrev pub has_entries : Version → Bool
has_entries One = false
has_entries Two = true

-- The fault of a line in a text of a setting and lists. Before the first `proc` it can be `model`, directly after the header, or `init`, in version 2.
abbrev pub fault_in_lists : {X : Type 0} → SettingValue → List (List X) → List (List ℕ) → Option Why → Option Why
fault_in_lists setting (row ∷ lists) tokens other = other
fault_in_lists setting [] [] other = other
fault_in_lists setting [] (word ∷ tokens) other =
    if bytes_eq word (codes "model") && (not (has_stbar setting.order) && is_empty setting.first) then fault_of (model_said tokens) (λ _. None)
    else if bytes_eq word (codes "init") && has_entries setting.version then fault_of (entry_by tokens) (entry_fault_after setting.first)
    else other
