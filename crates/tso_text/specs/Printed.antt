-- The lines of a value, as the printers give them.
use Rattle.std.specs.Prelude.{ℕ, List, [], ◌∷◌, ◌++◌, map, codes}
use Rattle.std.specs.List.{flat_map}
use Rattle.std.specs.Option.{option_to_list}
use Rattle.std.specs.Fmt.{decimal}
use Rattle.line_text.specs.Lines.{line_text}
use Rattle.tso_ops.specs.declared.ops.Op.{Op}
use Rattle.tso_ops.specs.declared.ops.Op.TheVariants.{Ld as OpLd, St as OpSt, Sw as OpSw, Mb as OpMb, Sb as OpSb}
use Rattle.tso_ops.specs.declared.ops.Outcome.{Outcome}
use Rattle.tso_ops.specs.declared.ops.Outcome.TheVariants.{Ld, St, Sw, Mb, Sb}
use Rattle.tso_ops.specs.declared.settings.Order.{Order}
use Rattle.tso_ops.specs.declared.settings.Order.TheVariants.{Tso, Pso}
use Rattle.tso_ops.specs.declared.settings.Version.{Version}
use Rattle.tso_ops.specs.declared.settings.Version.TheVariants.{One, Two}
use Rattle.tso_ops.specs.Limits.{address_of, stored_by}
use Rattle.tso_ops.specs.Settings.{SettingValue}
use Rattle.tso_ops.specs.Values.{TraceValue, ProgramValue, op_of}
use Rattle.tso_ops.specs.declared.acts.Act.{Act}
use Rattle.tso_ops.specs.declared.acts.Act.TheVariants.{Issue, Drain}

-- the header of this version, of those of version 1 and version 2
abbrev pub header_of : List ℕ → List ℕ → Version → List ℕ
header_of one two One = one
header_of one two Two = two

abbrev pub trace_header : Version → List ℕ
trace_header version = header_of (codes "tso trace 1") (codes "tso trace 2") version

abbrev pub program_header : Version → List ℕ
program_header version = header_of (codes "tso program 1") (codes "tso program 2") version

abbrev pub schedule_header : List ℕ
schedule_header = codes "tso schedule 1"

-- the word of an operation
abbrev pub op_word : Op → List ℕ
op_word (OpLd a) = codes "ld"
op_word (OpSt a v) = codes "st"
op_word (OpSw a v) = codes "sw"
op_word OpMb = codes "mb"
op_word OpSb = codes "stbar"

-- the numbers after the word: the address, what was read, what was stored
abbrev pub outcome_numbers : Outcome → List ℕ
outcome_numbers (Ld a r) = a ∷ r ∷ []
outcome_numbers (St a v) = a ∷ v ∷ []
outcome_numbers (Sw a r v) = a ∷ r ∷ v ∷ []
outcome_numbers Mb = []
outcome_numbers Sb = []

-- the same without what was read
abbrev pub op_numbers : Op → List ℕ
op_numbers op = option_to_list (address_of op) ++ option_to_list (stored_by op)

abbrev pub outcome_tokens : Outcome → List (List ℕ)
outcome_tokens outcome = op_word (op_of outcome) ∷ map decimal (outcome_numbers outcome)

abbrev pub op_tokens : Op → List (List ℕ)
op_tokens op = op_word op ∷ map decimal (op_numbers op)

abbrev pub act_tokens : Act → List (List ℕ)
act_tokens (Issue p) = codes "i" ∷ decimal p ∷ []
act_tokens (Drain p) = codes "d" ∷ decimal p ∷ []

-- the lines of these items
unfoldable pub items_text : {X : Type 0} → (X → List (List ℕ)) → List X → List ℕ
items_text tokens items = flat_map (λ x. line_text (tokens x)) items

-- the lines of a processor
unfoldable pub processor_text : {X : Type 0} → (X → List (List ℕ)) → List X → List ℕ
processor_text tokens items = line_text (codes "proc" ∷ []) ++ items_text tokens items

-- the line that says the memory model: TSO has none
abbrev pub model_text : Order → List ℕ
model_text Tso = []
model_text Pso = line_text (codes "model" ∷ codes "pso" ∷ [])

abbrev pub entry_tokens : ℕ × ℕ → List (List ℕ)
entry_tokens entry = codes "init" ∷ decimal entry.0 ∷ decimal entry.1 ∷ []

-- the lines that say the memory model and the first values
unfoldable pub setting_text : SettingValue → List ℕ
setting_text setting = model_text setting.order ++ items_text entry_tokens setting.first

-- a text with this header and these lines
unfoldable pub whole_text : List ℕ → List ℕ → List ℕ
whole_text header lines = header ++ 10 ∷ lines ++ line_text (codes "end" ∷ [])

-- the lines of a trace between its header and `end`
abbrev pub trace_lines : TraceValue → List ℕ
trace_lines t = setting_text t.setting ++ flat_map (processor_text outcome_tokens) t.lists

unfoldable pub trace_text : TraceValue → List ℕ
trace_text t = whole_text (trace_header t.setting.version) (trace_lines t)

abbrev pub program_lines : ProgramValue → List ℕ
program_lines p = setting_text p.setting ++ flat_map (processor_text op_tokens) p.lists

unfoldable pub program_text : ProgramValue → List ℕ
program_text p = whole_text (program_header p.setting.version) (program_lines p)

unfoldable pub schedule_text : List Act → List ℕ
schedule_text acts = whole_text schedule_header (items_text act_tokens acts)
