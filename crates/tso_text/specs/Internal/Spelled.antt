-- What the lines of a text say, where none has a fault.
use Rattle.std.specs.Prelude.{◌≡◌, ℕ, List, [], ◌∷◌, Ok}
use Rattle.tso_ops.specs.declared.acts.Act.{Act}
use Rattle.tso_ops.specs.Values.{TraceValue, ProgramValue}
use Rattle.tso_text.specs.Internal.Grammars.{trace_format, program_format, schedule_format}
use Rattle.tso_text.specs.Internal.Spelling.{Format, preamble_of, text_read}

-- the text spells these lists
abbrev pub SpellsLists : {X : Type 0} → Format X → List ℕ → List (List X) → Type 0
SpellsLists f text lists = text_read f text ≡ Ok lists

abbrev pub HasTraceLines : List ℕ → TraceValue → Type 0
HasTraceLines text t = (t.setting ≡ (preamble_of trace_format text).setting) × SpellsLists trace_format text t.lists

abbrev pub HasProgramLines : List ℕ → ProgramValue → Type 0
HasProgramLines text p = (p.setting ≡ (preamble_of program_format text).setting) × SpellsLists program_format text p.lists

abbrev pub HasScheduleLines : List ℕ → List Act → Type 0
HasScheduleLines text acts = SpellsLists schedule_format text (acts ∷ [])
