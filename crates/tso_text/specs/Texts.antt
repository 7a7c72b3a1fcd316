-- What a text spells: it is the one text of its value, and the value keeps the limits.
use Rattle.std.specs.Prelude.{◌≡◌, ℕ, ◌≤◌, List, length, All}
use Rattle.tso_ops.specs.declared.acts.Act.{Act}
use Rattle.tso_ops.specs.declared.acts.Act.TheVariants.{Issue, Drain}
use Rattle.tso_ops.specs.Limits.{IsTrace, IsProgram}
use Rattle.tso_ops.specs.Values.{TraceValue, ProgramValue}
use Rattle.tso_text.specs.Printed.{trace_text, program_text, schedule_text}

-- the greatest number of bytes of a text
abbrev pub text_byte_limit : ℕ
text_byte_limit = 1048576

abbrev pub SpellsTrace : List ℕ → TraceValue → Type 0
SpellsTrace text t = IsTrace t × (text ≡ trace_text t)

abbrev pub SpellsProgram : List ℕ → ProgramValue → Type 0
SpellsProgram text p = IsProgram p × (text ≡ program_text p)

-- the processor that the act names
abbrev pub processor_of : Act → ℕ
processor_of (Issue p) = p
processor_of (Drain p) = p

-- A schedule has no other limits than that each act names a processor of a program, and the text has room.
abbrev pub SpellsSchedule : List ℕ → List Act → Type 0
SpellsSchedule text acts = All (λ act. processor_of act ≤ 15) acts × (length text ≤ text_byte_limit) × (text ≡ schedule_text acts)

-- ---- some value

abbrev pub IsSpelledTrace : List ℕ → Type 0
IsSpelledTrace text = (t : TraceValue) × SpellsTrace text t

abbrev pub IsSpelledProgram : List ℕ → Type 0
IsSpelledProgram text = (p : ProgramValue) × SpellsProgram text p

abbrev pub IsSpelledSchedule : List ℕ → Type 0
IsSpelledSchedule text = (acts : List Act) × SpellsSchedule text acts
