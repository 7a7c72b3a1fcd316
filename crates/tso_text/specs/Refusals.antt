-- How a text is refused: its first line with a fault, after lines that begin the text of a value, and that fault.
use Rattle.std.specs.Prelude.{◌≡◌, ◌≢◌, ◌⊎◌, ℕ, ◌<◌, ◌≤◌, ◌^◌, Bool, true, false, nat_lt, List, [], ◌∷◌, ◌++◌, length, map, get_or, All, Option, None, Some, codes, if◌then◌else◌}
use Rattle.std.specs.List.{find, flat_map}
use Rattle.std.specs.Option.{option_map}
use Rattle.std.specs.Str.{bytes_eq}
use Rattle.line_text.specs.Lines.{parts_of, is_empty, line_text}
use Rattle.line_text.specs.Refusals.{IsRefusedAfter, ArePartsRefused}
use Rattle.tso_ops.specs.declared.acts.Act.{Act}
use Rattle.tso_ops.specs.declared.ops.Op.{Op}
use Rattle.tso_ops.specs.declared.ops.Op.TheVariants.{Sb}
use Rattle.tso_ops.specs.declared.faults.ValueFault.{ValueFault}
use Rattle.tso_ops.specs.declared.faults.ValueFault.TheVariants.{TooManyEvents as ManyEvents, AddressRange as PastAddresses, ZeroValue as ZeroStored, RepeatedValue as Repeated, InitOrder as NotAscending}
use Rattle.tso_ops.specs.declared.settings.Order.{Order}
use Rattle.tso_ops.specs.declared.settings.Version.TheVariants.{Two}
use Rattle.tso_ops.specs.Limits.{IsTrace, IsProgram, has_fault, has_entry_fault, is_stbar_in_tso}
use Rattle.tso_ops.specs.Settings.{SettingValue}
use Rattle.tso_ops.specs.Values.{TraceValue, ProgramValue, op_of}
use Rattle.tso_text.specs.declared.faults.Why.{Why}
use Rattle.tso_text.specs.declared.faults.Why.TheVariants.{BadHeader, BadLine, BadNumber, BeforeProc, TooManyProcessors, TooManyEvents, AddressRange, ZeroValue, RepeatedValue, MissingEnd, AfterEnd, TooLong, ProcessorRange, BadModel, InitOrder}
use Rattle.tso_text.specs.Printed.{trace_header, program_header, schedule_header, trace_lines, program_lines, items_text, outcome_numbers, op_numbers, outcome_tokens, op_tokens, act_tokens, entry_tokens}
use Rattle.tso_text.specs.Texts.{text_byte_limit, processor_of}

-- the faults of operations and first values, in the order of their numbers: of several the first counts
abbrev pub text_faults : List (ValueFault × Why)
text_faults = (ManyEvents, TooManyEvents) ∷ (PastAddresses, AddressRange) ∷ (ZeroStored, ZeroValue) ∷ (Repeated, RepeatedValue) ∷ (NotAscending, InitOrder) ∷ []

abbrev pub text_fault : (ValueFault → Bool) → Option Why
text_fault has = option_map (λ fault. fault.1) (find (λ fault. has fault.0) text_faults)

-- ---- the lines that can stand in a text, by their tokens, each with its fault

-- a line can say the operation under the memory model, with these numbers: 64 bits hold them
abbrev pub IsWritable : Order → Op → List ℕ → Type 0
IsWritable order op numbers = (is_stbar_in_tso order op ≡ false) × All (λ n. n < 2 ^ 64) numbers

-- After those of a setting and lists: `model` directly after the header, `init` before the lists in version 2, `proc`, an item, or `end`.
abbrev pub StandsAfterLists : {X : Type 0} → (X → List (List ℕ)) → (X → Type 0) → (List X → X → Option Why) → SettingValue → List (List X) → List (List ℕ) → Option Why → Type 0
StandsAfterLists {X} tokens Can item_fault setting lists line fault =
    ((lists ≡ []) × (setting.first ≡ []) × (is_stbar_in_tso setting.order Sb ≡ true) × (line ≡ codes "model" ∷ codes "pso" ∷ []) × (fault ≡ None))
    ⊎ ((e : ℕ × ℕ) × (lists ≡ []) × (setting.version ≡ Two) × (e.0 < 2 ^ 64) × (e.1 < 2 ^ 64) × (line ≡ entry_tokens e) × (fault ≡ text_fault (has_entry_fault setting.first e)))
    ⊎ ((line ≡ codes "proc" ∷ []) × (fault ≡ (if nat_lt 15 (length lists) then Some TooManyProcessors else None)))
    ⊎ ((x : X) × Can x × (line ≡ tokens x) × (fault ≡ (if is_empty lists then Some BeforeProc else item_fault (flat_map (λ row. row) lists) x)))
    ⊎ ((line ≡ codes "end" ∷ []) × (fault ≡ None))

-- in a schedule
abbrev pub StandsInSchedule : List (List ℕ) → Option Why → Type 0
StandsInSchedule line fault =
    ((act : Act) × (processor_of act < 2 ^ 64) × (line ≡ act_tokens act) × (fault ≡ (if nat_lt 15 (processor_of act) then Some ProcessorRange else None)))
    ⊎ ((line ≡ codes "end" ∷ []) × (fault ≡ None))

-- the tokens begin with the keyword of these, and are as many
abbrev pub HasShape : List (List ℕ) → List (List ℕ) → Type 0
HasShape (word ∷ tokens) (keyword ∷ others) = (word ≡ keyword) × (length tokens ≡ length others)
HasShape _ _ = ⊥

-- The fault of a line: that of a line that can stand there; or its tokens have the shape of such a line, and aren't the numbers, or the name, that
-- they should be; or they have the shape of none.
abbrev pub IsFaultAmong : (List (List ℕ) → Option Why → Type 0) → List (List ℕ) → Why → Type 0
IsFaultAmong Stands tokens why =
    Stands tokens (Some why)
    ⊎ (((fault : Option Why) → Stands tokens fault → ⊥) × ((line : List (List ℕ)) × (fault : Option Why) × Stands line fault × HasShape tokens line × (why ≡ (if bytes_eq (get_or line 0 []) (codes "model") then BadModel else BadNumber))))
    ⊎ (((line : List (List ℕ)) (fault : Option Why) → Stands line fault → HasShape tokens line → ⊥) × (why ≡ BadLine))

-- ---- texts of one kind

-- The values that have a text, its header, its lines between header and `end`, and which lines can stand after these, each with its fault.
pub record TextKind (V : Type 0) : Type 1 where
  pub Is : V → Type 0
  pub header : V → List ℕ
  pub lines : V → List ℕ
  pub Stands : V → List (List ℕ) → Option Why → Type 0

-- the refusal of a text within the limit: no header, a fault after the lines of a value, or bytes after its whole text
abbrev pub IsLineRefusal : {V : Type 0} → TextKind V → List ℕ → ℕ → Why → Type 0
IsLineRefusal {V} k text line why =
    (((v : V) (rest : List ℕ) → k.Is v → text ≡ k.header v ++ 10 ∷ rest → ⊥) × (line ≡ 1) × (why ≡ BadHeader))
    ⊎ ((v : V) × k.Is v × IsRefusedAfter text (k.header v ++ 10 ∷ k.lines v) line (λ rest. ArePartsRefused MissingEnd BadLine (IsFaultAmong (k.Stands v)) (parts_of rest) why))
    ⊎ ((v : V) × k.Is v × IsRefusedAfter text ((k.header v ++ 10 ∷ k.lines v) ++ line_text (codes "end" ∷ [])) line (λ rest. (rest ≢ []) × (why ≡ AfterEnd)))

-- line 0 is the whole text
abbrev pub IsRefusalIn : {V : Type 0} → TextKind V → List ℕ → ℕ → Why → Type 0
IsRefusalIn k text line why = ((text_byte_limit < length text) × (line ≡ 0) × (why ≡ TooLong)) ⊎ ((length text ≤ text_byte_limit) × IsLineRefusal k text line why)

-- ---- traces

abbrev pub trace_kind : TextKind TraceValue
trace_kind = record {
  Is = IsTrace;
  header = λ t. trace_header t.setting.version;
  lines = trace_lines;
  Stands = λ t. StandsAfterLists outcome_tokens (λ x. IsWritable t.setting.order (op_of x) (outcome_numbers x)) (λ before x. text_fault (has_fault t.setting (map op_of before) (op_of x))) t.setting t.lists;
}

unfoldable pub IsTraceRefusal : List ℕ → ℕ → Why → Type 0
IsTraceRefusal text line why = IsRefusalIn trace_kind text line why

abbrev pub IsRefusedTrace : List ℕ → Type 0
IsRefusedTrace text = (line : ℕ) × (why : Why) × IsTraceRefusal text line why

-- ---- programs

abbrev pub program_kind : TextKind ProgramValue
program_kind = record {
  Is = IsProgram;
  header = λ p. program_header p.setting.version;
  lines = program_lines;
  Stands = λ p. StandsAfterLists op_tokens (λ op. IsWritable p.setting.order op (op_numbers op)) (λ before op. text_fault (has_fault p.setting before op)) p.setting p.lists;
}

unfoldable pub IsProgramRefusal : List ℕ → ℕ → Why → Type 0
IsProgramRefusal text line why = IsRefusalIn program_kind text line why

abbrev pub IsRefusedProgram : List ℕ → Type 0
IsRefusedProgram text = (line : ℕ) × (why : Why) × IsProgramRefusal text line why

-- ---- schedules

abbrev pub schedule_kind : TextKind (List Act)
schedule_kind = record { Is = All (λ act. processor_of act ≤ 15); header = λ acts. schedule_header; lines = items_text act_tokens; Stands = λ acts. StandsInSchedule }

unfoldable pub IsScheduleRefusal : List ℕ → ℕ → Why → Type 0
IsScheduleRefusal text line why = IsRefusalIn schedule_kind text line why

abbrev pub IsRefusedSchedule : List ℕ → Type 0
IsRefusedSchedule text = (line : ℕ) × (why : Why) × IsScheduleRefusal text line why
