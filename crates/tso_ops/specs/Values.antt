-- What contracts see of a trace and of a program, and the program of a trace.
use Rattle.std.specs.Prelude.{ℕ, ◌<◌, ◌^◌, List, [], length, map, get_or}
use Rattle.std.specs.List.{flat_map}
use Rattle.std.specs.Global.{Vec}
use Rattle.tso_ops.specs.declared.ops.Op.{Op}
use Rattle.tso_ops.specs.declared.ops.Op.TheVariants.{Ld as OpLd, St as OpSt, Sw as OpSw, Mb as OpMb, Sb as OpSb}
use Rattle.tso_ops.specs.declared.ops.Outcome.{Outcome}
use Rattle.tso_ops.specs.declared.ops.Outcome.TheVariants.{Ld, St, Sw, Mb, Sb}
use Rattle.tso_ops.specs.Settings.{SettingValue}

-- the setting of a program and the operations of each processor
pub record ProgramValue : Type 0 where
  pub setting : SettingValue
  pub lists : List (List Op)

-- the setting of a trace and the operations of each processor, with what they read
pub record TraceValue : Type 0 where
  pub setting : SettingValue
  pub lists : List (List Outcome)

-- the lists that the vectors hold
abbrev pub rows : {X : Type 0} → List (Vec X) → List (List X)
rows {X} vectors = map (λ (row : Vec X). row.items) vectors

-- the program of these lists
abbrev pub program_of_lists : SettingValue → List (List Op) → ProgramValue
program_of_lists setting lists = record { setting = setting; lists = lists }

-- the trace of these lists
abbrev pub trace_of_lists : SettingValue → List (List Outcome) → TraceValue
trace_of_lists setting lists = record { setting = setting; lists = lists }

-- the operation without what it read
abbrev pub op_of : Outcome → Op
op_of (Ld a r) = OpLd a
op_of (St a v) = OpSt a v
op_of (Sw a r v) = OpSw a v
op_of Mb = OpMb
op_of Sb = OpSb

-- the program of the operations that these lists stand for
abbrev pub program_by : {X : Type 0} → (X → Op) → SettingValue → List (List X) → ProgramValue
program_by op setting lists = program_of_lists setting (map (map op) lists)

-- the trace without what was read
abbrev pub program_of : TraceValue → ProgramValue
program_of t = program_by op_of t.setting t.lists

-- the number of processors
abbrev pub list_count : ProgramValue → ℕ
list_count p = length p.lists

-- the operations of processor k; none where there is no such processor
abbrev pub ops_at : ProgramValue → ℕ → List Op
ops_at p k = get_or p.lists k []

-- the operations of all processors, in file order
abbrev pub in_file_order : ProgramValue → List Op
in_file_order p = flat_map (λ ops. ops) p.lists

-- the outcomes of all processors, in file order
abbrev pub outcomes_in_file_order : TraceValue → List Outcome
outcomes_in_file_order t = flat_map (λ ops. ops) t.lists

-- what was read is a number of 64 bits
abbrev pub ReadFits : Outcome → Type 0
ReadFits (Ld a r) = r < 2 ^ 64
ReadFits (St a v) = Unit {0}
ReadFits (Sw a r v) = r < 2 ^ 64
ReadFits Mb = Unit {0}
ReadFits Sb = Unit {0}
