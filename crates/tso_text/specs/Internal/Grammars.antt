-- How the texts of traces, programs and schedules are written.
use Rattle.std.specs.Prelude.{Option, List, [], ◌∷◌, map}
use Rattle.tso_ops.specs.declared.ops.Op.{Op}
use Rattle.tso_ops.specs.declared.ops.Outcome.{Outcome}
use Rattle.tso_ops.specs.declared.settings.Version.TheVariants.{One, Two}
use Rattle.tso_ops.specs.Settings.{SettingValue}
use Rattle.tso_ops.specs.Values.{op_of}
use Rattle.tso_ops.specs.declared.acts.Act.{Act}
use Rattle.tso_text.specs.declared.faults.Why.{Why}
use Rattle.tso_text.specs.Internal.LineReadings.{act_fault_after, trace_line, program_line, schedule_line, op_fault_after}
use Rattle.tso_text.specs.Internal.Preambles.{header_alone, setting_preamble}
use Rattle.tso_text.specs.Printed.{trace_header, program_header, schedule_header}
use Rattle.tso_text.specs.Internal.Spelling.{Grammar, Format}

-- ---- traces

unfoldable pub outcome_fault : SettingValue → List Outcome → Outcome → Option Why
outcome_fault setting before outcome = op_fault_after setting (map op_of before) (op_of outcome)

abbrev pub trace_grammar : SettingValue → Grammar Outcome
trace_grammar setting = record { start = []; said_by = trace_line setting.order; item_fault = outcome_fault setting }

abbrev pub trace_format : Format Outcome
trace_format = record { preamble = setting_preamble (trace_header One) (trace_header Two); grammar = trace_grammar }

-- ---- programs

unfoldable pub program_op_fault : SettingValue → List Op → Op → Option Why
program_op_fault setting before op = op_fault_after setting before op

abbrev pub program_grammar : SettingValue → Grammar Op
program_grammar setting = record { start = []; said_by = program_line setting.order; item_fault = program_op_fault setting }

abbrev pub program_format : Format Op
program_format = record { preamble = setting_preamble (program_header One) (program_header Two); grammar = program_grammar }

-- ---- schedules

unfoldable pub act_fault : List Act → Act → Option Why
act_fault before act = act_fault_after act

-- a schedule is the one list of its acts
abbrev pub schedule_grammar : Grammar Act
schedule_grammar = record { start = [] ∷ []; said_by = schedule_line; item_fault = act_fault }

-- schedules have one version, and no memory model
abbrev pub schedule_format : Format Act
schedule_format = record { preamble = header_alone schedule_header; grammar = λ _. schedule_grammar }
