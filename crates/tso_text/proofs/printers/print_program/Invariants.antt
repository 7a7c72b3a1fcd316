use Rattle.std.proofs.Common.{◌≡◌, ◌++◌, ◌∷◌, take, string_bytes}
use Rattle.std.specs.List.{flat_map}
use Rattle.tso_text.specs.Printed.{program_header, processor_text, setting_text, op_tokens}
use Rattle.tso_text.proofs.printers.print_program.Given as goal

abbrev pub invariant-loop-p : goal.invariant-loop-p
invariant-loop-p l = string_bytes l.text ≡ (program_header l.program.setting.version ++ 10 ∷ setting_text l.program.setting) ++ flat_map (processor_text op_tokens) (take l.p l.program.lists)
