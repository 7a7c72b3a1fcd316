use Rattle.std.proofs.Common.{◌≡◌, ◌++◌, ◌∷◌, take, string_bytes}
use Rattle.std.specs.List.{flat_map}
use Rattle.tso_text.specs.Printed.{trace_header, processor_text, setting_text, outcome_tokens}
use Rattle.tso_text.proofs.printers.print_trace.Given as goal

abbrev pub invariant-loop-p : goal.invariant-loop-p
invariant-loop-p l = string_bytes l.text ≡ (trace_header l.trace.setting.version ++ 10 ∷ setting_text l.trace.setting) ++ flat_map (processor_text outcome_tokens) (take l.p l.trace.lists)
