use Rattle.std.proofs.Common.{◌≡◌, ◌++◌, take, string_bytes, All}
use Rattle.std.specs.List.{flat_map}
use Rattle.line_text.specs.Lines.{line_text}
use Rattle.tso_cert.specs.Printed.{steps_tokens, StepFits}
use Rattle.tso_cert.proofs.printers.print_steps.Given as goal

abbrev pub invariant-loop-k : goal.invariant-loop-k
invariant-loop-k l = (string_bytes l.text ≡ string_bytes l.fn.text ++ flat_map line_text (steps_tokens 1 (take l.k l.steps))) × All StepFits (take l.k l.steps)
