use Rattle.std.proofs.Common.{◌≡◌, take, string_bytes}
use Rattle.trace_pictures.specs.Nodes.{small_lines}
use Rattle.trace_pictures.proofs.lines.small_lines.Given as goal

abbrev pub invariant-loop-arrow : goal.invariant-loop-arrow
invariant-loop-arrow l = string_bytes l.text ≡ small_lines l.steps (take l.arrow-index l.arrows)
