use Rattle.std.proofs.Common.{◌≡◌, ◌++◌, take, string_bytes}
use Rattle.std.specs.List.{flat_map}
use Rattle.trace_pictures.specs.Arrows.{arrow_line}
use Rattle.trace_pictures.proofs.arrows.push_arrows.Given as goal

abbrev pub invariant-loop-arrow : goal.invariant-loop-arrow
invariant-loop-arrow l = string_bytes l.text ≡ string_bytes l.fn.text ++ flat_map arrow_line (take l.arrow-index l.arrows)
