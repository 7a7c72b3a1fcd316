use Rattle.std.proofs.Common.{◌≡◌, ◌++◌, take, string_bytes}
use Rattle.std.specs.List.{flat_map}
use Rattle.trace_explanation.specs.Refusals.{rendered_byte}
use Rattle.trace_explanation.proofs.refusals.push_bytes.Given as goal

abbrev pub invariant-loop-byte : goal.invariant-loop-byte
invariant-loop-byte l = string_bytes l.text ≡ string_bytes l.fn.text ++ flat_map rendered_byte (take l.byte-index l.bytes)
