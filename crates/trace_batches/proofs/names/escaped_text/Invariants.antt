use Rattle.std.proofs.Common.{◌≡◌, string_bytes}
use Rattle.std.specs.List.{flat_map}
use Rattle.trace_batches.specs.BatchNames.{text_character}
use Rattle.trace_batches.proofs.names.escaped_text.Given as goal

abbrev pub invariant-loop-character : goal.invariant-loop-character
invariant-loop-character l = string_bytes l.escaped ≡ flat_map (text_character l.format) l.yielded
