use Rattle.std.proofs.Common.{◌≡◌, ◌++◌, take, map, string_bytes}
use Rattle.std.specs.Prelude.{All}
use Rattle.std.specs.List.{flat_map}
use Rattle.line_text.specs.Lines.{line_text}
use Rattle.value_texts.specs.Internal.Names.{IsNameable}
use Rattle.value_texts.specs.Printed.{refutation_line_tokens, OfLineEvents}
use Rattle.value_texts.proofs.printers.print_lines.Given as goal

abbrev pub invariant-loop-line : goal.invariant-loop-line
invariant-loop-line l =
    (string_bytes l.text ≡ string_bytes l.fn.text ++ flat_map line_text (map (refutation_line_tokens l.names) (take l.line-index l.lines)))
    × All (OfLineEvents (IsNameable l.names)) (take l.line-index l.lines)
