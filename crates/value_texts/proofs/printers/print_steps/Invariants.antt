use Rattle.std.proofs.Common.{◌≡◌, ◌++◌, take, map, string_bytes}
use Rattle.std.specs.Prelude.{All}
use Rattle.std.specs.List.{flat_map}
use Rattle.line_text.specs.Lines.{line_text}
use Rattle.value_texts.specs.Internal.Names.{IsNameable}
use Rattle.value_texts.specs.Printed.{value_step_tokens, OfEachEvent}
use Rattle.value_texts.proofs.printers.print_steps.Given as goal

abbrev pub invariant-loop-step : goal.invariant-loop-step
invariant-loop-step l =
    (string_bytes l.text ≡ string_bytes l.fn.text ++ flat_map line_text (map (value_step_tokens l.names) (take l.step-index l.steps)))
    × All (OfEachEvent (IsNameable l.names)) (take l.step-index l.steps)
