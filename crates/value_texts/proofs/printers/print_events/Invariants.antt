use Rattle.std.proofs.Common.{◌≡◌, ◌++◌, ◌∷◌, take, string_bytes, All}
use Rattle.std.specs.List.{flat_map}
use Rattle.value_texts.specs.Printed.{event_token}
use Rattle.value_texts.specs.Internal.Names.{IsNameable}
use Rattle.value_texts.proofs.printers.print_events.Given as goal

abbrev pub invariant-loop-number : goal.invariant-loop-number
invariant-loop-number l =
    (string_bytes l.text ≡ string_bytes l.fn.text ++ flat_map (λ n. 32 ∷ event_token l.names n) (take l.number-index l.numbers))
    × All (IsNameable l.names) (take l.number-index l.numbers)
