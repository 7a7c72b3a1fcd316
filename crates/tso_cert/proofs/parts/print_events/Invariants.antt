use Rattle.std.proofs.Common.{◌≡◌, ◌++◌, ◌∷◌, take, string_bytes, All}
use Rattle.std.specs.List.{flat_map}
use Rattle.tso_cert.specs.Printed.{event_text, Fits}
use Rattle.tso_cert.proofs.parts.print_events.Given as goal

abbrev pub invariant-loop-number : goal.invariant-loop-number
invariant-loop-number l = (string_bytes l.text ≡ string_bytes l.fn.text ++ flat_map (λ n. 32 ∷ event_text n) (take l.number-index l.numbers)) × All Fits (take l.number-index l.numbers)
