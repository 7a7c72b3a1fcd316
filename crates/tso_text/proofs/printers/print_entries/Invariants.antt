use Rattle.std.proofs.Common.{◌≡◌, ◌++◌, take, string_bytes}
use Rattle.tso_text.specs.Printed.{items_text, entry_tokens}
use Rattle.tso_text.proofs.printers.print_entries.Given as goal

abbrev pub invariant-loop-entry : goal.invariant-loop-entry
invariant-loop-entry l = string_bytes l.text ≡ string_bytes l.fn.text ++ items_text entry_tokens (take l.entry-index l.first)
