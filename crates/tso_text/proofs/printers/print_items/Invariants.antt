use Rattle.std.proofs.Common.{◌≡◌, ◌++◌, take, string_bytes}
use Rattle.tso_text.specs.Printed.{items_text}
use Rattle.tso_text.proofs.printers.print_items.Given as goal

abbrev pub invariant-loop-item : goal.invariant-loop-item
invariant-loop-item g l = string_bytes l.text ≡ string_bytes l.fn.text ++ items_text g.T.Form.tokens (take l.item-index l.items)
