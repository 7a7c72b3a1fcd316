use Rattle.std.proofs.Common.{◌≡◌, take}
use Rattle.tso_ops.specs.Values.{rows}
use Rattle.log_selections.specs.Unwritten.{logged_stores_to}
use Rattle.log_selections.proofs.unwritten.stores_to.Given as goal

abbrev pub invariant-loop-list : goal.invariant-loop-list
invariant-loop-list l = l.stores.items ≡ logged_stores_to (take l.list-index (rows l.fn.lists)) l.fn.a
