use Rattle.std.proofs.Common.{◌≡◌, ◌++◌, take}
use Rattle.std.specs.List.{flat_map}
use Rattle.log_selections.specs.Unwritten.{stored_at}
use Rattle.log_selections.proofs.unwritten.push_stores.Given as goal

abbrev pub invariant-loop-logged : goal.invariant-loop-logged
invariant-loop-logged l = l.stores.items ≡ l.fn.stores.items ++ flat_map (stored_at l.fn.a) (take l.logged-index l.fn.list)
