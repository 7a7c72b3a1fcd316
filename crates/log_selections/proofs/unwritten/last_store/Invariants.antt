use Rattle.std.proofs.Common.{◌≤◌, take}
use Rattle.std.specs.List.{All, Contains}
use Rattle.log_selections.proofs.unwritten.last_store.Given as goal

abbrev pub invariant-loop-store : goal.invariant-loop-store
invariant-loop-store l = Contains l.fn.stores l.last × All (λ other. other.line ≤ l.last.line) (take l.store-index l.fn.stores)
