use Rattle.std.proofs.Common.{◌≢◌, take}
use Rattle.std.specs.List.{All}
use Rattle.log_selections.proofs.unwritten.has_value.Given as goal

abbrev pub invariant-loop-store : goal.invariant-loop-store
invariant-loop-store l = All (λ store. store.value ≢ l.fn.value) (take l.store-index l.fn.stores)
