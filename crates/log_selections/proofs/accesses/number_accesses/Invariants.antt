use Rattle.std.proofs.Common.{◌≡◌, ◌++◌, suc, length, drop}
use Rattle.tso_ops.specs.Values.{rows}
use Rattle.log_selections.specs.Internal.Accesses.{accesses_of_lists, numbers_of_lists}
use Rattle.log_selections.proofs.accesses.number_accesses.Given as goal

-- what is pushed, and the accesses and numbers of the lists that are left, are those of all
abbrev pub invariant-loop-list : goal.invariant-loop-list
invariant-loop-list l =
    (l.accesses.items ++ accesses_of_lists (drop l.list-index (rows l.lists)) ≡ accesses_of_lists (rows l.lists))
    × (rows l.numbers.items ++ numbers_of_lists (suc (length l.accesses.items)) (drop l.list-index (rows l.lists)) ≡ numbers_of_lists 1 (rows l.lists))
