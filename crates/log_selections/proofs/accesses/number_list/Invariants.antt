use Rattle.std.proofs.Common.{◌≡◌, ◌++◌, suc, length, drop}
use Rattle.log_selections.specs.Internal.Accesses.{accesses_of_list, numbers_from}
use Rattle.log_selections.proofs.accesses.number_list.Given as goal

-- what is pushed, and the accesses and numbers of the operations that are left, are those of all
abbrev pub invariant-loop-logged : goal.invariant-loop-logged
invariant-loop-logged l =
    (l.accesses.items ++ accesses_of_list (drop l.logged-index l.list) ≡ l.fn.accesses.items ++ accesses_of_list l.list)
    × (l.numbers.items ++ numbers_from (suc (length l.accesses.items)) (drop l.logged-index l.list) ≡ numbers_from (suc (length l.fn.accesses.items)) l.list)
