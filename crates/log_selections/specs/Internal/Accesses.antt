-- The accesses of a log and their numbers.
use Rattle.std.specs.Prelude.{ℕ, ◌+◌, true, false, List, [], ◌∷◌, ◌++◌, length}
use Rattle.log_text.specs.declared.logs.LogOperation.{LogOperation}
use Rattle.log_text.specs.declared.logs.LoggedOperation.{LoggedOperation}
use Rattle.log_text.specs.declared.logs.LogOperation.TheVariants.{Ld, St, Sw, Mb, Sb}
use Rattle.log_selections.specs.declared.accesses.Access.{Access}

-- the loads and stores that an operation gives
abbrev pub accesses_of : LogOperation → List Access
accesses_of (Ld a r) = record { load = true; a = a; value = r } ∷ []
accesses_of (St a v) = record { load = false; a = a; value = v } ∷ []
accesses_of (Sw a r v) = record { load = true; a = a; value = r } ∷ record { load = false; a = a; value = v } ∷ []
accesses_of Mb = []
accesses_of Sb = []

-- those of a processor
abbrev pub accesses_of_list : List LoggedOperation → List Access
accesses_of_list [] = []
accesses_of_list (x ∷ xs) = accesses_of x.operation ++ accesses_of_list xs

-- those of all processors, in the order of their numbers
abbrev pub accesses_of_lists : List (List LoggedOperation) → List Access
accesses_of_lists [] = []
accesses_of_lists (xs ∷ lists) = accesses_of_list xs ++ accesses_of_lists lists

-- for each operation the number of its first access, where that of the first operation is n
abbrev pub numbers_from : ℕ → List LoggedOperation → List ℕ
numbers_from n [] = []
numbers_from n (x ∷ xs) = n ∷ numbers_from (n + length (accesses_of x.operation)) xs

-- the same of each processor
abbrev pub numbers_of_lists : ℕ → List (List LoggedOperation) → List (List ℕ)
numbers_of_lists n [] = []
numbers_of_lists n (xs ∷ lists) = numbers_from n xs ∷ numbers_of_lists (n + length (accesses_of_list xs)) lists
