-- Swaps that change nothing: each stores what it read.
use Rattle.std.specs.Prelude.{ℕ, ◌==◌, cond, List, [], ◌∷◌, map}
use Rattle.std.specs.List.{flat_map}
use Rattle.tso_ops.specs.declared.settings.Order.{Order}
use Rattle.tso_ops.specs.declared.settings.Order.TheVariants.{Tso, Pso}
use Rattle.log_text.specs.declared.logs.LogOperation.{LogOperation}
use Rattle.log_text.specs.declared.logs.LogOperation.TheVariants.{Ld, St, Sw, Mb, Sb}
use Rattle.log_text.specs.declared.logs.LoggedOperation.{LoggedOperation}
use Rattle.log_text.specs.LogValues.{NumberedLog}

-- an operation of this line
abbrev pub at_line : ℕ → LogOperation → LoggedOperation
at_line line x = record { line = line; operation = x }

-- What is read of an operation of this line: of a swap that stores what it read a barrier and a load, and of any other the operation itself.
abbrev pub read_at_line : ℕ → LogOperation → List LoggedOperation
read_at_line line (Ld a r) = at_line line (Ld a r) ∷ []
read_at_line line (St a v) = at_line line (St a v) ∷ []
read_at_line line (Sw a r v) = cond (r == v) (at_line line Mb ∷ at_line line (Ld a v) ∷ []) (at_line line (Sw a r v) ∷ [])
read_at_line line Mb = at_line line Mb ∷ []
read_at_line line Sb = at_line line Sb ∷ []

abbrev pub read_of : LoggedOperation → List LoggedOperation
read_of x = read_at_line x.line x.operation

-- The operations of the processors as they are read under this memory model. PSO orders a swap's store before later stores of its processor, and a
-- barrier and a load don't: there all stay as they are.
abbrev pub lists_read : Order → List (List LoggedOperation) → List (List LoggedOperation)
lists_read Tso lists = map (flat_map read_of) lists
lists_read Pso lists = lists

-- the log, with its idle swaps read as barriers and loads
abbrev pub with_idle_swaps_read : NumberedLog → NumberedLog
with_idle_swaps_read log = record log { lists = lists_read log.order log.lists }
