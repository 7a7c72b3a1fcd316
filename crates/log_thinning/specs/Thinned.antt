-- Loads that can be dropped, since another load of their processor, near by, has their address and their value.
use Rattle.std.specs.Prelude.{ℕ, ◌==◌, ◌&&◌, cond, Bool, false, List, [], ◌∷◌, ◌++◌, length, map, Option, None, Some}
use Rattle.std.specs.List.{sum_by}
use Rattle.log_text.specs.declared.logs.LogOperation.{LogOperation}
use Rattle.log_text.specs.declared.logs.LogOperation.TheVariants.{Ld, St, Sw, Mb, Sb}
use Rattle.log_text.specs.declared.logs.LoggedOperation.{LoggedOperation}
use Rattle.log_text.specs.LogValues.{NumberedLog}

-- the operation is a load of this address and this value
abbrev pub is_load_of : LogOperation → Option (ℕ × ℕ) → Bool
is_load_of (Ld a r) None = false
is_load_of (Ld a r) (Some other) = other.0 == a && other.1 == r
is_load_of (St a v) other = false
is_load_of (Sw a r v) other = false
is_load_of Mb other = false
is_load_of Sb other = false

-- ---- loads that repeat the last one: only stores to other addresses stand between the two

-- the address and the value, unless it is this address
abbrev pub unless_at : ℕ → Option (ℕ × ℕ) → Option (ℕ × ℕ)
unless_at a None = None
unless_at a (Some load) = cond (load.0 == a) None (Some load)

-- The address and the value of the last load, after one more operation, while only stores to other addresses follow it.
abbrev pub last_load_after : LogOperation → Option (ℕ × ℕ) → Option (ℕ × ℕ)
last_load_after (Ld a r) last = Some (a, r)
last_load_after (St a v) last = unless_at a last
last_load_after (Sw a r v) last = None
last_load_after Mb last = None
last_load_after Sb last = None

-- the operations without such loads, where this is the last load before them
abbrev pub thinned_behind : Option (ℕ × ℕ) → List LoggedOperation → List LoggedOperation
thinned_behind last [] = []
thinned_behind last (x ∷ xs) = cond (is_load_of x.operation last) [] (x ∷ []) ++ thinned_behind (last_load_after x.operation last) xs

-- ---- loads that the next one repeats: only barriers stand between the two

-- the address and the value of the next load, before one more operation, while only barriers come before it
abbrev pub next_load_before : LogOperation → Option (ℕ × ℕ) → Option (ℕ × ℕ)
next_load_before (Ld a r) next = Some (a, r)
next_load_before (St a v) next = None
next_load_before (Sw a r v) next = None
next_load_before Mb next = next
next_load_before Sb next = next

abbrev pub next_load : List LoggedOperation → Option (ℕ × ℕ)
next_load [] = None
next_load (x ∷ xs) = next_load_before x.operation (next_load xs)

-- the operations without such loads
abbrev pub thinned_before : List LoggedOperation → List LoggedOperation
thinned_before [] = []
thinned_before (x ∷ xs) = cond (is_load_of x.operation (next_load xs)) [] (x ∷ []) ++ thinned_before xs

-- ---- both

-- what is left of a processor's operations
abbrev pub thinned_list : List LoggedOperation → List LoggedOperation
thinned_list operations = thinned_before (thinned_behind None operations)

-- and of a log
abbrev pub thinned : NumberedLog → NumberedLog
thinned log = record log { lists = map thinned_list log.lists }

-- how many operations a log has
abbrev pub operation_count : NumberedLog → ℕ
operation_count log = sum_by length log.lists
