-- What memory holds, and what a processor sees of it.
use Rattle.std.specs.Prelude.{ℕ, zero, suc, ◌+◌, ◌-◌, ◌*◌, ◌/◌, ◌%◌, ◌==◌, ◌&&◌, Bool, true, false, nat_eq, cond, List, [], ◌∷◌, ◌++◌, Option, None, Some, get_or, set, unwrap_or, if◌then◌else◌}
use Rattle.std.specs.List.{list_any}
use Rattle.std.specs.HashMap.{HashMap}
use Rattle.std.specs.Map.{lookup}
use Rattle.run_steps.specs.declared.places.Place.{Place}
use Rattle.run_steps.specs.declared.blocks.Block.{Block}
use Rattle.run_steps.specs.declared.blocks.MemoryCells.{MemoryCells}
use Rattle.run_steps.specs.declared.cells.Cell.{Cell}
use Rattle.run_steps.specs.declared.cells.Cell.TheVariants.{First, Stored, Unknown}
use Rattle.run_steps.specs.declared.cells.Written.{Written}
use Rattle.run_steps.specs.declared.cells.Written.TheVariants as written
use Rattle.run_steps.specs.declared.processors.WaitingStore.{WaitingStore}
use Rattle.run_steps.specs.declared.refusals.Comparison.{Comparison}
use Rattle.run_steps.specs.declared.refusals.Comparison.TheVariants as comparison
use Rattle.run_steps.specs.declared.refusals.Origin.{Origin}
use Rattle.run_steps.specs.declared.refusals.Origin.TheVariants as origin
use Rattle.run_steps.specs.declared.refusals.RunRefusal.{RunRefusal}
use Rattle.run_steps.specs.declared.refusals.RunRefusal.TheVariants as refusal
use Rattle.run_steps.specs.declared.refusals.CellContent.{CellContent}
use Rattle.run_steps.specs.Places.{cell_count, covers, overlaps, cell_parts}
use Rattle.run_steps.specs.Widths.{low_part}

-- ---- memory

-- what memory holds by address
abbrev pub Memory : Type 0
Memory = ℕ → Cell

-- what the map of locations has by address: the first value 0, where it has nothing
abbrev pub location_in : {S : Type 0} → HashMap ℕ Cell S → Memory
location_in locations address = unwrap_or (lookup (nat_eq address) locations.entries) (First 0)

-- what is in a cell of a block, where there is one, or else the given cell
abbrev pub cell_in : Cell → Option Block → ℕ → Cell
cell_in other None i = other
cell_in other (Some block) i = get_or block.cells i (First 0)

-- what these locations and blocks hold by address
abbrev pub memory_in : {S T : Type 0} → HashMap ℕ Cell S → HashMap ℕ Block T → Memory
memory_in locations blocks address = cell_in (location_in locations address) (lookup (nat_eq (address / 8)) blocks.entries) (address % 8)

abbrev pub memory_of_cells : MemoryCells → Memory
memory_of_cells memory = memory_in memory.locations memory.blocks

-- a block's cells after these are written into it from a number on
abbrev pub with_cells : List Cell → ℕ → List Cell → List Cell
with_cells block i [] = block
with_cells block i (cell ∷ cells) = with_cells (set block i cell) (i + 1) cells

-- memory with another cell at an address
abbrev pub with_cell : Memory → ℕ → Cell → Memory
with_cell memory address cell other = cond (nat_eq address other) cell (memory other)

-- memory after these are written into the cells from an address on
abbrev pub filled : Memory → ℕ → List Cell → Memory
filled memory address [] = memory
filled memory address (cell ∷ cells) = filled (with_cell memory address cell) (address + 1) cells

-- what is in a cell, where this part of a value is written into it
abbrev pub written_in : Written → ℕ → Cell
written_in written.First part = First part
written_in (written.Stored store reached) part = Stored part store reached
written_in written.Unknown part = Unknown

-- ---- what is seen

-- the newest of the stores that has the cell, or else the given one
abbrev pub newest_over : List WaitingStore → ℕ → Option WaitingStore → Option WaitingStore
newest_over [] cell other = other
newest_over (w ∷ waiting) cell other = newest_over waiting cell (cond (covers w.place cell) (Some w) other)

-- the newest of the stores that shares a cell with the place, or else the given one
abbrev pub newest_sharing : List WaitingStore → Place → Option WaitingStore → Option WaitingStore
newest_sharing [] place other = other
newest_sharing (w ∷ waiting) place other = newest_sharing waiting place (cond (overlaps w.place place) (Some w) other)

-- what is seen of a cell of memory
abbrev pub seen_in : Cell → Option CellContent
seen_in (First value) = Some (record { value = value; origin = origin.First })
seen_in (Stored value store reached) = Some (record { value = value; origin = origin.Reached store reached })
seen_in Unknown = None

-- what the store has in the cell
abbrev pub seen_of : WaitingStore → ℕ → CellContent
seen_of w cell = record { value = get_or (cell_parts w.place w.value) (cell - w.place.address) 0; origin = origin.Waiting w.store }

abbrev pub seen_before : Memory → ℕ → Option WaitingStore → Option CellContent
seen_before memory cell None = seen_in (memory cell)
seen_before memory cell (Some w) = Some (seen_of w cell)

-- What is seen in the cell by whose stores wait: what the newest of them that has it leaves there, or else what memory holds; nothing where that isn't known.
abbrev pub sees : Memory → List WaitingStore → ℕ → Option CellContent
sees memory waiting cell = seen_before memory cell (newest_over waiting cell None)

-- ---- what is read

-- the value of a cell of a place of this width, and of those above it
abbrev pub joined_cells : ℕ → Option CellContent → Option ℕ → Option ℕ
joined_cells width None above = None
joined_cells width (Some seen) None = None
joined_cells width (Some seen) (Some above) = Some (low_part width seen.value + 256 * above)

-- the value of so many cells from an address on
abbrev pub read_from : ℕ → (ℕ → Option CellContent) → ℕ → ℕ → Option ℕ
read_from width look address zero = Some 0
read_from width look address (suc count) = joined_cells width (look address) (read_from width look (address + 1) count)

-- the value that is read at the place; nothing where some of it isn't known
abbrev pub read_in : Place → (ℕ → Option CellContent) → Option ℕ
read_in place look = read_from place.width look place.address (cell_count place)

-- the two are one origin
abbrev pub is_origin : Origin → Origin → Bool
is_origin origin.First origin.First = true
is_origin (origin.Waiting n) (origin.Waiting m) = nat_eq n m
is_origin (origin.Reached n k) (origin.Reached m l) = nat_eq n m && nat_eq k l
is_origin origin.First (origin.Waiting m) = false
is_origin origin.First (origin.Reached m l) = false
is_origin (origin.Waiting n) origin.First = false
is_origin (origin.Waiting n) (origin.Reached m l) = false
is_origin (origin.Reached n k) origin.First = false
is_origin (origin.Reached n k) (origin.Waiting m) = false

-- these, and another that isn't among them
abbrev pub with_origin : List Origin → Option CellContent → List Origin
with_origin found None = found
with_origin found (Some seen) = if list_any (λ o. is_origin o seen.origin) found then found else found ++ seen.origin ∷ []

-- these, and those of so many cells from an address on, each once
abbrev pub origins_from : (ℕ → Option CellContent) → ℕ → ℕ → List Origin → List Origin
origins_from look address zero found = found
origins_from look address (suc count) found = origins_from look (address + 1) count (with_origin found (look address))

-- where the value at the place is from, each once, by ascending byte
abbrev pub origins_in : Place → (ℕ → Option CellContent) → List Origin
origins_in place look = origins_from look place.address (cell_count place) []

-- ---- refusals

-- a refusal, without where its origins lie in memory
pub data RefusalValue : Type 0 where
  value : ℕ → List Origin → RefusalValue
  waiting : ℕ → RefusalValue
  order : ℕ → ℕ → RefusalValue
  nothing_waits : RefusalValue
  reservation : ℕ → ℕ → RefusalValue
  no_reservation : RefusalValue

abbrev pub refusal_of : RunRefusal → RefusalValue
refusal_of (refusal.Value has origins) = value has origins.items
refusal_of (refusal.Waiting store) = waiting store
refusal_of (refusal.Order store first) = order store first
refusal_of refusal.NothingWaits = nothing_waits
refusal_of (refusal.Reservation store reached) = reservation store reached
refusal_of refusal.NoReservation = no_reservation

abbrev pub differing : Option ℕ → List Origin → ℕ → List RefusalValue
differing None origins said = []
differing (Some has) origins said = if has == said then [] else value has origins ∷ []

-- A line that says this value of the place is refused where another is read; not where that isn't known.
abbrev pub value_refusals : Place → (ℕ → Option CellContent) → ℕ → List RefusalValue
value_refusals place look said = differing (read_in place look) (origins_in place look) said

abbrev pub compared_by : Option ℕ → Comparison
compared_by None = comparison.Unknown
compared_by (Some has) = comparison.Compared

-- whether what is read at the place is known
abbrev pub compared : Place → (ℕ → Option CellContent) → Comparison
compared place look = compared_by (read_in place look)
