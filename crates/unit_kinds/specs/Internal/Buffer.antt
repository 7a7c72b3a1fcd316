-- What a store-buffer unit keeps between calls.
use Rattle.std.specs.Prelude.{◌≡◌, ℕ, zero, suc, List, map}
use Rattle.tso_ops.specs.declared.settings.Order.TheVariants.{Tso}
use Rattle.store_buffers.specs.declared.entries.StoreEntry.{StoreEntry}
use Rattle.store_buffers.specs.Buffers.{BuffersValue, oldest_drained}
use Rattle.unit_core.specs.declared.steps.Step.{Step}
use Rattle.unit_core.specs.Machine.{Entry, State, IsRun, after, first_state}

-- the machine's entry, without its number of STBARs
abbrev pub entry_of : Entry → StoreEntry
entry_of e = record { a = e.a; v = e.v }

-- The machine's state has these words and these entries.
pub record HasBuffers (s : State) (parts : BuffersValue) : Type 0 where
  pub memory : s.memory ≡ parts.memory
  pub buffers : map (map entry_of) s.buffers ≡ parts.buffers

-- The steps are a run of the TSO machine, after which it has these words and entries.
pub record IsStoreBufferUnit (steps : List Step) (first : List ℕ) (parts : BuffersValue) : Type 0 where
  pub run : IsRun Tso first steps
  pub state : HasBuffers (after (first_state first) steps) parts

-- so many of the oldest entries of processor p went to memory
abbrev pub drained_times : ℕ → BuffersValue → ℕ → BuffersValue
drained_times zero parts p = parts
drained_times (suc count) parts p = drained_times count (oldest_drained parts p) p
