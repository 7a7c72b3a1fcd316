-- What the fields of a memory with store buffers are, and what they keep.
use Rattle.std.specs.Prelude.{◌≡◌, ℕ, ◌≤◌, List, length, map}
use Rattle.std.specs.List.{All}
use Rattle.circular_buffer.specs.Buffer.{Buffer}
use Rattle.store_buffers.specs.declared.entries.StoreEntry.{StoreEntry}
use Rattle.store_buffers.specs.Buffers.{BuffersValue, IsStoreBuffer}

-- the value that these words and rings are
abbrev pub buffers_of_rings : List ℕ → List (Buffer StoreEntry) → ℕ → BuffersValue
buffers_of_rings memory rings capacity = record { memory = memory; buffers = map (λ r. r.items) rings; capacity = capacity }

-- The ring has room for so many entries, and is a store buffer.
pub record IsEntryRing (capacity : ℕ) (ring : Buffer StoreEntry) : Type 0 where
  pub size : ring.capacity ≡ capacity
  pub entries : IsStoreBuffer capacity ring.items

-- There are 256 words, and a ring for each of 16 processors.
pub record IsRings (memory : List ℕ) (rings : List (Buffer StoreEntry)) (capacity : ℕ) : Type 0 where
  pub words : length memory ≡ 256
  pub processors : length rings ≡ 16
  pub least : 1 ≤ capacity
  pub most : capacity ≤ 64
  pub buffers : All (IsEntryRing capacity) rings
