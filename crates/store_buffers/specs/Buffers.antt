-- What contracts see of a memory with store buffers.
use Rattle.std.specs.Prelude.{◌≡◌, ℕ, ◌<◌, ◌≤◌, List, [], ◌∷◌, Option, None, Some, cond, ◌==◌, length, get_or, set, drop, replicate, slice_get}
use Rattle.std.specs.Option.{option_or}
use Rattle.std.specs.List.{All}
use Rattle.store_buffers.specs.declared.entries.StoreEntry.{StoreEntry}

-- the words of memory; the entries that wait for each processor, the oldest first; and how many may wait for one
pub record BuffersValue : Type 0 where
  pub memory : List ℕ
  pub buffers : List (List StoreEntry)
  pub capacity : ℕ

-- zeros, and empty buffers
abbrev pub new_buffers : ℕ → BuffersValue
new_buffers capacity = record { memory = replicate 256 0; buffers = replicate 16 []; capacity = capacity }

-- the entries that wait for processor p, the oldest first
abbrev pub entries_of : BuffersValue → ℕ → List StoreEntry
entries_of b p = get_or b.buffers p []

-- with these entries for processor p
abbrev pub with_entries : BuffersValue → ℕ → List StoreEntry → BuffersValue
with_entries b p entries = record b { buffers = set b.buffers p entries }

-- with this word at the address
abbrev pub with_word : BuffersValue → ℕ → ℕ → BuffersValue
with_word b a v = record b { memory = set b.memory a v }

-- the value of the newest entry of the address, if there is one
abbrev pub newest_value : List StoreEntry → ℕ → Option ℕ
newest_value [] a = None
newest_value (e ∷ newer) a = option_or (newest_value newer a) (cond (e.a == a) (Some e.v) None)

-- the entry is written to memory
abbrev pub with_written : BuffersValue → Option StoreEntry → BuffersValue
with_written b None = b
with_written b (Some e) = with_word b e.a e.v

-- the oldest entry of processor p, if one waits, went to memory
abbrev pub oldest_drained : BuffersValue → ℕ → BuffersValue
oldest_drained b p = with_written (with_entries b p (drop 1 (entries_of b p))) (slice_get (entries_of b p) 0)

-- No more entries wait in a buffer than may, and their addresses are in range.
pub record IsStoreBuffer (capacity : ℕ) (entries : List StoreEntry) : Type 0 where
  pub room : length entries ≤ capacity
  pub addresses : All (λ e. e.a < 256) entries

-- There are 256 words, and a buffer for each of 16 processors.
pub record IsBuffers (b : BuffersValue) : Type 0 where
  pub words : length b.memory ≡ 256
  pub processors : length b.buffers ≡ 16
  pub least : 1 ≤ b.capacity
  pub most : b.capacity ≤ 64
  pub buffers : All (IsStoreBuffer b.capacity) b.buffers
