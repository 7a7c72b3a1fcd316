-- Lemmas on the rings of a memory with store buffers.
use Rattle.std.proofs.Common.{◌≡◌, ◌∙◌, sym, ap, refl, subst, ℕ, ◌<◌, ◌≤◌, List, [], length, get_or, set, replicate, arith}
use Rattle.std.proofs.lemmas.List.{get_or-map, map-set, length-map}
use Rattle.std.proofs.lemmas.List.Elements.{All-map, All-weaker, All-get_or, All-nil, All-replicate}
use Rattle.circular_buffer.specs.Buffer.{Buffer, buffer}
use Rattle.store_buffers.specs.declared.entries.StoreEntry.{StoreEntry}
use Rattle.store_buffers.specs.Buffers.{IsBuffers, IsStoreBuffer, entries_of, with_entries}
use Rattle.store_buffers.specs.Internal.Rings.{IsEntryRing, IsRings, buffers_of_rings}

-- what the rings keep, said of the value
pub IsBuffers-of_rings : (memory : List ℕ) (rings : List (Buffer StoreEntry)) (capacity : ℕ) → IsRings memory rings capacity → IsBuffers (buffers_of_rings memory rings capacity)
IsBuffers-of_rings memory rings capacity are = record {
  words = are.words;
  processors = length-map rings (λ r. r.items) ∙ are.processors;
  least = are.least;
  most = are.most;
  buffers = All-map (IsStoreBuffer capacity) (λ r. r.items) rings (All-weaker (IsEntryRing capacity) (λ r. IsStoreBuffer capacity r.items) (λ r is. is.entries) rings are.buffers);
}

-- the ring that was read at p
pub entries-ring : (memory : List ℕ) (rings : List (Buffer StoreEntry)) (capacity p : ℕ) (ring : Buffer StoreEntry) → p < length rings → ring ≡ get_or rings p ring →
    entries_of (buffers_of_rings memory rings capacity) p ≡ ring.items
entries-ring memory rings capacity p ring within read = get_or-map (λ r. r.items) rings p ring [] within ∙ ap (λ r. r.items) (sym read)

-- another ring at p
pub with-ring : (memory : List ℕ) (rings : List (Buffer StoreEntry)) (capacity p : ℕ) (ring : Buffer StoreEntry) →
    buffers_of_rings memory (set rings p ring) capacity ≡ with_entries (buffers_of_rings memory rings capacity) p ring.items
with-ring memory rings capacity p ring = ap (λ bs. record { memory = memory; buffers = bs; capacity = capacity }) (map-set (λ r. r.items) rings p ring)

-- what the ring at p keeps
pub kept-ring : (memory : List ℕ) (rings : List (Buffer StoreEntry)) (capacity p : ℕ) (ring : Buffer StoreEntry) → p < length rings → ring ≡ get_or rings p ring →
    IsRings memory rings capacity → IsEntryRing capacity ring
kept-ring memory rings capacity p ring within read are = subst (IsEntryRing capacity) (sym read) (All-get_or (IsEntryRing capacity) rings p ring within are.buffers)

-- at first
pub IsRings-new : (capacity : ℕ) → 1 ≤ capacity → capacity ≤ 64 → IsRings (replicate 256 0) (replicate 16 (buffer [] capacity)) capacity
IsRings-new capacity least most = record {
  words = refl;
  processors = refl;
  least = least;
  most = most;
  buffers = All-replicate (IsEntryRing capacity) 16 (buffer [] capacity) (record { size = refl; entries = record { room = omega arith; addresses = All-nil (λ (e : StoreEntry). e.a < 256) } });
}
