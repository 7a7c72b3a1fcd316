-- Lemmas on entries that are drained one after the other.
use Rattle.std.proofs.Common.{◌≡◌, ◌∙◌, ap, refl, ℕ, zero, suc, ◌+◌, ◌-◌, ◌<◌, Option, None, Some, length, drop, slice_get, length-set, add-one, arith}
use Rattle.std.proofs.lemmas.List.{get_or-set_same, length-drop}
use Rattle.store_buffers.specs.declared.entries.StoreEntry.{StoreEntry}
use Rattle.store_buffers.specs.Buffers.{BuffersValue, entries_of, oldest_drained, with_entries, with_written}
use Rattle.unit_kinds.specs.Internal.Buffer.{drained_times}

-- one more
drained_times-suc : (count : ℕ) (parts : BuffersValue) (p : ℕ) → drained_times (suc count) parts p ≡ oldest_drained (drained_times count parts p) p
drained_times-suc zero parts p = refl
drained_times-suc (suc count) parts p = drained_times-suc count (oldest_drained parts p) p

pub drained_times-more : (count : ℕ) (parts : BuffersValue) (p : ℕ) → drained_times (count + 1) parts p ≡ oldest_drained (drained_times count parts p) p
drained_times-more count parts p = rw add-one (drained_times-suc count parts p)

-- what is written to memory leaves buffers and capacity
written-buffers : (parts : BuffersValue) (entry : Option StoreEntry) → ((with_written parts entry).buffers ≡ parts.buffers) × ((with_written parts entry).capacity ≡ parts.capacity)
written-buffers parts None = (refl, refl)
written-buffers parts (Some e) = (refl, refl)

-- the buffer has one entry less, if it had one
pub drained-buffers : (parts : BuffersValue) (p : ℕ) → p < length parts.buffers →
    (length (entries_of (oldest_drained parts p) p) ≡ length (entries_of parts p) - 1) × (length (oldest_drained parts p).buffers ≡ length parts.buffers) × ((oldest_drained parts p).capacity ≡ parts.capacity)
drained-buffers parts p within =
    let entries = entries_of parts p in
    let out = written-buffers (with_entries parts p (drop 1 entries)) (slice_get entries 0) in (
      ap length (ap (λ bs. entries_of (record parts { buffers = bs }) p) out.0 ∙ get_or-set_same parts.buffers p (drop 1 entries) _ within) ∙ length-drop 1 entries,
      ap length out.0 ∙ length-set parts.buffers p (drop 1 entries),
      out.1,
    )

-- What drains of processor p leave of its buffer, and keep.
pub record KeepsAfterDrains (count : ℕ) (parts : BuffersValue) (p : ℕ) : Type 0 where
  pub entries : length (entries_of (drained_times count parts p) p) ≡ length (entries_of parts p) - count
  pub wide : length (drained_times count parts p).buffers ≡ length parts.buffers
  pub capacity : (drained_times count parts p).capacity ≡ parts.capacity

pub drained_times-kept : (count : ℕ) (parts : BuffersValue) (p : ℕ) → p < length parts.buffers → KeepsAfterDrains count parts p
drained_times-kept zero parts p within = record { entries = omega arith; wide = refl; capacity = refl }
drained_times-kept (suc count) parts p within =
    let one = drained-buffers parts p within in
    let rest = drained_times-kept count (oldest_drained parts p) p (omega (arith, one.1)) in
    record {
      entries = omega (arith, rest.entries, one.0);
      wide = rest.wide ∙ one.1;
      capacity = rest.capacity ∙ one.2;
    }
