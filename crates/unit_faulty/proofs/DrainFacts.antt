-- What drains leave of a buffer, and keep.
use Rattle.std.proofs.Common.{◌≡◌, ◌∙◌, ap, refl, ℕ, zero, suc, ◌+◌, ◌-◌, ◌<◌, ◌≤◌, Bool, true, false, cond, Option, None, Some, List, length, drop, take, slice_get, length-set, add-one, arith}
use Rattle.std.proofs.lemmas.List.{get_or-set_same, length-drop, length-take}
use Rattle.circular_buffer.specs.Buffer.{last_item}
use Rattle.store_buffers.specs.declared.entries.StoreEntry.{StoreEntry}
use Rattle.store_buffers.specs.Buffers.{IsBuffers, entries_of}
use Rattle.request_options.specs.declared.faults.FaultKind.{FaultKind}
use Rattle.request_options.specs.declared.faults.FaultKind.TheVariants.{NewestFirst, NoForward, StaleLoad, TornSwap, IdleMembar, LostDrain}
use Rattle.unit_faulty.specs.declared.occasions.Occasion.{Occasion}
use Rattle.unit_faulty.specs.declared.occasions.Occasion.TheVariants.{DrainMade, SwapMade}
use Rattle.unit_faulty.specs.Faulty.{FaultyState, counted, deviates, drain_once, drain_times, drained_by, faulty_design, has_occasion, swap_drains, swapped, with_buffer, with_entered, with_entry_written, with_write}

-- So many entries left the buffer of processor p.
pub record LosesEntries (count : ℕ) (old new : FaultyState) (p : ℕ) : Type 0 where
  pub entries : length (entries_of new.parts p) ≡ length (entries_of old.parts p) - count
  pub processors : length new.parts.buffers ≡ length old.parts.buffers
  pub capacity : new.parts.capacity ≡ old.parts.capacity

-- at most one is counted
one_more : (b : Bool) (n : ℕ) → cond b (suc n) n ≤ n + 1
one_more true n = omega arith
one_more false n = omega arith

pub counted-most : (s : FaultyState) (occasion : Occasion) → (counted s occasion).occasions ≤ s.occasions + 1
counted-most s occasion = one_more (has_occasion s.kind occasion) s.occasions

-- an entry that is written to memory changes no buffer
record KeepsBuffers (old new : FaultyState) : Type 0 where
  buffers : new.parts.buffers ≡ old.parts.buffers
  capacity : new.parts.capacity ≡ old.parts.capacity
  occasions : new.occasions ≡ old.occasions

written-keeps : (s : FaultyState) (entry : Option StoreEntry) → KeepsBuffers s (with_entry_written s entry)
written-keeps s None = record { buffers = refl; capacity = refl; occasions = refl }
written-keeps s (Some e) = record { buffers = refl; capacity = refl; occasions = refl }

-- one entry less is left, and one may be written
leaves-one : (s : FaultyState) (p : ℕ) (left : List StoreEntry) (entry : Option StoreEntry) → p < length s.parts.buffers → length left ≡ length (entries_of s.parts p) - 1 →
    LosesEntries 1 s (with_entry_written (with_buffer s p left) entry) p
leaves-one s p left entry within fewer =
    let kept = written-keeps (with_buffer s p left) entry in
    record {
      entries = ap length (ap (λ bs. entries_of (record s.parts { buffers = bs }) p) kept.buffers ∙ get_or-set_same s.parts.buffers p left _ within) ∙ fewer;
      processors = ap length kept.buffers ∙ length-set s.parts.buffers p left;
      capacity = kept.capacity;
    }

oldest-leaves : (s : FaultyState) (p : ℕ) (entry : Option StoreEntry) → p < length s.parts.buffers → LosesEntries 1 s (with_entry_written (with_buffer s p (drop 1 (entries_of s.parts p))) entry) p
oldest-leaves s p entry within = leaves-one s p (drop 1 (entries_of s.parts p)) entry within (length-drop 1 (entries_of s.parts p))

newest-leaves : (s : FaultyState) (p : ℕ) (entry : Option StoreEntry) → p < length s.parts.buffers →
    LosesEntries 1 s (with_entry_written (with_buffer s p (take (length (entries_of s.parts p) - 1) (entries_of s.parts p))) entry) p
newest-leaves s p entry within =
    leaves-one s p (take (length (entries_of s.parts p) - 1) (entries_of s.parts p)) entry within (omega (arith, length-take (length (entries_of s.parts p) - 1) (entries_of s.parts p)))

drained_by-loses : (kind : FaultKind) (deviates : Bool) (s : FaultyState) (p : ℕ) → p < length s.parts.buffers → LosesEntries 1 s (drained_by kind deviates s p) p
drained_by-loses NewestFirst true s p within = newest-leaves s p (last_item (entries_of s.parts p)) within
drained_by-loses NewestFirst false s p within = oldest-leaves s p (slice_get (entries_of s.parts p) 0) within
drained_by-loses NoForward deviates s p within = oldest-leaves s p (slice_get (entries_of s.parts p) 0) within
drained_by-loses StaleLoad deviates s p within = oldest-leaves s p (slice_get (entries_of s.parts p) 0) within
drained_by-loses TornSwap deviates s p within = oldest-leaves s p (slice_get (entries_of s.parts p) 0) within
drained_by-loses IdleMembar deviates s p within = oldest-leaves s p (slice_get (entries_of s.parts p) 0) within
drained_by-loses LostDrain true s p within = oldest-leaves s p None within
drained_by-loses LostDrain false s p within = oldest-leaves s p (slice_get (entries_of s.parts p) 0) within

-- drained_by keeps the number of occasions
left-occasions : (s : FaultyState) (p : ℕ) (left : List StoreEntry) (entry : Option StoreEntry) → (with_entry_written (with_buffer s p left) entry).occasions ≡ s.occasions
left-occasions s p left entry = (written-keeps (with_buffer s p left) entry).occasions

drained_by-occasions : (kind : FaultKind) (deviates : Bool) (s : FaultyState) (p : ℕ) → (drained_by kind deviates s p).occasions ≡ s.occasions
drained_by-occasions NewestFirst true s p = left-occasions s p _ (last_item (entries_of s.parts p))
drained_by-occasions NewestFirst false s p = left-occasions s p _ (slice_get (entries_of s.parts p) 0)
drained_by-occasions NoForward deviates s p = left-occasions s p _ (slice_get (entries_of s.parts p) 0)
drained_by-occasions StaleLoad deviates s p = left-occasions s p _ (slice_get (entries_of s.parts p) 0)
drained_by-occasions TornSwap deviates s p = left-occasions s p _ (slice_get (entries_of s.parts p) 0)
drained_by-occasions IdleMembar deviates s p = left-occasions s p _ (slice_get (entries_of s.parts p) 0)
drained_by-occasions LostDrain true s p = refl
drained_by-occasions LostDrain false s p = left-occasions s p _ (slice_get (entries_of s.parts p) 0)

-- one drain
pub drain_once-most : (s : FaultyState) (p : ℕ) → (drain_once s p).occasions ≤ s.occasions + 1
drain_once-most s p = omega (arith, drained_by-occasions s.kind (deviates s DrainMade) (counted s DrainMade) p, counted-most s DrainMade)

pub drain_once-loses : (s : FaultyState) (p : ℕ) → p < length s.parts.buffers → LosesEntries 1 s (drain_once s p) p
drain_once-loses s p within =
    let out = drained_by-loses s.kind (deviates s DrainMade) (counted s DrainMade) p within in
    record { entries = out.entries; processors = out.processors; capacity = out.capacity }

-- so many
pub drain_times-loses : (count : ℕ) (s : FaultyState) (p : ℕ) → p < length s.parts.buffers → LosesEntries count s (drain_times count s p) p
drain_times-loses zero s p within = record { entries = omega arith; processors = refl; capacity = refl }
drain_times-loses (suc count) s p within =
    let rest = drain_times-loses count s p within in
    let one = drain_once-loses (drain_times count s p) p (omega (arith, rest.processors)) in
    record {
      entries = omega (arith, one.entries, rest.entries);
      processors = one.processors ∙ rest.processors;
      capacity = one.capacity ∙ rest.capacity;
    }

-- drains keep the unit's design
left-design : (s : FaultyState) (p : ℕ) (left : List StoreEntry) (entry : Option StoreEntry) → faulty_design (with_entry_written (with_buffer s p left) entry) ≡ faulty_design s
left-design s p left None = refl
left-design s p left (Some e) = refl

drained_by-design : (kind : FaultKind) (deviates : Bool) (s : FaultyState) (p : ℕ) → faulty_design (drained_by kind deviates s p) ≡ faulty_design s
drained_by-design NewestFirst true s p = left-design s p _ (last_item (entries_of s.parts p))
drained_by-design NewestFirst false s p = left-design s p _ (slice_get (entries_of s.parts p) 0)
drained_by-design NoForward deviates s p = left-design s p _ (slice_get (entries_of s.parts p) 0)
drained_by-design StaleLoad deviates s p = left-design s p _ (slice_get (entries_of s.parts p) 0)
drained_by-design TornSwap deviates s p = left-design s p _ (slice_get (entries_of s.parts p) 0)
drained_by-design IdleMembar deviates s p = left-design s p _ (slice_get (entries_of s.parts p) 0)
drained_by-design LostDrain true s p = refl
drained_by-design LostDrain false s p = left-design s p _ (slice_get (entries_of s.parts p) 0)

pub drain_once-design : (s : FaultyState) (p : ℕ) → faulty_design (drain_once s p) ≡ faulty_design s
drain_once-design s p = drained_by-design s.kind (deviates s DrainMade) (counted s DrainMade) p

pub drain_times-design : (count : ℕ) (s : FaultyState) (p : ℕ) → faulty_design (drain_times count s p) ≡ faulty_design s
drain_times-design zero s p = refl
drain_times-design (suc count) s p = drain_once-design (drain_times count s p) p ∙ drain_times-design count s p

-- and so does a swap, torn or not
either-design : (b : Bool) (s x y : FaultyState) → faulty_design x ≡ faulty_design s → faulty_design y ≡ faulty_design s → faulty_design (cond b x y) ≡ faulty_design s
either-design true s x y first second = first
either-design false s x y first second = second

pub swapped-design : (s : FaultyState) (p a v : ℕ) → faulty_design (swapped s p a v) ≡ faulty_design s
swapped-design s p a v = either-design (deviates s SwapMade) s (with_entered (counted s SwapMade) p a v) (with_write (counted s SwapMade) a v) refl refl

-- a buffer that was drained has room
pub drained-room : (s : FaultyState) (p : ℕ) → p < 16 → IsBuffers s.parts →
    length (entries_of (drain_times (swap_drains s p) s p).parts p) < (drain_times (swap_drains s p) s p).parts.capacity
drained-room s p processor are =
    let out = drain_times-loses (swap_drains s p) s p (omega (arith, are.processors)) in
    omega (arith, out.entries, out.capacity, are.least)

-- one more
pub drain_times-more : (count : ℕ) (s : FaultyState) (p : ℕ) → drain_times (count + 1) s p ≡ drain_once (drain_times count s p) p
drain_times-more count s p = rw add-one refl
