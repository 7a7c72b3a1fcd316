-- A store-buffer unit's steps stay a run of the TSO machine, whose buffers have the entries that wait.
use Rattle.std.proofs.Common.{◌≡◌, ◌∙◌, sym, ap, refl, subst, ℕ, zero, suc, ◌<◌, ◌≤◌, Bool, true, false, cond, ◌==◌, Option, None, Some, List, [], ◌∷◌, ◌++◌, length, get_or, map, set, drop, replicate, slice_get, slice_index, arith}
use Rattle.std.specs.Int.{from_bool}
use Rattle.std.specs.List.{remove}
use Rattle.std.specs.Option.{option_or, unwrap_or}
use Rattle.std.proofs.Math.ListN.{get_or-map}
use Rattle.std.proofs.lemmas.Bool.Decides.{nat_tests}
use Rattle.std.proofs.lemmas.List.{length-map, map-set, map_push, nil_from_length}
use Rattle.tso_ops.specs.declared.settings.Order.TheVariants.{Tso}
use Rattle.store_buffers.specs.declared.entries.StoreEntry.{StoreEntry}
use Rattle.store_buffers.specs.Buffers.{BuffersValue, entries_of, new_buffers, newest_value, oldest_drained, with_entries, with_word, with_written}
use Rattle.unit_core.specs.declared.steps.Step.{Step}
use Rattle.unit_core.specs.declared.steps.Step.TheVariants.{Store, Drain, Load, Swap, Membar, Stbar}
use Rattle.unit_core.specs.Machine.{Entry, State, IsAllowed, IsRunFrom, Waits, after, buffer_of, first_state, newest, next, proc_of, seen_by, stbars_of, written}
use Rattle.unit_core.proofs.DrainedSteps.{Takes-drains_and}
use Rattle.unit_core.proofs.RunFacts.{IsRunFrom-append, after-append}
use Rattle.unit_core.specs.Units.{DrainsOne, IsUnit, Takes, new_unit}
use Rattle.unit_kinds.specs.Buffer.{StoreBufferValue, after_drains_and, new_store_buffer, store_buffer_design, store_buffer_unit, waiting_after}
use Rattle.unit_kinds.specs.Internal.Buffer.{HasBuffers, IsStoreBufferUnit, drained_times, entry_of}
use Rattle.unit_kinds.proofs.DrainingFacts.{drained-buffers, drained_times-kept}

-- the entries of processor p
entries-machine : (s : State) (parts : BuffersValue) (p : ℕ) → HasBuffers s parts → map entry_of (buffer_of s p) ≡ entries_of parts p
entries-machine s parts p has = sym (get_or-map (map entry_of) s.buffers p []) ∙ ap (λ bs. get_or bs p []) has.buffers

length-machine : (s : State) (parts : BuffersValue) (p : ℕ) → HasBuffers s parts → length (buffer_of s p) ≡ length (entries_of parts p)
length-machine s parts p has = sym (length-map (buffer_of s p) entry_of) ∙ ap length (entries-machine s parts p has)

-- how many entries wait after the steps
pub waiting-machine : (first : List ℕ) (steps : List Step) (p : ℕ) → get_or (waiting_after first steps) p 0 ≡ length (buffer_of (after (first_state first) steps) p)
unfolding waiting_after
waiting-machine first steps p = get_or-map length (after (first_state first) steps).buffers p []

pub waiting-parts : (steps : List Step) (first : List ℕ) (parts : BuffersValue) (p : ℕ) → IsStoreBufferUnit steps first parts →
    get_or (waiting_after first steps) p 0 ≡ length (entries_of parts p)
waiting-parts steps first parts p kept = waiting-machine first steps p ∙ length-machine (after (first_state first) steps) parts p kept.state

-- more steps
IsStoreBufferUnit-append : (steps more : List Step) (first : List ℕ) (old new : BuffersValue) → IsStoreBufferUnit steps first old →
    ((s : State) → HasBuffers s old → IsRunFrom Tso s more × HasBuffers (after s more) new) → IsStoreBufferUnit (steps ++ more) first new
IsStoreBufferUnit-append steps more first old new kept goes =
    let reached = goes (after (first_state first) steps) kept.state in
    record {
      run = IsRunFrom-append Tso (first_state first) steps more kept.run reached.0;
      state = subst (λ s. HasBuffers s new) (sym (after-append (first_state first) steps more)) reached.1;
    }

newest_or : (o : Option ℕ) (b : Bool) (v word : ℕ) → unwrap_or o (cond b v word) ≡ unwrap_or (option_or o (cond b (Some v) None)) word
newest_or None true v word = refl
newest_or None false v word = refl
newest_or (Some x) b v word = refl

-- the newest entry of the address, and else the word of memory
newest-machine : (buffer : List Entry) (a word : ℕ) → newest buffer a word ≡ unwrap_or (newest_value (map entry_of buffer) a) word
newest-machine [] a word = refl
newest-machine (e ∷ rest) a word = newest-machine rest a (cond (e.a == a) e.v word) ∙ newest_or (newest_value (map entry_of rest) a) (e.a == a) e.v word

seen-machine : (s : State) (parts : BuffersValue) (p a : ℕ) → HasBuffers s parts → seen_by s p a ≡ unwrap_or (newest_value (entries_of parts p) a) (slice_index parts.memory a)
seen-machine s parts p a has =
    newest-machine (buffer_of s p) a (slice_index s.memory a)
    ∙ ap (λ es. unwrap_or (newest_value es a) (slice_index s.memory a)) (entries-machine s parts p has)
    ∙ ap (λ (words : List ℕ). unwrap_or (newest_value (entries_of parts p) a) (slice_index words a)) has.memory

pub IsStoreBufferUnit-load : (steps : List Step) (first : List ℕ) (parts : BuffersValue) (p a r : ℕ) → p < 16 → a < 256 →
    r ≡ unwrap_or (newest_value (entries_of parts p) a) (slice_index parts.memory a) → IsStoreBufferUnit steps first parts → IsStoreBufferUnit (steps ++ Load p a r ∷ []) first parts
IsStoreBufferUnit-load steps first parts p a r processor address read kept =
    IsStoreBufferUnit-append steps (Load p a r ∷ []) first parts parts kept (λ s has. (((processor, address, read ∙ sym (seen-machine s parts p a has)), tt), has))

pub IsStoreBufferUnit-stbar : (steps : List Step) (first : List ℕ) (parts : BuffersValue) (p : ℕ) → p < 16 → IsStoreBufferUnit steps first parts →
    IsStoreBufferUnit (steps ++ Stbar p ∷ []) first parts
IsStoreBufferUnit-stbar steps first parts p processor kept =
    IsStoreBufferUnit-append steps (Stbar p ∷ []) first parts parts kept (λ s has. ((processor, tt), record { memory = has.memory; buffers = has.buffers }))

-- the oldest entry goes to memory
HasBuffers-drain : (s : State) (parts : BuffersValue) (p : ℕ) (buffer : List Entry) → buffer_of s p ≡ buffer → 0 < length buffer → HasBuffers s parts →
    Waits (buffer_of s p) 0 × HasBuffers (next s (Drain p)) (oldest_drained parts p)
HasBuffers-drain s parts p [] is waits has = absurd (omega arith)
HasBuffers-drain s parts p (e ∷ rest) is waits has =
    let entries : entries_of parts p ≡ entry_of e ∷ map entry_of rest = sym (entries-machine s parts p has) ∙ ap (map entry_of) is in
    let left : State = record s { memory = set s.memory e.a e.v; buffers = set s.buffers p rest } in
    let out : next s (Drain p) ≡ left = ap (λ (b : List Entry). written s p (slice_get b 0) (remove b 0)) is in
    let same : oldest_drained parts p ≡ with_word (with_entries parts p (map entry_of rest)) e.a e.v =
    ap (λ (es : List StoreEntry). with_written (with_entries parts p (drop 1 es)) (slice_get es 0)) entries in
    let reached : HasBuffers left (with_word (with_entries parts p (map entry_of rest)) e.a e.v) = record {
      memory = ap (λ (words : List ℕ). set words e.a e.v) has.memory;
      buffers = map-set (map entry_of) s.buffers p rest ∙ ap (λ (bs : List (List StoreEntry)). set bs p (map entry_of rest)) has.buffers;
    } in
    ((e, ap (λ (b : List Entry). slice_get b 0) is), subst (λ t. HasBuffers t (oldest_drained parts p)) (sym out) (subst (HasBuffers left) (sym same) reached))

-- so many drains
drains-machine : (count : ℕ) (s : State) (parts : BuffersValue) (p : ℕ) → p < 16 → length parts.buffers ≡ 16 → count ≤ length (entries_of parts p) → HasBuffers s parts →
    IsRunFrom Tso s (replicate count (Drain p)) × HasBuffers (after s (replicate count (Drain p))) (drained_times count parts p)
drains-machine zero s parts p processor wide enough has = (tt, has)
drains-machine (suc count) s parts p processor wide enough has =
    let first = HasBuffers-drain s parts p (buffer_of s p) refl (omega (arith, length-machine s parts p has)) has in
    let left = drained-buffers parts p (omega (arith, wide)) in
    let rest = drains-machine count (next s (Drain p)) (oldest_drained parts p) p processor (left.1 ∙ wide) (omega (arith, left.0)) first.1 in
    (((processor, first.0), rest.0), rest.1)

-- so many drains and then a step
IsStoreBufferUnit-drains : (steps : List Step) (first : List ℕ) (old new : BuffersValue) (p count : ℕ) (step : Step) → p < 16 → length old.buffers ≡ 16 → count ≤ length (entries_of old p) →
    IsStoreBufferUnit steps first old → ((s : State) → HasBuffers s (drained_times count old p) → IsAllowed Tso s step × HasBuffers (next s step) new) →
    IsStoreBufferUnit (steps ++ (replicate count (Drain p) ++ step ∷ [])) first new
IsStoreBufferUnit-drains steps first old new p count step processor wide enough kept goes =
    IsStoreBufferUnit-append steps (replicate count (Drain p) ++ step ∷ []) first old new kept
    (λ s has.
    let drains = replicate count (Drain p) in
    let drained = drains-machine count s old p processor wide enough has in
    let last = goes (after s drains) drained.1 in
    (IsRunFrom-append Tso s drains (step ∷ []) drained.0 (last.0, tt), subst (λ t. HasBuffers t new) (sym (after-append s drains (step ∷ []))) last.1))

pub IsStoreBufferUnit-drain : (steps : List Step) (first : List ℕ) (parts : BuffersValue) (p : ℕ) → p < 16 → 0 < length (entries_of parts p) → IsStoreBufferUnit steps first parts →
    IsStoreBufferUnit (steps ++ Drain p ∷ []) first (oldest_drained parts p)
IsStoreBufferUnit-drain steps first parts p processor waits kept =
    IsStoreBufferUnit-append steps (Drain p ∷ []) first parts (oldest_drained parts p) kept
    (λ s has. let out = HasBuffers-drain s parts p (buffer_of s p) refl (omega (arith, length-machine s parts p has)) has in (((processor, out.0), tt), out.1))

-- a store enters
HasBuffers-store : (s : State) (parts : BuffersValue) (p a v : ℕ) → HasBuffers s parts → HasBuffers (next s (Store p a v)) (with_entries parts p (entries_of parts p ++ record { a = a; v = v } ∷ []))
HasBuffers-store s parts p a v has =
    let e : Entry = record { a = a; v = v; stbars = stbars_of s p } in
    record {
      memory = has.memory;
      buffers = map-set (map entry_of) s.buffers p (buffer_of s p ++ e ∷ [])
          ∙ ap (λ (bs : List (List StoreEntry)). set bs p (map entry_of (buffer_of s p ++ e ∷ []))) has.buffers
          ∙ ap (set parts.buffers p) (map_push entry_of (buffer_of s p) e ∙ ap (λ (es : List StoreEntry). es ++ entry_of e ∷ []) (entries-machine s parts p has));
    }

pub IsStoreBufferUnit-store : (steps : List Step) (first : List ℕ) (parts : BuffersValue) (p a v count : ℕ) → p < 16 → a < 256 → length parts.buffers ≡ 16 → count ≤ length (entries_of parts p) →
    IsStoreBufferUnit steps first parts →
    IsStoreBufferUnit (steps ++ (replicate count (Drain p) ++ Store p a v ∷ [])) first
    (with_entries (drained_times count parts p) p (entries_of (drained_times count parts p) p ++ record { a = a; v = v } ∷ []))
IsStoreBufferUnit-store steps first parts p a v count processor address wide enough kept =
    IsStoreBufferUnit-drains steps first parts _ p count (Store p a v) processor wide enough kept (λ s has. ((processor, address), HasBuffers-store s (drained_times count parts p) p a v has))

-- the buffer is empty once all its entries were drained
all-drained : (s : State) (parts : BuffersValue) (p : ℕ) → p < 16 → length parts.buffers ≡ 16 → HasBuffers s (drained_times (length (entries_of parts p)) parts p) → buffer_of s p ≡ []
all-drained s parts p processor wide has =
    let count = length (entries_of parts p) in
    let kept = drained_times-kept count parts p (omega (arith, wide)) in
    nil_from_length (buffer_of s p) (omega (arith, length-machine s (drained_times count parts p) p has, kept.entries))

pub IsStoreBufferUnit-swap : (steps : List Step) (first : List ℕ) (parts : BuffersValue) (p a r v : ℕ) → p < 16 → a < 256 → length parts.buffers ≡ 16 →
    r ≡ slice_index (drained_times (length (entries_of parts p)) parts p).memory a → IsStoreBufferUnit steps first parts →
    IsStoreBufferUnit (steps ++ (replicate (length (entries_of parts p)) (Drain p) ++ Swap p a r v ∷ [])) first (with_word (drained_times (length (entries_of parts p)) parts p) a v)
IsStoreBufferUnit-swap steps first parts p a r v processor address wide read kept =
    let count = length (entries_of parts p) in
    IsStoreBufferUnit-drains steps first parts (with_word (drained_times count parts p) a v) p count (Swap p a r v) processor wide (omega arith) kept
    (λ s has. (
      (processor, address, all-drained s parts p processor wide has, read ∙ ap (λ (words : List ℕ). slice_index words a) (sym has.memory)),
      record {
        memory = ap (λ (words : List ℕ). set words a v) has.memory;
        buffers = has.buffers;
      },
    ))

pub IsStoreBufferUnit-membar : (steps : List Step) (first : List ℕ) (parts : BuffersValue) (p : ℕ) → p < 16 → length parts.buffers ≡ 16 → IsStoreBufferUnit steps first parts →
    IsStoreBufferUnit (steps ++ (replicate (length (entries_of parts p)) (Drain p) ++ Membar p ∷ [])) first (drained_times (length (entries_of parts p)) parts p)
IsStoreBufferUnit-membar steps first parts p processor wide kept =
    let count = length (entries_of parts p) in
    IsStoreBufferUnit-drains steps first parts (drained_times count parts p) p count (Membar p) processor wide (omega arith) kept
    (λ s has. ((processor, all-drained s parts p processor wide has), has))

-- a first value is set before the first step
pub IsStoreBufferUnit-preset : (steps : List Step) (first : List ℕ) (parts : BuffersValue) (a v : ℕ) → steps ≡ [] → IsStoreBufferUnit steps first parts →
    IsStoreBufferUnit steps (set first a v) (with_word parts a v)
IsStoreBufferUnit-preset [] first parts a v none kept = record {
  run = tt;
  state = record { memory = ap (λ (words : List ℕ). set words a v) kept.state.memory; buffers = kept.state.buffers };
}
IsStoreBufferUnit-preset (step ∷ steps) first parts a v none kept = absurd cc

pub waiting-preset : (steps : List Step) (first : List ℕ) (a v : ℕ) → steps ≡ [] → waiting_after (set first a v) steps ≡ waiting_after first steps
unfolding waiting_after
waiting-preset [] first a v none = refl
waiting-preset (step ∷ steps) first a v none = absurd cc

-- a new unit
pub IsStoreBufferUnit-new : (capacity : ℕ) → IsStoreBufferUnit [] (replicate 256 0) (new_buffers capacity)
IsStoreBufferUnit-new capacity = record { run = tt; state = record { memory = refl; buffers = refl } }

pub unit-new : (capacity : ℕ) → store_buffer_unit (new_store_buffer capacity) ≡ new_unit (store_buffer_design capacity) true Tso
unfolding waiting_after
unit-new capacity = refl

-- what its law says
pub IsUnit-store_buffer : (u : StoreBufferValue) (parts : BuffersValue) → length u.first ≡ 256 → IsStoreBufferUnit u.steps u.first parts → IsUnit (store_buffer_unit u)
IsUnit-store_buffer u parts addresses kept = record {
  addresses = addresses;
  run = λ lawful. kept.run;
  waiting = λ lawful p. waiting-machine u.first u.steps p;
}

-- drains of the step's processor, and then the step
pub Takes-after_drains : (u : StoreBufferValue) (count : ℕ) (step : Step) → Takes (store_buffer_unit u) (store_buffer_unit (after_drains_and u (proc_of step) count step)) step
Takes-after_drains u count step =
    Takes-drains_and (store_buffer_unit u) (store_buffer_unit (after_drains_and u (proc_of step) count step)) count step refl (record { design = refl; lawful = refl; order = refl; first = refl })

-- one drain
pub DrainsOne-store_buffer : (old new : StoreBufferValue) (parts : BuffersValue) (p : ℕ) → p < length parts.buffers → 0 < length (entries_of parts p) →
    new ≡ record old { steps = old.steps ++ Drain p ∷ [] } → IsStoreBufferUnit old.steps old.first parts → IsStoreBufferUnit new.steps new.first (oldest_drained parts p) →
    DrainsOne (store_buffer_unit old) (store_buffer_unit new) p
DrainsOne-store_buffer old new parts p within waits is kept after_it = record {
  step = Drain p;
  steps = ap (λ u. u.steps) is;
  drain = (refl, omega arith, omega arith, tt);
  one = omega (arith, waiting-parts old.steps old.first parts p kept, waiting-parts new.steps new.first (oldest_drained parts p) p after_it, (drained-buffers parts p within).0);
  kept = record { design = ap (λ u. store_buffer_design u.capacity) is; lawful = refl; order = refl; first = ap (λ u. u.first) is };
}

pub same_value : (u : StoreBufferValue) (p count capacity : ℕ) (step : Step) (steps : List Step) (first : List ℕ) → steps ≡ u.steps ++ (replicate count (Drain p) ++ step ∷ []) →
    first ≡ u.first → capacity ≡ u.capacity → record { steps = steps; first = first; capacity = capacity } ≡ after_drains_and u p count step
same_value u p count capacity step steps first is same kept = λ i. record { steps = is i; first = same i; capacity = kept i }

-- an entry is there to be drained where the buffer is full
pub drains-enough : (count capacity : ℕ) → 1 ≤ capacity → cond (count == capacity) 1 0 ≤ count
drains-enough count capacity least = grind (arith, nat_tests)

pub from_bool-cond : (b : Bool) → from_bool b ≡ cond b 1 0
from_bool-cond true = refl
from_bool-cond false = refl
