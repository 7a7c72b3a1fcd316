-- What each call of a faulty unit answers, which steps it appends, and what it leaves.
use Rattle.std.specs.Prelude.{ℕ, zero, suc, ◌-◌, List, [], ◌∷◌, ◌++◌, Option, None, Some, Bool, true, false, cond, ◌&&◌, ◌==◌, nat_le, length, map, set, drop, take, replicate, slice_get, slice_index}
use Rattle.circular_buffer.specs.Buffer.{last_item}
use Rattle.tso_ops.specs.declared.settings.Order.TheVariants.{Tso}
use Rattle.store_buffers.specs.declared.entries.StoreEntry.{StoreEntry}
use Rattle.store_buffers.specs.Buffers.{BuffersValue, entries_of, new_buffers, newest_value, with_entries, with_word}
use Rattle.unit_core.specs.declared.steps.Step.{Step}
use Rattle.unit_core.specs.declared.steps.Step.TheVariants.{Drain}
use Rattle.unit_core.specs.Units.{Design, UnitValue}
use Rattle.request_options.specs.declared.faults.FaultKind.{FaultKind}
use Rattle.request_options.specs.declared.faults.FaultKind.TheVariants.{NewestFirst, NoForward, StaleLoad, TornSwap, IdleMembar, LostDrain}
use Rattle.request_options.specs.FaultNames.{fault_name}
use Rattle.unit_faulty.specs.declared.occasions.Occasion.{Occasion}
use Rattle.unit_faulty.specs.declared.occasions.Occasion.TheVariants.{DrainMade, LoadForwarded, LoadFromMemory, SwapMade, MembarMade}

-- The unit's kind and trigger; how many occasions of the kind there were; memory and the store buffers; and what memory had at each address before its
-- latest write, which is the first value until the second write.
pub record FaultyState : Type 0 where
  pub kind : FaultKind
  pub trigger : ℕ
  pub occasions : ℕ
  pub parts : BuffersValue
  pub former : List ℕ

-- at first: zeros, empty buffers, no occasion
abbrev pub new_faulty_state : FaultKind → ℕ → ℕ → FaultyState
new_faulty_state kind trigger capacity = record { kind = kind; trigger = trigger; occasions = 0; parts = new_buffers capacity; former = replicate 256 0 }

-- a first value is set
abbrev pub after_preset : FaultyState → ℕ → ℕ → FaultyState
after_preset s a v = record s { parts = with_word s.parts a v; former = set s.former a v }

-- ## Occasions

-- what the occasions of each kind are
abbrev pub has_occasion : FaultKind → Occasion → Bool
has_occasion NewestFirst DrainMade = true
has_occasion NoForward LoadForwarded = true
has_occasion StaleLoad LoadFromMemory = true
has_occasion TornSwap SwapMade = true
has_occasion IdleMembar MembarMade = true
has_occasion LostDrain DrainMade = true
has_occasion _ _ = false

-- whether the deviation acts at this, if it happens next: it is an occasion of the kind, and counted from 1 that of the trigger or a later one
abbrev pub deviates : FaultyState → Occasion → Bool
deviates s occasion = has_occasion s.kind occasion && nat_le s.trigger (suc s.occasions)

-- this happened, and is counted if it is an occasion of the kind
abbrev pub counted : FaultyState → Occasion → FaultyState
counted s occasion = record s { occasions = cond (has_occasion s.kind occasion) (suc s.occasions) s.occasions }

-- ## Memory and buffers

abbrev pub word_of : FaultyState → ℕ → ℕ
word_of s a = slice_index s.parts.memory a

-- memory is written at the address
abbrev pub with_write : FaultyState → ℕ → ℕ → FaultyState
with_write s a v = record s { parts = with_word s.parts a v; former = set s.former a (word_of s a) }

-- an entry, if there is one, is written to memory
abbrev pub with_entry_written : FaultyState → Option StoreEntry → FaultyState
with_entry_written s None = s
with_entry_written s (Some e) = with_write s e.a e.v

-- these entries are in the buffer of processor p
abbrev pub with_buffer : FaultyState → ℕ → List StoreEntry → FaultyState
with_buffer s p entries = record s { parts = with_entries s.parts p entries }

-- an entry enters the buffer of processor p
abbrev pub with_entered : FaultyState → ℕ → ℕ → ℕ → FaultyState
with_entered s p a v = with_buffer s p (entries_of s.parts p ++ record { a = a; v = v } ∷ [])

-- ## Drains

-- One entry of processor p leaves. Where the deviation acts, the newest goes to memory (NewestFirst), or the oldest leaves and memory stays (LostDrain).
abbrev pub drained_by : FaultKind → Bool → FaultyState → ℕ → FaultyState
drained_by NewestFirst true s p = with_entry_written (with_buffer s p (take (length (entries_of s.parts p) - 1) (entries_of s.parts p))) (last_item (entries_of s.parts p))
drained_by LostDrain true s p = with_buffer s p (drop 1 (entries_of s.parts p))
drained_by _ _ s p = with_entry_written (with_buffer s p (drop 1 (entries_of s.parts p))) (slice_get (entries_of s.parts p) 0)

-- one drain of processor p, which has an entry
abbrev pub drain_once : FaultyState → ℕ → FaultyState
drain_once s p = drained_by s.kind (deviates s DrainMade) (counted s DrainMade) p

-- so many, one after the other
abbrev pub drain_times : ℕ → FaultyState → ℕ → FaultyState
drain_times zero s p = s
drain_times (suc count) s p = drain_once (drain_times count s p) p

-- ## Loads

-- which occasion a load is, by the newest value of its address in the own buffer, if there is one
abbrev pub load_occasion : Option ℕ → Occasion
load_occasion (Some own) = LoadForwarded
load_occasion None = LoadFromMemory

-- The answer: the newest own value, and else memory's word. Where the deviation acts, memory's word (NoForward), and the former word (StaleLoad).
abbrev pub loaded : Option ℕ → Bool → FaultyState → ℕ → ℕ
loaded (Some own) false s a = own
loaded (Some own) true s a = word_of s a
loaded None false s a = word_of s a
loaded None true s a = slice_index s.former a

abbrev pub load_answer : FaultyState → ℕ → ℕ → ℕ
load_answer s p a = loaded (newest_value (entries_of s.parts p) a) (deviates s (load_occasion (newest_value (entries_of s.parts p) a))) s a

abbrev pub after_load : FaultyState → ℕ → ℕ → FaultyState
after_load s p a = counted s (load_occasion (newest_value (entries_of s.parts p) a))

-- ## Stores

-- one drain first, where the buffer is full
abbrev pub store_drains : FaultyState → ℕ → ℕ
store_drains s p = cond (length (entries_of s.parts p) == s.parts.capacity) 1 0

abbrev pub after_store : FaultyState → ℕ → ℕ → ℕ → FaultyState
after_store s p a v = with_entered (drain_times (store_drains s p) s p) p a v

-- ## Swaps

-- all own drains first
abbrev pub swap_drains : FaultyState → ℕ → ℕ
swap_drains s p = length (entries_of s.parts p)

-- then memory is read
abbrev pub swap_answer : FaultyState → ℕ → ℕ → ℕ
swap_answer s p a = word_of (drain_times (swap_drains s p) s p) a

-- and the new value is written. Where the deviation acts, it enters the own buffer (TornSwap).
abbrev pub swapped : FaultyState → ℕ → ℕ → ℕ → FaultyState
swapped s p a v = cond (deviates s SwapMade) (with_entered (counted s SwapMade) p a v) (with_write (counted s SwapMade) a v)

abbrev pub after_swap : FaultyState → ℕ → ℕ → ℕ → FaultyState
after_swap s p a v = swapped (drain_times (swap_drains s p) s p) p a v

-- ## Membars

-- all own drains first. Where the deviation acts, none (IdleMembar).
abbrev pub membar_drains : FaultyState → ℕ → ℕ
membar_drains s p = cond (deviates s MembarMade) 0 (length (entries_of s.parts p))

abbrev pub after_membar : FaultyState → ℕ → FaultyState
after_membar s p = drain_times (membar_drains s p) (counted s MembarMade) p

-- ## The unit

-- the steps that it has taken, the first value of each address, and its state
pub record FaultyValue : Type 0 where
  pub steps : List Step
  pub first : List ℕ
  pub state : FaultyState

-- one that has taken no step, with all first values 0
abbrev pub new_faulty : FaultKind → ℕ → ℕ → FaultyValue
new_faulty kind trigger capacity = record { steps = []; first = replicate 256 0; state = new_faulty_state kind trigger capacity }

-- the design of a faulty unit: its kind, with its trigger and its capacity
abbrev pub faulty_design : FaultyState → Design
faulty_design s = record { kind = fault_name s.kind; numbers = s.trigger ∷ s.parts.capacity ∷ [] }

-- It isn't lawful, and the entries in its buffers wait.
abbrev pub faulty_unit : FaultyValue → UnitValue
faulty_unit u = record { design = faulty_design u.state; steps = u.steps; lawful = false; order = Tso; first = u.first; waiting = map length u.state.parts.buffers }

-- after a call that makes so many drains of processor p, takes this step and leaves this state
abbrev pub with_step : FaultyValue → ℕ → ℕ → Step → FaultyState → FaultyValue
with_step u p count step state = record u { steps = u.steps ++ (replicate count (Drain p) ++ step ∷ []); state = state }
