-- The store-buffer machine over bytes and locations: its states, what a line does, and why it is refused.
use Rattle.std.specs.Prelude.{ℕ, suc, ◌-◌, ◌==◌, ◌||◌, not, Bool, true, false, cond, List, [], ◌∷◌, ◌++◌, map, length, set, take, replicate, Option, None, Some, get_or, option_map, slice_get, unwrap_or, if◌then◌else◌}
use Rattle.std.specs.List.{find, position, remove}
use Rattle.std.specs.Option.{option_map_or}
use Rattle.run_steps.specs.declared.cells.Cell.TheVariants.{First}
use Rattle.tso_ops.specs.declared.settings.Order.{Order}
use Rattle.tso_ops.specs.declared.settings.Order.TheVariants.{Tso, Pso}
use Rattle.run_steps.specs.declared.places.Place.{Place}
use Rattle.run_steps.specs.declared.cells.Written.TheVariants as written
use Rattle.run_steps.specs.declared.machines.Machine.{Machine}
use Rattle.run_steps.specs.declared.processors.Processor.{Processor}
use Rattle.run_steps.specs.declared.processors.Reservation.{Reservation}
use Rattle.run_steps.specs.declared.processors.Taken.{Taken}
use Rattle.run_steps.specs.declared.processors.WaitingStore.{WaitingStore}
use Rattle.run_steps.specs.declared.refusals.Comparison.{Comparison}
use Rattle.run_steps.specs.declared.refusals.Comparison.TheVariants as comparison
use Rattle.run_steps.specs.declared.refusals.Origin.TheVariants as origin
use Rattle.run_steps.specs.declared.refusals.CellContent.{CellContent}
use Rattle.run_steps.specs.declared.steps.RunLine.{RunLine}
use Rattle.run_steps.specs.declared.steps.RunStep.{RunStep}
use Rattle.run_steps.specs.declared.steps.RunStep.TheVariants.{Load, Store, Drain, Write, Swap, Reserve, StoreReserved, Membar, Stbar, Unknown, Last}
use Rattle.run_steps.specs.Places.{is_place, lies_in, overlaps, cell_parts}
use Rattle.run_steps.specs.Reads.{Memory, memory_of_cells, filled, written_in, sees, compared, value_refusals, RefusalValue, value, waiting, order, nothing_waits, reservation, no_reservation}

-- ---- states

-- what the machine has of a processor: the stores that wait, the oldest first, the line of its last STBAR, and its reservation
pub record ProcessorState : Type 0 where
  pub waits : List WaitingStore
  pub stbar : ℕ
  pub reserved : Option Reservation

-- memory, and the processors 0, 1, ..
pub record MachineState : Type 0 where
  pub memory : Memory
  pub processors : List ProcessorState

abbrev pub processor_state : Processor → ProcessorState
processor_state p = record { waits = p.waiting.items; stbar = p.stbar; reserved = p.reservation }

-- the memory model of a machine
abbrev pub model_of : Machine → Order
model_of machine = machine.order

-- what a machine has
abbrev pub state_of_machine : Machine → MachineState
state_of_machine machine = record { memory = memory_of_cells machine.memory; processors = map processor_state machine.processors.items }

-- a processor that has done nothing
abbrev pub idle : ProcessorState
idle = record { waits = []; stbar = 0; reserved = None }

-- the state before the first line
abbrev pub beginning_state : MachineState
beginning_state = record { memory = λ address. First 0; processors = [] }

abbrev pub processor_in : MachineState → ℕ → ProcessorState
processor_in s p = get_or s.processors p idle

-- the stores that wait in the buffer of processor p
abbrev pub waits_of : MachineState → ℕ → List WaitingStore
waits_of s p = (processor_in s p).waits

-- what processor p sees in a cell
abbrev pub view_of : MachineState → ℕ → ℕ → Option CellContent
view_of s p = sees s.memory (waits_of s p)

-- the state, with a place for processor p
abbrev pub admitted : ℕ → MachineState → MachineState
admitted p s = record s { processors = s.processors ++ replicate (suc p - length s.processors) idle }

abbrev pub with_processor : MachineState → ℕ → ProcessorState → MachineState
with_processor s p x = record s { processors = set s.processors p x }

abbrev pub with_waits : MachineState → ℕ → List WaitingStore → MachineState
with_waits s p waits = with_processor s p (record (processor_in s p) { waits = waits })

abbrev pub with_reserved : MachineState → ℕ → Option Reservation → MachineState
with_reserved s p reserved = with_processor s p (record (processor_in s p) { reserved = reserved })

-- ---- stores that reach memory

-- A reservation is lost by the first store of another processor that reaches one of its bytes.
abbrev pub losing : Place → Taken → Reservation → Reservation
losing place by r = if overlaps r.place place then record r { taken = Some (unwrap_or r.taken by) } else r

abbrev pub without_reserved : Place → Taken → ProcessorState → ProcessorState
without_reserved place by x = record x { reserved = option_map (losing place by) x.reserved }

-- the processors from number q on, after a store of processor p reached memory
abbrev pub processors_after : ℕ → Place → Taken → ℕ → List ProcessorState → List ProcessorState
processors_after p place by q [] = []
processors_after p place by q (x ∷ xs) = cond (q == p) x (without_reserved place by x) ∷ processors_after p place by (suc q) xs

-- a store of processor p reaches memory at a line
abbrev pub reaching : ℕ → ℕ → WaitingStore → MachineState → MachineState
reaching line p w s = record {
  memory = filled s.memory w.place.address (map (written_in (written.Stored w.store line)) (cell_parts w.place w.value));
  processors = processors_after p w.place (record { store = w.store; reached = line }) 0 s.processors;
}

-- these reach memory, one after the other
abbrev pub reaching_all : ℕ → ℕ → List WaitingStore → MachineState → MachineState
reaching_all line p [] s = s
reaching_all line p (w ∷ waits) s = reaching_all line p waits (reaching line p w s)

-- all stores of processor p that wait reach memory
abbrev pub emptied : ℕ → ℕ → MachineState → MachineState
emptied line p s = reaching_all line p (waits_of s p) (with_waits s p [])

-- ---- which store drains

-- the number, from 0, of the oldest store that waits, or of the oldest at this place
abbrev pub drained_number : Option Place → List WaitingStore → Option ℕ
drained_number None [] = None
drained_number None (w ∷ waits) = Some 0
drained_number (Some place) waits = position (λ w. is_place place w.place) waits

-- that store of processor p reaches memory at a line
abbrev pub draining : ℕ → ℕ → ℕ → MachineState → MachineState
draining line p k s = option_map_or (λ w. reaching line p w (with_waits s p (remove (waits_of s p) k))) (slice_get (waits_of s p) k) s

-- the older store keeps the newer one from passing it: under TSO each does; under PSO one of a shared byte, and one before an STBAR that the newer comes after
abbrev pub keeps_back : Order → WaitingStore → WaitingStore → Bool
keeps_back Tso newer older = true
keeps_back Pso newer older = overlaps older.place newer.place || not (older.stbar == newer.stbar)

-- ---- what a line does

-- one more store waits
abbrev pub with_store : ℕ → Place → ℕ → ProcessorState → ProcessorState
with_store line place v x = record x { waits = x.waits ++ record { store = line; place = place; value = v; stbar = x.stbar } ∷ [] }

-- a store that reaches memory at its own line
abbrev pub storing : ℕ → ℕ → Place → ℕ → MachineState → MachineState
storing line p place v s = reaching line p (record { store = line; place = place; value = v; stbar = 0 }) s

-- a first value of the place
abbrev pub presetting : Place → ℕ → MachineState → MachineState
presetting place v s = record s { memory = filled s.memory place.address (map (written_in written.First) (cell_parts place v)) }

-- nothing is known of what memory has at the place
abbrev pub forgetting : Place → MachineState → MachineState
forgetting place s = record s { memory = filled s.memory place.address (map (written_in written.Unknown) (cell_parts place 0)) }

-- the state after a step that the machine may take
abbrev pub next_state : ℕ → ℕ → RunStep → MachineState → MachineState
next_state line p (Load place v) s = s
next_state line p (Store place v) s = with_processor s p (with_store line place v (processor_in s p))
next_state line p (Drain at v) s = option_map_or (λ k. draining line p k s) (drained_number at (waits_of s p)) s
next_state line p (Write place v) s = storing line p place v s
next_state line p (Swap place r v) s = storing line p place v s
next_state line p (Reserve place v) s = with_reserved s p (Some (record { place = place; taken = None }))
next_state line p (StoreReserved place v) s = with_reserved (storing line p place v s) p None
next_state line p Membar s = s
next_state line p Stbar s = with_processor s p (record (processor_in s p) { stbar = line })
next_state line p (Unknown place) s = forgetting place s
next_state line p (Last place v) s = s

-- A swap, a store that reaches memory at once and a MEMBAR complete while no store of their processor waits (SPARC V8 manual, chapter 6 and appendix K;
-- SPARC V9 manual, appendix D).
abbrev pub needs_empty : RunStep → Bool
needs_empty (Load place v) = false
needs_empty (Store place v) = false
needs_empty (Drain at v) = false
needs_empty (Write place v) = true
needs_empty (Swap place r v) = true
needs_empty (Reserve place v) = false
needs_empty (StoreReserved place v) = true
needs_empty Membar = true
needs_empty Stbar = false
needs_empty (Unknown place) = false
needs_empty (Last place v) = false

-- The state after a line of processor p, which has a place in it. What is refused goes on: stores that should have reached memory do.
abbrev pub after_step : ℕ → ℕ → RunStep → MachineState → MachineState
after_step line p step s = next_state line p step (if needs_empty step then emptied line p s else s)

-- the same of any processor
abbrev pub state_after_line : RunLine → MachineState → MachineState
state_after_line line s = after_step line.number line.processor line.step (admitted line.processor s)

-- ---- why a line is refused

-- the oldest of the stores waits
abbrev pub waiting_refusals : List WaitingStore → List RefusalValue
waiting_refusals [] = []
waiting_refusals (w ∷ waits) = waiting w.store ∷ []

-- the oldest store to the place that waits, of the least processor that has one
abbrev pub oldest_waiting : Place → List ProcessorState → Option WaitingStore
oldest_waiting place [] = None
oldest_waiting place (x ∷ xs) = option_map_or Some (find (λ w. overlaps w.place place) x.waits) (oldest_waiting place xs)

-- the store would pass one that it must not pass, the first of these
abbrev pub order_refusals : Order → WaitingStore → List WaitingStore → List RefusalValue
order_refusals model w older = option_map_or (λ x. order w.store x.store ∷ []) (find (keeps_back model w) older) []

-- the store has another value than is said
abbrev pub drained_refusals : WaitingStore → Option ℕ → List RefusalValue
drained_refusals w None = []
drained_refusals w (Some v) = if w.value == v then [] else value w.value (origin.Waiting w.store ∷ []) ∷ []

abbrev pub drain_refusals : Order → List WaitingStore → Option ℕ → Option ℕ → List RefusalValue
drain_refusals model waits None v = nothing_waits ∷ []
drain_refusals model waits (Some k) v = option_map_or (λ w. order_refusals model w (take k waits) ++ drained_refusals w v) (slice_get waits k) []

-- there is no reservation that has the place, or it is lost
abbrev pub reservation_refusals : Place → Option Reservation → List RefusalValue
reservation_refusals place None = no_reservation ∷ []
reservation_refusals place (Some r) =
    if lies_in place r.place then option_map_or (λ by. reservation by.store by.reached ∷ []) r.taken [] else no_reservation ∷ []

-- a store to the place still waits, or memory has another value there
abbrev pub last_refusals : Place → MachineState → ℕ → List RefusalValue
last_refusals place s v = option_map_or (λ w. waiting w.store ∷ []) (oldest_waiting place s.processors) [] ++ value_refusals place (sees s.memory []) v

-- Why a line of processor p, which has a place in the state, is no step of the machine: nothing where it is one.
abbrev pub step_refusals : Order → ℕ → ℕ → RunStep → MachineState → List RefusalValue
step_refusals model line p (Load place v) s = value_refusals place (view_of s p) v
step_refusals model line p (Store place v) s = []
step_refusals model line p (Drain at v) s = drain_refusals model (waits_of s p) (drained_number at (waits_of s p)) v
step_refusals model line p (Write place v) s = waiting_refusals (waits_of s p)
step_refusals model line p (Swap place r v) s = waiting_refusals (waits_of s p) ++ value_refusals place (view_of (emptied line p s) p) r
step_refusals model line p (Reserve place v) s = value_refusals place (view_of s p) v
step_refusals model line p (StoreReserved place v) s = waiting_refusals (waits_of s p) ++ reservation_refusals place (processor_in s p).reserved
step_refusals model line p Membar s = waiting_refusals (waits_of s p)
step_refusals model line p Stbar s = []
step_refusals model line p (Unknown place) s = []
step_refusals model line p (Last place v) s = last_refusals place s v

-- the same of any processor
abbrev pub line_refusals : Order → RunLine → MachineState → List RefusalValue
line_refusals model line s = step_refusals model line.number line.processor line.step (admitted line.processor s)

-- ---- whether a line compares a value

abbrev pub compared_drain : Option ℕ → Option ℕ → Comparison
compared_drain None v = comparison.Nothing
compared_drain (Some k) None = comparison.Nothing
compared_drain (Some k) (Some v) = comparison.Compared

abbrev pub step_comparison : ℕ → ℕ → RunStep → MachineState → Comparison
step_comparison line p (Load place v) s = compared place (view_of s p)
step_comparison line p (Store place v) s = comparison.Nothing
step_comparison line p (Drain at v) s = compared_drain (drained_number at (waits_of s p)) v
step_comparison line p (Write place v) s = comparison.Nothing
step_comparison line p (Swap place r v) s = compared place (view_of (emptied line p s) p)
step_comparison line p (Reserve place v) s = compared place (view_of s p)
step_comparison line p (StoreReserved place v) s = comparison.Nothing
step_comparison line p Membar s = comparison.Nothing
step_comparison line p Stbar s = comparison.Nothing
step_comparison line p (Unknown place) s = comparison.Nothing
step_comparison line p (Last place v) s = compared place (sees s.memory [])

-- the same of any processor
abbrev pub line_comparison : RunLine → MachineState → Comparison
line_comparison line s = step_comparison line.number line.processor line.step (admitted line.processor s)
