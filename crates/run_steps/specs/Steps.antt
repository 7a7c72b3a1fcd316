-- Which lines are steps of the machine in a state, and where they lead: what the machine is, apart from what goes on after a refusal.
use Rattle.std.specs.Prelude.{◌≡◌, ℕ, true, false, List, [], take, Option, None, Some, slice_get}
use Rattle.std.specs.List.{AllByRecursion}
use Rattle.tso_ops.specs.declared.settings.Order.{Order}
use Rattle.run_steps.specs.declared.places.Place.{Place}
use Rattle.run_steps.specs.declared.processors.Reservation.{Reservation}
use Rattle.run_steps.specs.declared.processors.WaitingStore.{WaitingStore}
use Rattle.run_steps.specs.declared.refusals.CellContent.{CellContent}
use Rattle.run_steps.specs.declared.steps.RunStep.{RunStep}
use Rattle.run_steps.specs.declared.steps.RunStep.TheVariants.{Load, Store, Drain, Write, Swap, Reserve, StoreReserved, Membar, Stbar, Unknown, Last}
use Rattle.run_steps.specs.Machine.{ProcessorState, MachineState, drained_number, keeps_back, processor_in, view_of, waits_of}
use Rattle.run_steps.specs.Places.{lies_in, overlaps}
use Rattle.run_steps.specs.Reads.{read_in, sees}

-- the value is what is seen at the place, where that is known
abbrev pub IsRead : Place → (ℕ → Option CellContent) → ℕ → Type 0
IsRead place look v = (has : ℕ) → read_in place look ≡ Some has → has ≡ v

-- the store has the value that is said, if one is
abbrev pub HasSaid : WaitingStore → Option ℕ → Type 0
HasSaid w None = Unit {0}
HasSaid w (Some v) = w.value ≡ v

-- a store that waits may reach memory: none of the older ones keeps it back
pub record MayDrain (model : Order) (at : Option Place) (waits : List WaitingStore) (said : Option ℕ) : Type 0 where
  pub number : ℕ
  pub store : WaitingStore
  pub is : drained_number at waits ≡ Some number
  pub waits_there : slice_get waits number ≡ Some store
  pub passes : AllByRecursion (λ older. keeps_back model store older ≡ false) (take number waits)
  pub has : HasSaid store said

-- the processor has reserved the place, and no store has taken it
pub record HasReserved (place : Place) (reserved : Option Reservation) : Type 0 where
  pub reservation : Reservation
  pub is : reserved ≡ Some reservation
  pub covers_place : lies_in place reservation.place ≡ true
  pub untaken : reservation.taken ≡ None

-- no store that waits shares a cell with the place
abbrev pub NoneWaitsAt : Place → List ProcessorState → Type 0
NoneWaitsAt place processors = AllByRecursion (λ x. AllByRecursion (λ w. overlaps w.place place ≡ false) x.waits) processors

-- The machine of this memory model may take the step of processor p in this state. A swap, a store that reaches memory at once and a MEMBAR complete while
-- no store of their processor waits (SPARC V8 manual, chapter 6 and appendix K; SPARC V9 manual, appendix D).
abbrev pub MayStep : Order → ℕ → RunStep → MachineState → Type 0
MayStep model p (Load place v) s = IsRead place (view_of s p) v
MayStep model p (Store place v) s = Unit {0}
MayStep model p (Drain at v) s = MayDrain model at (waits_of s p) v
MayStep model p (Write place v) s = waits_of s p ≡ []
MayStep model p (Swap place r v) s = (waits_of s p ≡ []) × IsRead place (sees s.memory []) r
MayStep model p (Reserve place v) s = IsRead place (view_of s p) v
MayStep model p (StoreReserved place v) s = (waits_of s p ≡ []) × HasReserved place (processor_in s p).reserved
MayStep model p Membar s = waits_of s p ≡ []
MayStep model p Stbar s = Unit {0}
MayStep model p (Unknown place) s = Unit {0}
MayStep model p (Last place v) s = NoneWaitsAt place s.processors × IsRead place (sees s.memory []) v
