-- What a unit that keeps PSO keeps between calls.
use Rattle.std.specs.Prelude.{◌≡◌, ℕ, ◌<◌, ◌≤◌, List, [], ◌++◌, Some, length, map, replicate, slice_get}
use Rattle.std.specs.Global.{Vec}
use Rattle.std.specs.List.{All}
use Rattle.std.specs.Vec.{vec_capacity}
use Rattle.tso_ops.specs.declared.settings.Order.TheVariants.{Pso}
use Rattle.unit_core.specs.declared.steps.Step.{Step}
use Rattle.unit_core.specs.Histories.{HistoryValue}
use Rattle.unit_core.specs.Machine.{Entry, State, IsRun, after, first_state, oldest_of}
use Rattle.unit_kinds.specs.declared.partial_buffers.WaitingStore.{WaitingStore}
use Rattle.unit_kinds.specs.Partial.{AreNextDrains, IsNextAddress}

-- the state of the machine, and how many entries may wait for one processor
pub record PartialBuffersValue : Type 0 where
  pub state : State
  pub capacity : ℕ

-- the machine's entry
abbrev pub entry_of : WaitingStore → Entry
entry_of e = record { a = e.a; v = e.v; stbars = e.stbars }

-- the entries of a buffer
abbrev pub entries_in : Vec WaitingStore → List Entry
entries_in buffer = map entry_of buffer.items

-- the machine's state that has these words, buffers and numbers of STBARs
abbrev pub state_in : List ℕ → List (Vec WaitingStore) → List ℕ → State
state_in memory buffers stbars = record { memory = memory; buffers = map entries_in buffers; stbars = stbars }

-- There is room for so many entries without an allocation, no more wait, and their addresses are in range.
pub record IsReserved (capacity : ℕ) (buffer : Vec WaitingStore) : Type 0 where
  pub entries : length buffer.items ≤ capacity
  pub room : capacity ≤ vec_capacity buffer
  pub addresses : All (λ e. e.a < 256) buffer.items

-- There are 256 words, and a buffer and a number of STBARs for each of 16 processors.
pub record ArePartialBuffers (memory : List ℕ) (buffers : List (Vec WaitingStore)) (stbars : List ℕ) (capacity : ℕ) : Type 0 where
  pub words : length memory ≡ 256
  pub processors : length buffers ≡ 16
  pub counts : length stbars ≡ 16
  pub least : 1 ≤ capacity
  pub most : capacity ≤ 64
  pub reserved : All (IsReserved capacity) buffers

-- so many buffers, all empty, with room for so many entries each
pub record AreEmptyBuffers (capacity count : ℕ) (buffers : List (Vec WaitingStore)) : Type 0 where
  pub empty : map entries_in buffers ≡ replicate count []
  pub reserved : All (IsReserved capacity) buffers

-- the entry comes after no more STBARs than the other, and where after as many, it has no smaller address
pub record LeavesFirst (entry other : WaitingStore) : Type 0 where
  pub fewest : entry.stbars ≤ other.stbars
  pub greatest : other.stbars ≡ entry.stbars → other.a ≤ entry.a

-- The entry at this place is the next to leave the buffer.
pub record IsNextPlace (buffer : List Entry) (place : ℕ) : Type 0 where
  pub entry : Entry
  pub waits : slice_get buffer place ≡ Some entry
  pub next_address : IsNextAddress buffer entry.a
  pub oldest : oldest_of buffer entry.a ≡ place

-- The steps are a run of the PSO machine, which ends in this state.
pub record IsPartialUnit (steps : List Step) (first : List ℕ) (s : State) : Type 0 where
  pub run : IsRun Pso first steps
  pub state : after (first_state first) steps ≡ s

-- Drains of processor p were taken, so many, and are in the history.
pub record TakesNextDrains (p count : ℕ) (old new : PartialBuffersValue) (before later : HistoryValue) : Type 0 where
  pub drains : List Step
  pub as_many : length drains ≡ count
  pub are : AreNextDrains p old.state drains
  pub taken : new ≡ record old { state = after old.state drains }
  pub steps : later.steps ≡ before.steps ++ drains
  pub first : later.first ≡ before.first
