-- Which states of the two machines are one.
use Rattle.std.specs.Prelude.{◌≡◌, ◌⊎◌, ℕ, ◌<◌, List, [], ◌∷◌, Some, option_map, slice_index}
use Rattle.unit_core.specs.Machine.{Entry, State, buffer_of, stbars_of}
use Rattle.run_steps.specs.declared.processors.WaitingStore.{WaitingStore}
use Rattle.run_steps.specs.declared.refusals.CellContent.{CellContent}
use Rattle.run_steps.specs.Machine.{MachineState, processor_in, waits_of}
use Rattle.run_steps.specs.Reads.{seen_in}
use Rattle.unit_runs.specs.Lines.{IsLocationAt}

-- Of one processor's STBARs: where the last of the first n is at line t, the last of the first m is at line u. They are the same, or the first come earlier.
abbrev pub AreNoLater : ℕ → ℕ → ℕ → ℕ → Type 0
AreNoLater n t m u = ((n ≡ m) × (t ≡ u)) ⊎ ((n < m) × (t < u))

-- the store and the entry have one address, of the unit's, and one value
pub record IsSameStore (e : Entry) (w : WaitingStore) : Type 0 where
  pub within : e.a < 256
  pub location : IsLocationAt e.a w.place
  pub value : w.value ≡ e.v

-- The stores that wait are the buffer's entries, in order, behind n STBARs of which the last is at line t. After them the processor has made m STBARs, of
-- which the last is at line u. The buffer counts the STBARs before an entry, and the run has the line of the last.
abbrev pub AreSameStores : ℕ → ℕ → List Entry → List WaitingStore → ℕ → ℕ → Type 0
AreSameStores n t [] [] m u = AreNoLater n t m u
AreSameStores n t [] (w ∷ waits) m u = ⊥
AreSameStores n t (e ∷ buffer) [] m u = ⊥
AreSameStores n t (e ∷ buffer) (w ∷ waits) m u = AreNoLater n t e.stbars w.stbar × IsSameStore e w × AreSameStores e.stbars w.stbar buffer waits m u

-- what memory holds at the address is known, and is this
abbrev pub HoldsValue : MachineState → ℕ → ℕ → Type 0
HoldsValue r a v = option_map (λ (x : CellContent). x.value) (seen_in (r.memory a)) ≡ Some v

-- Memory has the same values, and of each of 16 processors the same stores wait, in the same order.
pub record IsSameState (s : State) (r : MachineState) : Type 0 where
  pub memory : (a : ℕ) → a < 256 → HoldsValue r a (slice_index s.memory a)
  pub stores : (p : ℕ) → p < 16 → AreSameStores 0 0 (buffer_of s p) (waits_of r p) (stbars_of s p) (processor_in r p).stbar
