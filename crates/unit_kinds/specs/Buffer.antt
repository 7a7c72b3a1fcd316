-- What contracts see of a store-buffer unit.
use Rattle.std.specs.Prelude.{ℕ, List, [], ◌∷◌, ◌++◌, true, codes, cond, ◌==◌, length, map, replicate}
use Rattle.tso_ops.specs.declared.settings.Order.TheVariants.{Tso}
use Rattle.unit_core.specs.declared.steps.Step.{Step}
use Rattle.unit_core.specs.declared.steps.Step.TheVariants.{Drain}
use Rattle.unit_core.specs.Machine.{after, first_state}
use Rattle.unit_core.specs.Units.{Design, UnitValue, waiting_of}

-- the steps that it has taken, the first value of each address, and how many entries may wait for one processor
pub record StoreBufferValue : Type 0 where
  pub steps : List Step
  pub first : List ℕ
  pub capacity : ℕ

-- one that has taken no step, with all first values 0
abbrev pub new_store_buffer : ℕ → StoreBufferValue
new_store_buffer capacity = record { steps = []; first = replicate 256 0; capacity = capacity }

-- how many entries the machine's buffers have after the steps from these first values
unfoldable pub waiting_after : List ℕ → List Step → List ℕ
waiting_after first steps = map length (after (first_state first) steps).buffers

-- the design of a store-buffer unit of this capacity
abbrev pub store_buffer_design : ℕ → Design
store_buffer_design capacity = record { kind = codes "buffer"; numbers = capacity ∷ [] }

-- It is a lawful unit of TSO, for which the entries in the machine's buffers wait.
abbrev pub store_buffer_unit : StoreBufferValue → UnitValue
store_buffer_unit u = record { design = store_buffer_design u.capacity; steps = u.steps; lawful = true; order = Tso; first = u.first; waiting = waiting_after u.first u.steps }

-- how many entries of processor p are drained before it stores: one where its buffer is full
abbrev pub drains_for_store : StoreBufferValue → ℕ → ℕ
drains_for_store u p = cond (waiting_of (store_buffer_unit u) p == u.capacity) 1 0

-- the unit after so many drains of processor p, and then this step
abbrev pub after_drains_and : StoreBufferValue → ℕ → ℕ → Step → StoreBufferValue
after_drains_and u p count step = record u { steps = u.steps ++ (replicate count (Drain p) ++ step ∷ []) }
