-- The store-buffer machine of both memory models, its runs, and their traces and counts.
use Rattle.std.specs.Prelude.{◌≡◌, ℕ, zero, suc, ◌<◌, ◌≤◌, List, [], ◌∷◌, ◌++◌, Option, None, Some, Bool, true, false, cond, ◌==◌, length, get_or, set, slice_index, slice_get, replicate}
use Rattle.std.specs.List.{remove, filter_map, AllByRecursion}
use Rattle.tso_ops.specs.declared.settings.Order.{Order}
use Rattle.tso_ops.specs.declared.settings.Order.TheVariants.{Pso}
use Rattle.tso_ops.specs.declared.ops.Outcome.{Outcome}
use Rattle.tso_ops.specs.declared.ops.Outcome.TheVariants.{Ld, St, Sw, Mb, Sb}
use Rattle.tso_ops.specs.Settings.{SettingValue, first_value}
use Rattle.tso_ops.specs.Values.{TraceValue, trace_of_lists}
use Rattle.unit_core.specs.declared.steps.Step.{Step}
use Rattle.unit_core.specs.declared.steps.Step.TheVariants.{Store, Drain, DrainAt, Load, Swap, Membar, Stbar}

-- a store that waits in a buffer, with the number of STBARs before it on its processor
pub record Entry : Type 0 where
  pub a : ℕ
  pub v : ℕ
  pub stbars : ℕ

-- 256 words; 16 buffers, the oldest entry of each first; and how many STBARs each of 16 processors has made
pub record State : Type 0 where
  pub memory : List ℕ
  pub buffers : List (List Entry)
  pub stbars : List ℕ

-- the words are the first values
pub record IsFirstMemory (first : List (ℕ × ℕ)) (memory : List ℕ) : Type 0 where
  pub words : length memory ≡ 256
  pub values : (a : ℕ) → a < 256 → slice_index memory a ≡ first_value first a

-- the state before the first step
abbrev pub first_state : List ℕ → State
first_state memory = record { memory = memory; buffers = replicate 16 []; stbars = replicate 16 0 }

abbrev pub buffer_of : State → ℕ → List Entry
buffer_of s p = get_or s.buffers p []

abbrev pub stbars_of : State → ℕ → ℕ
stbars_of s p = get_or s.stbars p 0

-- the value of the newest entry of the address, or else the given one
abbrev pub newest : List Entry → ℕ → ℕ → ℕ
newest [] a else_value = else_value
newest (e ∷ rest) a else_value = newest rest a (cond (e.a == a) e.v else_value)

-- what processor p reads at the address
abbrev pub seen_by : State → ℕ → ℕ → ℕ
seen_by s p a = newest (buffer_of s p) a (slice_index s.memory a)

-- the place of the oldest entry of the address, from 0; the number of entries where there is none
abbrev pub oldest_of : List Entry → ℕ → ℕ
oldest_of [] a = 0
oldest_of (e ∷ rest) a = cond (e.a == a) 0 (suc (oldest_of rest a))

-- there is an entry at this place
abbrev pub Waits : List Entry → ℕ → Type 0
Waits buffer k = (e : Entry) × (slice_get buffer k ≡ Some e)

-- there is one, and none has a smaller number of STBARs
abbrev pub WaitsFirst : List Entry → ℕ → Type 0
WaitsFirst buffer k = (e : Entry) × (slice_get buffer k ≡ Some e) × ((j : ℕ) (f : Entry) → slice_get buffer j ≡ Some f → e.stbars ≤ f.stbars)

-- The machine of this memory model may take the step in this state.
abbrev pub IsAllowed : Order → State → Step → Type 0
IsAllowed order s (Store p a v) = (p < 16) × (a < 256)
IsAllowed order s (Drain p) = (p < 16) × Waits (buffer_of s p) 0
-- a drain that names an address, of PSO alone: no entry that comes after fewer STBARs waits
IsAllowed order s (DrainAt p a) = (p < 16) × (order ≡ Pso) × WaitsFirst (buffer_of s p) (oldest_of (buffer_of s p) a)
IsAllowed order s (Load p a r) = (p < 16) × (a < 256) × (r ≡ seen_by s p a)
IsAllowed order s (Swap p a r v) = (p < 16) × (a < 256) × (buffer_of s p ≡ []) × (r ≡ slice_index s.memory a)
IsAllowed order s (Membar p) = (p < 16) × (buffer_of s p ≡ [])
IsAllowed order s (Stbar p) = p < 16

-- the entry goes to memory, and these are left in the buffer of p
abbrev pub written : State → ℕ → Option Entry → List Entry → State
written s p None rest = s
written s p (Some e) rest = record s { memory = set s.memory e.a e.v; buffers = set s.buffers p rest }

-- the entry at the place goes to memory and leaves the buffer of p
abbrev pub drained : State → ℕ → ℕ → State
drained s p k = written s p (slice_get (buffer_of s p) k) (remove (buffer_of s p) k)

-- the state after the step
abbrev pub next : State → Step → State
next s (Store p a v) = record s { buffers = set s.buffers p (buffer_of s p ++ record { a = a; v = v; stbars = stbars_of s p } ∷ []) }
next s (Drain p) = drained s p 0
next s (DrainAt p a) = drained s p (oldest_of (buffer_of s p) a)
next s (Load p a r) = s
next s (Swap p a r v) = record s { memory = set s.memory a v }
next s (Membar p) = s
next s (Stbar p) = record s { stbars = set s.stbars p (suc (stbars_of s p)) }

-- the state after the steps
abbrev pub after : State → List Step → State
after s [] = s
after s (step ∷ steps) = after (next s step) steps

-- the steps may be taken one after the other
abbrev pub IsRunFrom : Order → State → List Step → Type 0
IsRunFrom order s [] = Unit {0}
IsRunFrom order s (step ∷ steps) = IsAllowed order s step × IsRunFrom order (next s step) steps

-- The steps are a run of the machine of this memory model from this memory.
abbrev pub IsRun : Order → List ℕ → List Step → Type 0
IsRun order memory steps = IsRunFrom order (first_state memory) steps

-- All buffers are empty after the steps from this memory.
abbrev pub EndsEmpty : List ℕ → List Step → Type 0
EndsEmpty memory steps = (p : ℕ) → buffer_of (after (first_state memory) steps) p ≡ []

-- the processor whose step it is
abbrev pub proc_of : Step → ℕ
proc_of (Store p a v) = p
proc_of (Drain p) = p
proc_of (DrainAt p a) = p
proc_of (Load p a r) = p
proc_of (Swap p a r v) = p
proc_of (Membar p) = p
proc_of (Stbar p) = p

-- each step is one of so many processors'
abbrev pub HasProcessors : ℕ → List Step → Type 0
HasProcessors processors steps = AllByRecursion (λ step. proc_of step < processors) steps

-- what the processor was answered; a drain answers nothing
abbrev pub outcome_of : Step → Option Outcome
outcome_of (Store p a v) = Some (St a v)
outcome_of (Drain p) = None
outcome_of (DrainAt p a) = None
outcome_of (Load p a r) = Some (Ld a r)
outcome_of (Swap p a r v) = Some (Sw a r v)
outcome_of (Membar p) = Some Mb
outcome_of (Stbar p) = Some Sb

-- what the step answered processor p
abbrev pub outcome_for : ℕ → Step → Option Outcome
outcome_for p step = cond (proc_of step == p) (outcome_of step) None

-- what processor p was answered
abbrev pub outcomes_of : ℕ → List Step → List Outcome
outcomes_of p steps = filter_map (outcome_for p) steps

-- the outcomes of so many processors, of which p is the first
abbrev pub lists_from : ℕ → ℕ → List Step → List (List Outcome)
lists_from p zero steps = []
lists_from p (suc count) steps = outcomes_of p steps ∷ lists_from (suc p) count steps

-- The trace of a run of so many processors: its steps without drains, by processor.
abbrev pub trace_of : SettingValue → ℕ → List Step → TraceValue
trace_of setting processors steps = trace_of_lists setting (lists_from 0 processors steps)

-- The steps are a complete run of so many processors: of the setting's memory model, from a memory that has its first values, with all buffers empty
-- after it.
pub record IsCompleteRun (setting : SettingValue) (count : ℕ) (steps : List Step) : Type 0 where
  pub memory : List ℕ
  pub first : IsFirstMemory setting.first memory
  pub run : IsRun setting.order memory steps
  pub empty : EndsEmpty memory steps
  pub processors : HasProcessors count steps

abbrev pub is_load : Step → Bool
is_load (Load p a r) = true
is_load _ = false

abbrev pub is_store : Step → Bool
is_store (Store p a v) = true
is_store _ = false

abbrev pub is_swap : Step → Bool
is_swap (Swap p a r v) = true
is_swap _ = false

abbrev pub is_membar : Step → Bool
is_membar (Membar p) = true
is_membar _ = false

-- a drain of either kind
abbrev pub is_drain : Step → Bool
is_drain (Drain p) = true
is_drain (DrainAt p a) = true
is_drain _ = false
