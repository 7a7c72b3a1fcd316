-- The store-buffer machine with any number of buffers and of words: a unit has 16 buffers and 256 words.
use Rattle.std.specs.Prelude.{◌≡◌, ℕ, ◌<◌, List, [], ◌∷◌, length, slice_index, replicate}
use Rattle.tso_ops.specs.declared.settings.Order.{Order}
use Rattle.tso_ops.specs.declared.settings.Order.TheVariants.{Pso}
use Rattle.tso_ops.specs.Settings.{SettingValue, first_value}
use Rattle.unit_core.specs.declared.steps.Step.{Step}
use Rattle.unit_core.specs.declared.steps.Step.TheVariants.{Store, Drain, DrainAt, Load, Swap, Membar, Stbar}
use Rattle.unit_core.specs.Machine.{State, HasProcessors, Waits, WaitsFirst, after, buffer_of, next, oldest_of, seen_by}

-- how many buffers and words there are
pub record Sizes : Type 0 where
  pub buffers : ℕ
  pub words : ℕ

-- those of a unit
abbrev pub unit_sizes : Sizes
unit_sizes = record { buffers = 16; words = 256 }

-- A machine of these sizes may take the step in this state.
abbrev pub IsAllowedIn : Sizes → Order → State → Step → Type 0
IsAllowedIn sizes order s (Store p a v) = (p < sizes.buffers) × (a < sizes.words)
IsAllowedIn sizes order s (Drain p) = (p < sizes.buffers) × Waits (buffer_of s p) 0
IsAllowedIn sizes order s (DrainAt p a) = (p < sizes.buffers) × (order ≡ Pso) × WaitsFirst (buffer_of s p) (oldest_of (buffer_of s p) a)
IsAllowedIn sizes order s (Load p a r) = (p < sizes.buffers) × (a < sizes.words) × (r ≡ seen_by s p a)
IsAllowedIn sizes order s (Swap p a r v) = (p < sizes.buffers) × (a < sizes.words) × (buffer_of s p ≡ []) × (r ≡ slice_index s.memory a)
IsAllowedIn sizes order s (Membar p) = (p < sizes.buffers) × (buffer_of s p ≡ [])
IsAllowedIn sizes order s (Stbar p) = p < sizes.buffers

-- the steps may be taken one after the other
abbrev pub IsRunIn : Sizes → Order → State → List Step → Type 0
IsRunIn sizes order s [] = Unit {0}
IsRunIn sizes order s (step ∷ steps) = IsAllowedIn sizes order s step × IsRunIn sizes order (next s step) steps

-- the words are the first values
pub record IsFirstMemoryIn (sizes : Sizes) (first : List (ℕ × ℕ)) (memory : List ℕ) : Type 0 where
  pub words : length memory ≡ sizes.words
  pub values : (a : ℕ) → a < sizes.words → slice_index memory a ≡ first_value first a

-- the state before the first step
abbrev pub first_state_in : Sizes → List ℕ → State
first_state_in sizes memory = record { memory = memory; buffers = replicate sizes.buffers []; stbars = replicate sizes.buffers 0 }

-- The steps are a complete run of so many processors on a machine of these sizes: of the setting's memory model, from a memory that has its first values,
-- with all buffers empty after it.
pub record IsCompleteRunIn (sizes : Sizes) (setting : SettingValue) (count : ℕ) (steps : List Step) : Type 0 where
  pub memory : List ℕ
  pub first : IsFirstMemoryIn sizes setting.first memory
  pub run : IsRunIn sizes setting.order (first_state_in sizes memory) steps
  pub empty : (p : ℕ) → buffer_of (after (first_state_in sizes memory) steps) p ≡ []
  pub processors : HasProcessors count steps
