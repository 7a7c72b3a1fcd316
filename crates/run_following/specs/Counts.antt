-- How many lines a run has of each kind.
use Rattle.std.specs.Prelude.{ℕ, ◌+◌, Bool, true, false, if◌then◌else◌}
use Rattle.run_steps.specs.declared.refusals.Comparison.{Comparison}
use Rattle.run_steps.specs.declared.refusals.Comparison.TheVariants as comparison
use Rattle.run_steps.specs.declared.steps.RunStep.{RunStep}
use Rattle.run_steps.specs.declared.steps.RunStep.TheVariants.{Load, Store, Drain, Write, Swap, Reserve, StoreReserved, Membar, Stbar, Unknown, Last}
use Rattle.run_following.specs.declared.counts.RunCounts.{RunCounts}

-- the step is an operation of its processor: no drain, and nothing that is said of memory
abbrev pub is_operation : RunStep → Bool
is_operation (Load place v) = true
is_operation (Store place v) = true
is_operation (Drain at v) = false
is_operation (Write place v) = true
is_operation (Swap place r v) = true
is_operation (Reserve place v) = true
is_operation (StoreReserved place v) = true
is_operation Membar = true
is_operation Stbar = true
is_operation (Unknown place) = false
is_operation (Last place v) = false

-- the step is a load
abbrev pub is_load_step : RunStep → Bool
is_load_step (Load place v) = true
is_load_step (Store place v) = false
is_load_step (Drain at v) = false
is_load_step (Write place v) = false
is_load_step (Swap place r v) = false
is_load_step (Reserve place v) = true
is_load_step (StoreReserved place v) = false
is_load_step Membar = false
is_load_step Stbar = false
is_load_step (Unknown place) = false
is_load_step (Last place v) = false

-- the step is a store
abbrev pub is_store_step : RunStep → Bool
is_store_step (Load place v) = false
is_store_step (Store place v) = true
is_store_step (Drain at v) = false
is_store_step (Write place v) = true
is_store_step (Swap place r v) = false
is_store_step (Reserve place v) = false
is_store_step (StoreReserved place v) = true
is_store_step Membar = false
is_store_step Stbar = false
is_store_step (Unknown place) = false
is_store_step (Last place v) = false

-- the step is a swap
abbrev pub is_swap_step : RunStep → Bool
is_swap_step (Load place v) = false
is_swap_step (Store place v) = false
is_swap_step (Drain at v) = false
is_swap_step (Write place v) = false
is_swap_step (Swap place r v) = true
is_swap_step (Reserve place v) = false
is_swap_step (StoreReserved place v) = false
is_swap_step Membar = false
is_swap_step Stbar = false
is_swap_step (Unknown place) = false
is_swap_step (Last place v) = false

-- what a line reads isn't known
abbrev pub is_unknown : Comparison → Bool
is_unknown comparison.Nothing = false
is_unknown comparison.Unknown = true
is_unknown comparison.Compared = false

-- a number, and one more where something is so
abbrev pub added : ℕ → Bool → ℕ
added count is = if is then count + 1 else count

-- The counts with one more line, which may be the first of its processor.
abbrev pub counted_with : Bool → RunStep → Comparison → RunCounts → RunCounts
counted_with is_new step comparison counts = record {
  processors = added counts.processors is_new;
  operations = added counts.operations (is_operation step);
  loads = added counts.loads (is_load_step step);
  stores = added counts.stores (is_store_step step);
  swaps = added counts.swaps (is_swap_step step);
  unknown = added counts.unknown (is_unknown comparison);
}
