-- The final states of a program: what complete runs of its machine leave.
use Rattle.std.specs.Prelude.{◌≡◌, ℕ, ◌==◌, ◌||◌, ◌&&◌, Bool, true, false, nat_lt, List, ◌∷◌, ◌++◌, All, map, filter, slice_index, Option, Some, None}
use Rattle.std.specs.List.{filter_map, list_any, range_with_len}
use Rattle.tso_ops.specs.declared.ops.Op.{Op}
use Rattle.tso_ops.specs.declared.ops.Op.TheVariants.{St as OpSt, Sw as OpSw}
use Rattle.tso_ops.specs.declared.ops.Outcome.{Outcome}
use Rattle.tso_ops.specs.declared.ops.Outcome.TheVariants.{Ld, Sw}
use Rattle.tso_ops.specs.Values.{ProgramValue, TraceValue, in_file_order, list_count, outcomes_in_file_order, rows, trace_of_lists}
use Rattle.unit_core.specs.declared.steps.Step.{Step}
use Rattle.unit_core.specs.Machine.{IsCompleteRun, after, first_state, trace_of}
use Rattle.unit_core.specs.Records.{AreOpsOf}
use Rattle.final_states.specs.declared.states.FinalState.{FinalState}

-- The steps are a complete run of the machine of the program's memory model, and, without drains, the program's operations, all.
pub record IsProgramRun (program : ProgramValue) (steps : List Step) : Type 0 where
  pub complete : IsCompleteRun program.setting (list_count program) steps
  pub ops : AreOpsOf program steps

-- some complete run of the program leaves the trace
abbrev pub IsRunTrace : ProgramValue → TraceValue → Type 0
IsRunTrace program t = (steps : List Step) × IsProgramRun program steps × (t ≡ trace_of program.setting (list_count program) steps)

-- the operation stores to the address
abbrev pub stores_to : ℕ → Op → Bool
stores_to a (OpSt b v) = b == a
stores_to a (OpSw b v) = b == a
stores_to a _ = false

-- the addresses that the program stores to, in ascending order
abbrev pub stored_addresses : ProgramValue → List ℕ
stored_addresses program = filter (λ a. list_any (stores_to a) (in_file_order program)) (range_with_len 0 256)

-- a trace, and addresses with the values that memory has there at last
pub record FinalStateValue : Type 0 where
  pub trace : TraceValue
  pub last : List (ℕ × ℕ)

-- the final state that the fields hold
abbrev pub state_of : ProgramValue → FinalState → FinalStateValue
state_of program state = record { trace = trace_of_lists program.setting (rows state.lists.items); last = state.last.items }

-- what memory has at the addresses after the steps from this memory
abbrev pub last_values : List ℕ → List ℕ → List Step → List (ℕ × ℕ)
last_values addresses memory steps = map (λ a. (a, slice_index (after (first_state memory) steps).memory a)) addresses

-- Some complete run of the program leaves this: its trace, and the last values of the addresses that the program stores to.
pub record IsFinalState (program : ProgramValue) (state : FinalStateValue) : Type 0 where
  pub steps : List Step
  pub run : IsProgramRun program steps
  pub trace : state.trace ≡ trace_of program.setting (list_count program) steps
  pub last : state.last ≡ last_values (stored_addresses program) run.complete.memory steps

-- ---- their order

-- the value that the operation read
abbrev pub value_read : Outcome → Option ℕ
value_read (Ld a r) = Some r
value_read (Sw a r v) = Some r
value_read _ = None

-- the values that were read, in file order
abbrev pub values_read : TraceValue → List ℕ
values_read t = filter_map value_read (outcomes_in_file_order t)

-- the values that were read, and then the last values
abbrev pub state_numbers : FinalStateValue → List ℕ
state_numbers state = values_read state.trace ++ map (λ entry. entry.1) state.last

-- where two lists of one length first differ, the first has the lesser number
abbrev pub is_below : List ℕ → List ℕ → Bool
is_below (x ∷ xs) (y ∷ ys) = nat_lt x y || ((x == y) && is_below xs ys)
is_below _ _ = false

-- each of the states is above those before it
abbrev pub AreAscending : List FinalStateValue → Type 0
AreAscending states = (before : List FinalStateValue) (state : FinalStateValue) (after : List FinalStateValue) →
    states ≡ before ++ state ∷ after → All (λ earlier. is_below (state_numbers earlier) (state_numbers state) ≡ true) before

-- These are the final states of the program, all, each once, in ascending order.
pub record AreFinalStatesOf (program : ProgramValue) (states : List FinalStateValue) : Type 0 where
  pub each : All (IsFinalState program) states
  pub all : (state : FinalStateValue) → IsFinalState program state → (before : List FinalStateValue) × (after : List FinalStateValue) × (states ≡ before ++ state ∷ after)
  pub ascending : AreAscending states
