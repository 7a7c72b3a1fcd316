-- The stores that a load sees.
use Rattle.std.specs.Prelude.{◌⊎◌, ℕ, ◌≤◌, List, slice_index}
use Rattle.tso_ops.specs.Values.{TraceValue}
use Rattle.tso_ops.specs.Events.{Earlier}
use Rattle.tso_model.specs.Axioms.{IsVisible}

-- by the table of places, store s is one that load l sees if it is to the load's address
abbrev pub IsSeen : TraceValue → List ℕ → ℕ → ℕ → Type 0
IsSeen t places l s = (slice_index places s ≤ slice_index places l) ⊎ Earlier t s l

-- by the table, no store that load l sees stands after number s; number 0 stands before all
abbrev pub IsLastSeen : TraceValue → List ℕ → List ℕ → ℕ → ℕ → Type 0
IsLastSeen t order places l s = (other : ℕ) → IsVisible t order other l → slice_index places other ≤ slice_index places s
