-- What a faulty unit keeps between calls.
use Rattle.std.specs.Prelude.{◌≤◌, List, length}
use Rattle.unit_core.specs.declared.steps.Step.{Step}
use Rattle.unit_faulty.specs.Faulty.{FaultyState}

-- There were no more occasions than steps.
pub record IsFaulty (steps : List Step) (state : FaultyState) : Type 0 where
  pub counted : state.occasions ≤ length steps
