-- What contracts see of a unit's history.
use Rattle.std.specs.Prelude.{ℕ, List}
use Rattle.unit_core.specs.declared.steps.Step.{Step}

-- the first value of each address, the steps that were taken, the first one first, and for how many more there is room
pub record HistoryValue : Type 0 where
  pub first : List ℕ
  pub steps : List Step
  pub room : ℕ
