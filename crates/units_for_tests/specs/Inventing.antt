-- What contracts see of a unit that invents its answers.
use Rattle.std.specs.Prelude.{ℕ, List, [], false, codes, replicate}
use Rattle.tso_ops.specs.declared.settings.Order.TheVariants.{Tso}
use Rattle.unit_core.specs.declared.steps.Step.{Step}
use Rattle.unit_core.specs.Units.{Design, UnitValue}

-- the steps that it has taken, and the first value of each address
pub record InventingValue : Type 0 where
  pub steps : List Step
  pub first : List ℕ

-- the design of each unit that invents its answers
abbrev pub inventing_design : Design
inventing_design = record { kind = codes "inventing"; numbers = [] }

-- It isn't lawful, and no entry waits between two calls.
abbrev pub inventing_unit : InventingValue → UnitValue
inventing_unit u = record { design = inventing_design; steps = u.steps; lawful = false; order = Tso; first = u.first; waiting = replicate 16 0 }
