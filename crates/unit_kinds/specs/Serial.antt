-- What contracts see of a serial unit.
use Rattle.std.specs.Prelude.{ℕ, List, [], true, codes, replicate}
use Rattle.tso_ops.specs.declared.settings.Order.TheVariants.{Tso}
use Rattle.unit_core.specs.declared.steps.Step.{Step}
use Rattle.unit_core.specs.Units.{Design, UnitValue}

-- the steps that it has taken, and the first value of each address
pub record SerialValue : Type 0 where
  pub steps : List Step
  pub first : List ℕ

-- one that has taken no step, with all first values 0
abbrev pub new_serial : SerialValue
new_serial = record { steps = []; first = replicate 256 0 }

-- the design of each serial unit
abbrev pub serial_design : Design
serial_design = record { kind = codes "serial"; numbers = [] }

-- It is a lawful unit of TSO, for which no entry waits between two calls.
abbrev pub serial_unit : SerialValue → UnitValue
serial_unit u = record { design = serial_design; steps = u.steps; lawful = true; order = Tso; first = u.first; waiting = replicate 16 0 }
