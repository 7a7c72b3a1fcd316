-- What a unit was asked for, operation by operation.
use Rattle.std.specs.Prelude.{◌≡◌, ℕ, ◌<◌, ◌≤◌, List, [], ◌++◌, map}
use Rattle.tso_ops.specs.declared.ops.Op.{Op}
use Rattle.tso_ops.specs.Values.{ProgramValue, op_of, ops_at}
use Rattle.unit_core.specs.Machine.{outcomes_of}
use Rattle.unit_core.specs.Units.{KeepsMachine, UnitValue}

-- Processor p was answered these operations, in order, and no other processor anything.
pub record Issues (old new : UnitValue) (p : ℕ) (ops : List Op) : Type 0 where
  pub own : map op_of (outcomes_of p new.steps) ≡ map op_of (outcomes_of p old.steps) ++ ops
  pub others : (q : ℕ) → (q ≡ p → ⊥) → outcomes_of q new.steps ≡ outcomes_of q old.steps
  pub kept : KeepsMachine old new

-- The processors below this one were answered all their operations, and the others none.
pub record IssuesBelow (program : ProgramValue) (unit : UnitValue) (past : ℕ) : Type 0 where
  pub ops : (p : ℕ) → p < past → map op_of (outcomes_of p unit.steps) ≡ ops_at program p
  pub none : (p : ℕ) → past ≤ p → outcomes_of p unit.steps ≡ []
