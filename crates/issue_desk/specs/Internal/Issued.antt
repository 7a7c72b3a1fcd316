-- How many operations a desk has issued, and what one of them does.
use Rattle.std.specs.Prelude.{◌≡◌, ℕ, ◌<◌, ◌++◌, List, [], ◌∷◌, length, get_or}
use Rattle.tso_ops.specs.declared.ops.Op.{Op}
use Rattle.tso_ops.specs.declared.ops.Outcome.{Outcome}
use Rattle.tso_ops.specs.Values.{op_of}
use Rattle.unit_core.specs.Issues.{step_of}
use Rattle.unit_core.specs.Machine.{outcomes_of}
use Rattle.unit_core.specs.Units.{UnitValue, Takes}
use Rattle.issue_desk.specs.Desks.{DeskValue, PassValue}

-- The numbers are those of the operations that the unit has taken, by processor of the program.
pub record CountsIssued (desk : DeskValue) (issued : List ℕ) : Type 0 where
  pub processors : length issued ≡ length desk.program.lists
  pub counts : (p : ℕ) → p < length desk.program.lists → get_or issued p 0 ≡ length (outcomes_of p desk.unit.steps)

-- The unit took the step of the operation, and the pass has its outcome.
pub record IsAnswered (old new : UnitValue) (before after : PassValue) (op : Op) : Type 0 where
  pub outcome : Outcome
  pub is : op_of outcome ≡ op
  pub taken : Takes old new (step_of before.processor outcome)
  pub pass : after ≡ record { processor = before.processor; outcomes = before.outcomes ++ outcome ∷ [] }
