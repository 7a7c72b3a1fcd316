-- What a desk and a pass hold, what a desk keeps, and what its calls do.
use Rattle.std.specs.Prelude.{◌≡◌, ◌≢◌, ℕ, ◌++◌, Bool, true, false, Option, None, Some, List, [], ◌∷◌, length, slice_get}
use Rattle.tso_ops.specs.declared.ops.Op.{Op}
use Rattle.tso_ops.specs.declared.ops.Outcome.{Outcome}
use Rattle.tso_ops.specs.Limits.{IsProgram}
use Rattle.tso_ops.specs.Values.{ProgramValue, op_of, ops_at}
use Rattle.unit_core.specs.Issues.{step_of}
use Rattle.unit_core.specs.Machine.{IsFirstMemory, outcomes_of}
use Rattle.unit_core.specs.Replays.{AreFirstOpsOf}
use Rattle.unit_core.specs.Units.{UnitValue, AnswersDrain, IsUnit, KeepsAllButFirst, Takes}

-- a program, and the unit on which it is run
pub record DeskValue : Type 0 where
  pub program : ProgramValue
  pub unit : UnitValue

-- a processor, and what it was answered
pub record PassValue : Type 0 where
  pub processor : ℕ
  pub outcomes : List Outcome

-- What a desk keeps: the unit has the program's first values, and its law; without drains, its steps are the first operations of the program on each
-- processor, each once, in order.
pub record IsDesk (desk : DeskValue) : Type 0 where
  pub program : IsProgram desk.program
  pub first : IsFirstMemory desk.program.setting.first desk.unit.first
  pub unit : IsUnit desk.unit
  pub begun : AreFirstOpsOf desk.program desk.unit.steps

-- the next operation of processor p; none where all were issued, or the program doesn't have the processor
abbrev pub issued_next : DeskValue → ℕ → Option Op
issued_next desk p = slice_get (ops_at desk.program p) (length (outcomes_of p desk.unit.steps))

-- The unit took the step of the next operation of the pass's processor, and otherwise only drains of it. The pass has the step's outcome, and all else
-- is as it was.
pub record IssuesNext (old new : DeskValue) (before after : PassValue) : Type 0 where
  pub outcome : Outcome
  pub next : issued_next old before.processor ≡ Some (op_of outcome)
  pub taken : Takes old.unit new.unit (step_of before.processor outcome)
  pub pass : after ≡ record { processor = before.processor; outcomes = before.outcomes ++ outcome ∷ [] }
  pub program : new.program ≡ old.program
  pub others : (q : ℕ) → q ≢ before.processor → issued_next new q ≡ issued_next old q

-- What an issue answers: false where no operation is left, with nothing changed.
abbrev pub AnswersIssue : DeskValue → DeskValue → PassValue → PassValue → Bool → Type 0
AnswersIssue old new before after true = IssuesNext old new before after
AnswersIssue old new before after false = (issued_next old before.processor ≡ None) × (new ≡ old) × (after ≡ before)

-- The unit's drain of processor p, by what it answers. The program and the next operation of each processor are as they were.
pub record DrainsUnit (old new : DeskValue) (p : ℕ) (some : Bool) : Type 0 where
  pub drained : AnswersDrain old.unit new.unit p some
  pub program : new.program ≡ old.program
  pub next : (q : ℕ) → issued_next new q ≡ issued_next old q

-- The desk has this program and the unit handed in, which has no step yet, with the program's first values.
pub record IsNewDesk (handed : ProgramValue) (given : UnitValue) (desk : DeskValue) : Type 0 where
  pub program : desk.program ≡ handed
  pub unit : KeepsAllButFirst given desk.unit
  pub first : IsFirstMemory handed.setting.first desk.unit.first
