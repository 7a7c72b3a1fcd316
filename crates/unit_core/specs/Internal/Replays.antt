-- How far a replay has come.
use Rattle.std.specs.Prelude.{◌≡◌, ◌≢◌, ℕ, suc, ◌-◌, ◌≤◌, true, List, [], ◌∷◌, ◌++◌, length, get_or, map, take, drop, replicate}
use Rattle.tso_ops.specs.declared.ops.Op.{Op}
use Rattle.tso_ops.specs.Values.{ProgramValue, op_of, ops_at}
use Rattle.tso_ops.specs.declared.acts.Act.{Act}
use Rattle.tso_ops.specs.declared.acts.Act.TheVariants.{Issue}
use Rattle.unit_core.specs.declared.steps.Step.{Step}
use Rattle.unit_core.specs.Machine.{after, first_state, outcomes_of}
use Rattle.unit_core.specs.Schedule.{AreStepsOfActs}
use Rattle.unit_core.specs.Units.{UnitValue, KeepsMachine}

-- the operations that are left, where so many of each processor from p on were issued
abbrev pub left_from : ℕ → List ℕ → List (List Op) → List (List Op)
left_from p issued [] = []
left_from p issued (ops ∷ lists) = drop (get_or issued p 0) ops ∷ left_from (suc p) issued lists

-- So many operations of each processor were issued, and but for drains the unit took their steps alone.
pub record HasIssued (program : ProgramValue) (issued : List ℕ) (u : UnitValue) : Type 0 where
  pub counts : length issued ≡ 16
  pub within : (p : ℕ) → get_or issued p 0 ≤ length (ops_at program p)
  pub ops : (p : ℕ) → map op_of (outcomes_of p u.steps) ≡ take (get_or issued p 0) (ops_at program p)

-- The unit took the steps of these acts, before which so many operations of each processor were issued, and after which so many.
pub record FollowsActs (program : ProgramValue) (acts : List Act) (earlier later : List ℕ) (old new : UnitValue) : Type 0 where
  pub taken : List Step
  pub steps : new.steps ≡ old.steps ++ taken
  pub kept : KeepsMachine old new
  pub parts : old.lawful ≡ true → AreStepsOfActs (after (first_state old.first) old.steps) (left_from 0 earlier program.lists) acts taken (left_from 0 later program.lists)

-- one Issue for each operation that is left of processor p
abbrev pub rest_of : ProgramValue → List ℕ → ℕ → List Act
rest_of program issued p = replicate (length (ops_at program p) - get_or issued p 0) (Issue p)

-- All operations of processor p were issued, and of the others none.
pub record IssuesRest (program : ProgramValue) (p : ℕ) (old new : List ℕ) : Type 0 where
  pub all : get_or new p 0 ≡ length (ops_at program p)
  pub others : (q : ℕ) → q ≢ p → get_or new q 0 ≡ get_or old q 0
