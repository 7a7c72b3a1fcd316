-- Which runs belong to a schedule.
use Rattle.std.specs.Prelude.{◌≡◌, ◌⊎◌, ℕ, suc, ◌<◌, ◌≤◌, List, [], ◌∷◌, ◌++◌, length, get_or, set, replicate}
use Rattle.tso_ops.specs.declared.ops.Op.{Op}
use Rattle.tso_ops.specs.declared.ops.Outcome.{Outcome}
use Rattle.tso_ops.specs.Values.{op_of}
use Rattle.tso_ops.specs.declared.acts.Act.{Act}
use Rattle.tso_ops.specs.declared.acts.Act.TheVariants.{Issue, Drain}
use Rattle.unit_core.specs.declared.steps.Step.{Step}
use Rattle.unit_core.specs.Issues.{step_of}
use Rattle.unit_core.specs.Machine.{State, Entry, buffer_of, after, first_state}
use Rattle.unit_core.specs.Units.{AreDrainsOf}

-- The steps are that of the operation on processor p, whatever it read, and otherwise drains of p.
pub record IsIssueOf (p : ℕ) (op : Op) (steps : List Step) : Type 0 where
  pub before : List Step
  pub outcome : Outcome
  pub after : List Step
  pub is : steps ≡ before ++ step_of p outcome ∷ after
  pub of : op_of outcome ≡ op
  pub drains_before : AreDrainsOf p before
  pub drains_after : AreDrainsOf p after

-- The steps are those of an Issue on processor p, where these operations of it are left: the steps of the first of them, and the others stay left.
abbrev pub IsIssued : ℕ → List Op → List Step → List Op → Type 0
IsIssued p [] part rest = (part ≡ []) × (rest ≡ [])
IsIssued p (op ∷ ops) part rest = IsIssueOf p op part × (rest ≡ ops)

-- The steps are those of a Drain on a processor with this buffer: one drain of either kind, or none where no entry waits.
abbrev pub IsDrained : ℕ → List Entry → List Step → Type 0
IsDrained p [] part = part ≡ []
IsDrained p (e ∷ rest) part = (step : Step) × (part ≡ step ∷ []) × AreDrainsOf p (step ∷ [])

-- The steps are those of the act, in this state and with these operations left, by processor; afterwards the others are left.
abbrev pub AreStepsOfAct : State → List (List Op) → Act → List Step → List (List Op) → Type 0
AreStepsOfAct s left (Issue p) part others = (rest : List Op) × IsIssued p (get_or left p []) part rest × (others ≡ set left p rest)
AreStepsOfAct s left (Drain p) part others =
    (((p < length left) × IsDrained p (buffer_of s p) part) ⊎ ((length left ≤ p) × (part ≡ []))) × (others ≡ left)

-- The steps are those of the acts, one act after the other.
abbrev pub AreStepsOfActs : State → List (List Op) → List Act → List Step → List (List Op) → Type 0
AreStepsOfActs s left [] steps others = (steps ≡ []) × (others ≡ left)
AreStepsOfActs s left (act ∷ acts) steps others = (part : List Step) × (rest : List Step) × (between : List (List Op)) ×
    (steps ≡ part ++ rest) × AreStepsOfAct s left act part between × AreStepsOfActs (after s part) between acts rest others

-- one Issue for each operation that is left, processor by processor from p on
abbrev pub issues_of : ℕ → List (List Op) → List Act
issues_of p [] = []
issues_of p (ops ∷ lists) = replicate (length ops) (Issue p) ++ issues_of (suc p) lists

-- The steps are drains until each buffer is empty, for each of the lists' processors from p on.
abbrev pub AreLastDrains : ℕ → List (List Op) → State → List Step → Type 0
AreLastDrains p [] s steps = steps ≡ []
AreLastDrains p (ops ∷ lists) s steps = (part : List Step) × (rest : List Step) × (steps ≡ part ++ rest) × AreDrainsOf p part ×
    (length part ≡ length (buffer_of s p)) × AreLastDrains (suc p) lists (after s part) rest

-- The run, from this memory, is one of the schedule's with the program: steps of its acts, of the Issues that are left, and of the last drains.
pub record BelongsTo (memory : List ℕ) (program : List (List Op)) (schedule : List Act) (steps : List Step) : Type 0 where
  pub scheduled : List Step
  pub remaining : List Step
  pub last : List Step
  pub is : steps ≡ scheduled ++ (remaining ++ last)
  pub left : List (List Op)
  pub none : List (List Op)
  pub by_schedule : AreStepsOfActs (first_state memory) program schedule scheduled left
  pub by_program : AreStepsOfActs (after (first_state memory) scheduled) left (issues_of 0 left) remaining none
  pub by_end : AreLastDrains 0 program (after (first_state memory) (scheduled ++ remaining)) last
