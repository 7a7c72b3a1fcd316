-- The memory order of a run's events: each load at its step, each store at its drain, and a swap's two events side by side at its step.
use Rattle.std.specs.Prelude.{ℕ, zero, suc, ◌+◌, List, [], ◌∷◌, ◌++◌, cond, ◌==◌, length, slice_get}
use Rattle.std.specs.List.{remove}
use Rattle.std.specs.Option.{option_to_list}
use Rattle.tso_ops.specs.Events.{events_from}
use Rattle.unit_core.specs.declared.steps.Step.{Step}
use Rattle.unit_core.specs.declared.steps.Step.TheVariants.{Store, Drain, DrainAt, Load, Swap, Membar, Stbar}
use Rattle.embedding.specs.Sizes.{Sizes, first_state_in}
use Rattle.unit_core.specs.Machine.{State, first_state, buffer_of, oldest_of, next, outcomes_of, proc_of}

-- the number of a processor's next event, and those of the stores in its buffer, the oldest first
pub record Numbering : Type 0 where
  pub following : ℕ
  pub waiting : List ℕ

-- the numberings of all processors, with that of processor p replaced
abbrev pub with_numbering : (ℕ → Numbering) → ℕ → Numbering → ℕ → Numbering
with_numbering numberings p numbering q = cond (p == q) numbering (numberings q)

-- the numbers of the events that memory takes at the step; the numbering is that of the step's processor
abbrev pub ordered_by : Numbering → State → Step → List ℕ
ordered_by l s (Store p a v) = []
ordered_by l s (Drain p) = option_to_list (slice_get l.waiting 0)
ordered_by l s (DrainAt p a) = option_to_list (slice_get l.waiting (oldest_of (buffer_of s p) a))
ordered_by l s (Load p a r) = l.following ∷ []
ordered_by l s (Swap p a r v) = l.following ∷ (suc l.following ∷ [])
ordered_by l s (Membar p) = []
ordered_by l s (Stbar p) = []

-- the numbering of the step's processor after it
abbrev pub numbering_after : Numbering → State → Step → Numbering
numbering_after l s (Store p a v) = record l { following = suc l.following; waiting = l.waiting ++ l.following ∷ [] }
numbering_after l s (Drain p) = record l { waiting = remove l.waiting 0 }
numbering_after l s (DrainAt p a) = record l { waiting = remove l.waiting (oldest_of (buffer_of s p) a) }
numbering_after l s (Load p a r) = record l { following = suc l.following }
numbering_after l s (Swap p a r v) = record l { following = suc (suc l.following) }
numbering_after l s (Membar p) = l
numbering_after l s (Stbar p) = l

abbrev pub numberings_after : (ℕ → Numbering) → State → Step → ℕ → Numbering
numberings_after numberings s step = with_numbering numberings (proc_of step) (numbering_after (numberings (proc_of step)) s step)

-- the order that the steps give
abbrev pub order_from : (ℕ → Numbering) → State → List Step → List ℕ
order_from numberings s [] = []
order_from numberings s (step ∷ steps) =
    ordered_by (numberings (proc_of step)) s step ++ order_from (numberings_after numberings s step) (next s step) steps

-- how many events of so many processors, of which p is the first, stand before those of processor q in file order
abbrev pub events_before : ℕ → ℕ → List Step → ℕ → ℕ
events_before p zero steps q = 0
events_before p (suc count) steps q = cond (p == q) 0 (length (events_from p 0 0 (outcomes_of p steps)) + events_before (suc p) count steps q)

-- the numberings before the first step
abbrev pub first_numberings : ℕ → List Step → ℕ → Numbering
first_numberings count steps p = record { following = suc (events_before 0 count steps p); waiting = [] }

-- The order of a run of so many processors from this memory, on a machine of these sizes.
abbrev pub memory_order_in : Sizes → ℕ → List ℕ → List Step → List ℕ
memory_order_in sizes count memory steps = order_from (first_numberings count steps) (first_state_in sizes memory) steps

-- The same on a unit.
abbrev pub memory_order_of : ℕ → List ℕ → List Step → List ℕ
memory_order_of count memory steps = order_from (first_numberings count steps) (first_state memory) steps
