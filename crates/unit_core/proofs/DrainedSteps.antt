-- Lemmas on units that append drains of one processor and then a step.
use Rattle.std.proofs.Common.{◌≡◌, ◌∙◌, ap, refl, ℕ, zero, suc, List, [], ◌∷◌, ◌++◌, replicate, arith}
use Rattle.unit_core.specs.declared.steps.Step.{Step}
use Rattle.unit_core.specs.declared.steps.Step.TheVariants.{Drain}
use Rattle.unit_core.specs.Machine.{proc_of}
use Rattle.unit_core.specs.Units.{AreDrainsOf, KeepsMachine, Takes, UnitValue}

AreDrainsOf-replicate : (count p : ℕ) → AreDrainsOf p (replicate count (Drain p))
AreDrainsOf-replicate zero p = tt
AreDrainsOf-replicate (suc count) p = (refl, omega arith, omega arith, AreDrainsOf-replicate count p)

-- drains of the step's processor, and then the step
pub Takes-drains_and : (old new : UnitValue) (count : ℕ) (step : Step) → new.steps ≡ old.steps ++ (replicate count (Drain (proc_of step)) ++ step ∷ []) → KeepsMachine old new →
    Takes old new step
Takes-drains_and old new count step steps kept = record {
  before = replicate count (Drain (proc_of step));
  after = [];
  steps = steps;
  drains_before = AreDrainsOf-replicate count (proc_of step);
  drains_after = tt;
  kept = kept;
}

-- steps that were appended after room was reserved
pub reserved-pushed : (old reserved pushed more : List Step) → reserved ≡ old → pushed ≡ reserved ++ more → pushed ≡ old ++ more
reserved-pushed old reserved pushed more is_old is_pushed = is_pushed ∙ ap (λ (xs : List Step). xs ++ more) is_old
