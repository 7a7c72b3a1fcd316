-- Lemmas on drains of processors in order.
use Rattle.std.proofs.Common.{◌∙◌, sym, ap, refl, ℕ, suc, ◌<◌, ◌≤◌, List, [], ◌∷◌, ◌++◌, append_assoc, arith}
use Rattle.std.proofs.lemmas.List.{append-nil}
use Rattle.unit_core.specs.declared.steps.Step.{Step}
use Rattle.unit_core.specs.Machine.{proc_of}
use Rattle.unit_core.specs.Units.{UnitValue, AreDrains, KeepsMachine, TakesDrains, DrainsOne}

pub AreDrains-wider : (least past less more : ℕ) (steps : List Step) → less ≤ least → past ≤ more → AreDrains least past steps → AreDrains less more steps
AreDrains-wider least past less more [] low high drains = tt
AreDrains-wider least past less more (step ∷ steps) low high drains = (
  drains.0,
  omega (arith, drains.1),
  omega (arith, drains.2),
  AreDrains-wider (proc_of step) past (proc_of step) more steps (omega arith) high drains.3,
)

-- drains of processors up to p, and then of p and later ones
pub AreDrains-append : (least p past : ℕ) (xs ys : List Step) → least ≤ p → p < past → AreDrains least (suc p) xs → AreDrains p past ys → AreDrains least past (xs ++ ys)
AreDrains-append least p past [] ys low high first second = AreDrains-wider p past least past ys low (omega arith) second
AreDrains-append least p past (x ∷ xs) ys low high first second = (
  first.0,
  first.1,
  omega (arith, first.2),
  AreDrains-append (proc_of x) p past xs ys (omega (arith, first.2)) high first.3 second,
)

pub KeepsMachine-then : (a b c : UnitValue) → KeepsMachine a b → KeepsMachine b c → KeepsMachine a c
KeepsMachine-then a b c first second = record {
  design = second.design ∙ first.design;
  lawful = second.lawful ∙ first.lawful;
  order = second.order ∙ first.order;
  first = second.first ∙ first.first;
}

pub TakesDrains-none : (u : UnitValue) (least past : ℕ) → TakesDrains u u least past
TakesDrains-none u least past = record {
  drained = [];
  steps = sym (append-nil u.steps);
  drains = tt;
  kept = record { design = refl; lawful = refl; order = refl; first = refl };
}

pub TakesDrains-wider : (old new : UnitValue) (past more : ℕ) → past ≤ more → TakesDrains old new 0 past → TakesDrains old new 0 more
TakesDrains-wider old new past more high takes = record {
  drained = takes.drained;
  steps = takes.steps;
  drains = AreDrains-wider 0 past 0 more takes.drained (omega arith) high takes.drains;
  kept = takes.kept;
}

pub TakesDrains-then : (a b c : UnitValue) (least p past : ℕ) → least ≤ p → p < past → TakesDrains a b least (suc p) → TakesDrains b c p past → TakesDrains a c least past
TakesDrains-then a b c least p past low high first second = record {
  drained = first.drained ++ second.drained;
  steps = second.steps ∙ ap (λ xs. xs ++ second.drained) first.steps ∙ append_assoc a.steps first.drained second.drained;
  drains = AreDrains-append least p past first.drained second.drained low high first.drains second.drains;
  kept = KeepsMachine-then a b c first.kept second.kept;
}

pub TakesDrains-one : (old new : UnitValue) (p : ℕ) → DrainsOne old new p → TakesDrains old new p (suc p)
TakesDrains-one old new p drains = record {
  drained = drains.step ∷ [];
  steps = drains.steps;
  drains = drains.drain;
  kept = drains.kept;
}
