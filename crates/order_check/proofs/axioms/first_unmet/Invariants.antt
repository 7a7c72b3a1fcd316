use Rattle.std.proofs.Common.{ℕ, ◌<◌, List, get_or}
use Rattle.order_check.specs.declared.faults.Axiom.TheVariants.{LoadOp}
use Rattle.order_check.specs.Refusals.{MeetsAt}
use Rattle.order_check.specs.Internal.Progress.{HasJustPassed}
use Rattle.order_check.proofs.AxiomFacts.{axioms}
use Rattle.order_check.proofs.axioms.first_unmet.Given as goal

-- the axioms looked at are met
abbrev pub invariant-loop-k : goal.invariant-loop-k
invariant-loop-k l = (order : List ℕ) → HasJustPassed l.trace order l.n l.progress → (j : ℕ) → j < l.k → MeetsAt l.trace order (get_or axioms j LoadOp) l.n
