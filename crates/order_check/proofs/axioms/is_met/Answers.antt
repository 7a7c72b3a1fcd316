use Rattle.std.proofs.Common.{ℕ, suc, ◌↔◌, IsTrue, sym, subst}
use Rattle.bitsets.specs.Rows.{HasNumber}
use Rattle.tso_ops.specs.Events.{IsSwapLoad}
use Rattle.order_check.specs.Refusals.{MeetsAt}
use Rattle.order_check.proofs.MetFacts.{atomicity_met}
use Rattle.order_check.proofs.axioms.is_met.Goals as goal

pub returns-else-event : goal.returns-else-event
returns-else-event c = λ order passed at.
    let t = c.args.trace.now in
    let b = c.is_no_swap_open.result in
    subst (λ law. IsTrue b ↔ MeetsAt t order law c.args.n) (sym c.in-Atomicity.is)
    (atomicity_met t order c.args.n c.args.progress.now passed (c.args.event, at, c.if-event.false) b
    (subst (λ row. IsTrue b ↔ ((l : ℕ) → IsSwapLoad t l → (HasNumber row l → ⊥) → HasNumber row (suc l) → ⊥)) c.left.ensures c.is_no_swap_open.ensures))
