use Rattle.std.proofs.Common.{arith, subst}
use Rattle.bitsets.specs.Rows.{HasNumber}
use Rattle.bitsets.proofs.RowFacts.{HasNumber-none}
use Rattle.order_check.proofs.progress.numbers_to.Goals as goal

pub loop-n-init : goal.loop-n-init
loop-n-init c = λ v. (
  λ has. absurd (HasNumber-none v (subst (λ xs. HasNumber xs v) c.new-row.ensures.items has)),
  λ is. absurd (omega (arith, is.0, is.1)),
)
