use Rattle.std.proofs.Common.{◌∙◌, ap, sym}
use Rattle.log_text.proofs.LeftOutFacts.{kept, left_out}
use Rattle.log_text.proofs.known.operations_elsewhere.Goals as goal
use Rattle.log_text.proofs.known.operations_elsewhere.Goals.{then-not-is_at_one_of+in_ok-push, else-not-is_at_one_of}

pub loop-logged-preserved : goal.loop-logged-preserved
loop-logged-preserved c all is =
    let was = c.loop-logged.invariant all is in
    let tested = c.is_at_one_of.ensures all is in
    elim c.if-not-is_at_one_of.branch [
      | then-not-is_at_one_of+in_ok-push w ↦
          ap (λ v. v.items) w.left-is ∙ w.in_ok-push.ensures.items ∙ kept all c.args.list.now c.loop-logged.logged-index _ c.loop-logged-test.true _ was (sym tested ∙ w.if-not-is_at_one_of.true)
      | else-not-is_at_one_of w ↦
          ap (λ v. v.items) w.left-is ∙ left_out all c.args.list.now c.loop-logged.logged-index _ c.loop-logged-test.true _ was (sym tested ∙ w.if-not-is_at_one_of.false)
    ]
