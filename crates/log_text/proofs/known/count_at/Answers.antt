use Rattle.std.proofs.Common.{◌∙◌, ◌+◌, ap, arith, sym}
use Rattle.std.proofs.lemmas.List.Sums.{count_by_more_no, count_by_more_yes}
use Rattle.log_text.specs.LogTexts.{is_operation_at}
use Rattle.log_text.proofs.known.count_at.Goals as goal
use Rattle.log_text.proofs.known.count_at.Goals.{then-is_at_one_of, else-is_at_one_of}

pub loop-logged-preserved : goal.loop-logged-preserved
loop-logged-preserved c =
    elim c.if-is_at_one_of.branch [
      | then-is_at_one_of w ↦ (
        λ all is. w.count-is ∙ ap (λ n. n + 1) (c.loop-logged.invariant.0 all is) ∙ sym (count_by_more_yes (is_operation_at all) c.args.list.now c.loop-logged.logged-index _ c.loop-logged-test.true (sym (c.is_at_one_of.ensures all is) ∙ w.if-is_at_one_of.true)),
        omega (arith, w.count-is, c.loop-logged.invariant.1),
      )
      | else-is_at_one_of w ↦ (
        λ all is. w.count-is ∙ c.loop-logged.invariant.0 all is ∙ sym (count_by_more_no (is_operation_at all) c.args.list.now c.loop-logged.logged-index _ c.loop-logged-test.true (sym (c.is_at_one_of.ensures all is) ∙ w.if-is_at_one_of.false)),
        omega (arith, w.count-is, c.loop-logged.invariant.1),
      )
    ]
