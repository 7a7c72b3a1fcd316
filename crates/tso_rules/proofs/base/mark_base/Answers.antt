use Rattle.tso_rules.proofs.BaseFacts.{base_or_own}
use Rattle.bitsets.proofs.MarkFacts.{marks_both, marks_as, on_ok}
use Rattle.tso_rules.proofs.base.mark_base.Goals as goal

pub returns : goal.returns
returns c =
    let first = c.args.marks.now.items in
    on_ok c.mark_own.result _ _
    (λ own. marks_as first c.mark_own.new.marks.items _ _
    (marks_both first c.mark_all_but_own.new.marks.items c.mark_own.new.marks.items _ _ c.in_ok-mark_all_but_own.ensures own)
    (λ v. base_or_own c.args.trace.now c.args.u v))
    c.mark_own.ensures
