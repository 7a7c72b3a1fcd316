use Rattle.bitsets.proofs.MarkFacts.{marks_both, on_ok}
use Rattle.tso_rules.proofs.base.mark_all_but_own.Goals as goal

pub returns : goal.returns
returns c =
    let first = c.args.marks.now.items in
    on_ok c.mark_readers.result _ _
    (λ readers. marks_both first c.mark_later.new.marks.items c.mark_readers.new.marks.items _ _
    (marks_both first c.mark_events.new.marks.items c.mark_later.new.marks.items _ _ c.in_ok-mark_events.ensures c.in_ok-mark_later.ensures)
    readers)
    c.mark_readers.ensures
