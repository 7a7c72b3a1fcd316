use Rattle.tso_ops.proofs.MaskFacts.{marks_row_lent}
use Rattle.tso_ops.proofs.masks.mark_in_row.Goals as goal

pub returns : goal.returns
returns c =
    marks_row_lent c.args.table.now.items c.add_rows.new.table.items c.args.row c.in-Some.row c.args.number c.mark.new.marks c.index_mut.result.now c.in-Some.is
    c.in_ok-add_rows.ensures.same c.in_ok-add_rows.ensures.long c.index_mut.ensures.value c.in_ok-mark.ensures
