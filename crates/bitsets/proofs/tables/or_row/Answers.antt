use Rattle.bitsets.proofs.FillFacts.{RowFrom-step}
use Rattle.bitsets.proofs.tables.or_row.Goals as goal

pub loop-j-preserved : goal.loop-j-preserved
loop-j-preserved c =
    RowFrom-step c.args.table.now c.loop-j.table c.set_word.new.table c.args.other.words.now c.args.other.width c.args.row c.args.x c.args.first c.loop-j.j
    c.loop-j.invariant c.set_word.ensures.added
