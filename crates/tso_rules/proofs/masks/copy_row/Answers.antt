use Rattle.tso_rules.proofs.SourceMaskFacts.{copied_more}
use Rattle.tso_rules.proofs.masks.copy_row.Goals as goal

pub loop-j-preserved : goal.loop-j-preserved
loop-j-preserved c =
    copied_more c.args.table.now c.loop-j.table c.set_word.new.table c.args.width c.args.row c.args.from c.loop-j.j c.loop-j-test.true c.loop-j.invariant c.set_word.ensures.added
