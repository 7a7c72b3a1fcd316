use Rattle.std.proofs.Common.{refl}
use Rattle.chain_rules.proofs.SourceFacts.{copied_more}
use Rattle.chain_rules.proofs.sources.copy_row.Goals as goal

pub loop-d-preserved : goal.loop-d-preserved
loop-d-preserved c =
    let from = rw c.in-Some.is at c.requires.from in
    copied_more c.args.table.now c.loop-d.table c.args.count c.args.row c.in-Some.from c.loop-d.d _ c.loop-d.invariant c.loop-d-test.true from.0 c.requires.row refl
