use Rattle.std.proofs.Common.{arith}
use Rattle.tso_ops.proofs.NumberFacts.{HasSource-within}
use Rattle.tso_rules.proofs.masks.add_source.Goals as goal

pub set_bit-requires-clause-column : goal.set_bit-requires-clause-column
set_bit-requires-clause-column c =
    let within = HasSource-within c.args.trace.now c.args.load c.in-Some.source c.in-Some.ensures.is in
    omega (arith, within.1, c.requires.fits)
