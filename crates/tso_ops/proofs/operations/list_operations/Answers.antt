use Rattle.std.proofs.Common.{arith, map}
use Rattle.std.proofs.lemmas.List.{length-map}
use Rattle.tso_ops.specs.Values.{op_of}
use Rattle.tso_ops.proofs.operations.list_operations.Goals as goal

pub push_operations-requires : goal.push_operations-requires
push_operations-requires c =
    let count = length-map c.args.trace.now.lists (map op_of) in
    omega (arith, count, c.processors-p-end.ensures.kept.program.processors, c.processors-p-end.ensures.count, c.loop-p.invariant.1, c.loop-p-test.true)
