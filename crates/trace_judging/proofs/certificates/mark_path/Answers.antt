use Rattle.std.proofs.Common.{arith}
use Rattle.trace_judging.proofs.Neighbours.{path_start, path_step, path_end}
use Rattle.trace_judging.proofs.certificates.mark_path.Goals as goal

pub loop-i-init : goal.loop-i-init
loop-i-init c = (omega arith, path_start c.args.marks.now c.args.path.now)

pub loop-i-preserved : goal.loop-i-preserved
loop-i-preserved c = (
  omega arith,
  path_step c.args.marks.now c.loop-i.marks c.add.new.self c.args.path.now c.loop-i.i c.loop-i.invariant.0 c.loop-i-test.true c.loop-i.invariant.1 c.add.ensures.nodes c.add.ensures.edges,
)

pub returns : goal.returns
returns c = path_end c.args.marks.now c.loop-i.marks c.args.path.now c.loop-i.i c.loop-i-test.false c.loop-i.invariant.1
