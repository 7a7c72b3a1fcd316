use Rattle.std.proofs.Common.{arith}
use Rattle.tso_ops.proofs.NumberFacts.{IsLoad-within}
use Rattle.tso_rules.proofs.BaseFacts.{read_load}
use Rattle.chain_rules.proofs.BaseReachFacts.{reads_next}
use Rattle.chain_rules.proofs.base.join_sources.Goals as goal

pub loop-l-preserved : goal.loop-l-preserved
loop-l-preserved c =
    reads_next c.args.trace.now c.args.reach.now c.loop-l.reach c.join_reads.new.reach c.loop-l.l c.loop-l.invariant c.join_reads.ensures.grows c.join_reads.ensures.led

pub returns-clause-led : goal.returns-clause-led
returns-clause-led c = λ l u v read.
    let low = IsLoad-within c.args.trace.now l (read_load c.args.trace.now u l v read) in
    let end = c.loop-l-test.false in
    let count = c.node_count-l-end.ensures.count in
    c.loop-l.invariant.led l u v (omega (arith, low, end, count)) read
