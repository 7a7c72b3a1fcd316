use Rattle.std.proofs.Common.{[], get_or, refl, arith}
use Rattle.tso_rules.proofs.InferredFacts.{sources_more, sources_all}
use Rattle.tso_rules.proofs.sources.sources_of.Goals as goal

pub loop-j-preserved : goal.loop-j-preserved
loop-j-preserved c =
    let one = c.args.one.now in
    sources_more c.args.trace.now c.args.u [] c.loop-j.sources.items c.mark_sources.new.marks.items one c.args.two.now c.loop-j.j (get_or one c.loop-j.j 0) c.word_at.result
    c.loop-j.invariant c.in_ok-mark_sources.ensures refl c.word_at.ensures

pub returns : goal.returns
returns c = sources_all c.args.trace.now c.args.u c.loop-j.sources.items c.args.one.now c.args.two.now c.loop-j.j c.loop-j.invariant (omega (arith, c.loop-j-test.false))
