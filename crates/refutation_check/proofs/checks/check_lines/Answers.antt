use Rattle.std.proofs.Common.{◌∙◌, reverse}
use Rattle.refutation_check.proofs.WalkFacts.{walk_more}
use Rattle.refutation_check.proofs.checks.check_lines.Goals as goal

pub loop-k-preserved : goal.loop-k-preserved
loop-k-preserved c = record {
  kept = c.in_ok-follow.ensures.kept;
  nodes = c.in_ok-follow.ensures.nodes ∙ c.loop-k.invariant.nodes;
  told = λ answer walks.
      c.loop-k.invariant.told answer
      (walk_more c.args.trace.now c.loop-k.pairs.pairs.items c.follow.new.self.pairs.items (reverse c.loop-k.pairs.cases.items) (reverse c.follow.new.self.cases.items)
      c.args.lines.now c.loop-k.k c.index-lines-k.result answer c.loop-k-test.true c.index-lines-k.is c.in_default.ensures c.in_ok-follow.ensures.after walks);
}
