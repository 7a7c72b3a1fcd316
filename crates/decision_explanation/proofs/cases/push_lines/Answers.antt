use Rattle.std.proofs.Common.{arith}
use Rattle.decision_explanation.specs.Internal.Standings.{standing_of}
use Rattle.decision_explanation.proofs.TextFacts.{lines_more}
use Rattle.decision_explanation.proofs.cases.push_lines.Goals as goal

pub loop-line-preserved : goal.loop-line-preserved
loop-line-preserved c = record {
  kept = c.in_ok-follow.ensures.kept;
  next = omega (arith, c.follow.ensures.next, c.loop-line.invariant.next);
  said = lines_more c.args.named.now c.args.lines.now c.loop-line.line-index c.line-item.result (standing_of c.loop-line.state) (standing_of c.follow.new.self) _ _ _ c.loop-line-test.true c.line-item.is c.in_ok-push_line.ensures
      c.in_ok-follow.ensures.standing c.loop-line.invariant.said;
}
