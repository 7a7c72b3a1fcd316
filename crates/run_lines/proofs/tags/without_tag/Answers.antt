use Rattle.std.proofs.Common.{◌∙◌, ◌-◌, sym, arith}
use Rattle.run_lines.proofs.TagFacts.{tag-last}
use Rattle.run_lines.proofs.tags.without_tag.Goals as goal

pub returns : goal.returns
returns c = sym (tag-last c.args.line.now (c.loop-i.i - 1) (omega (arith, c.loop-i-test.false, c.loop-i.auto.i))) ∙ c.loop-i.invariant
