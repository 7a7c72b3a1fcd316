use Rattle.std.proofs.Common.{ap, arith, length}
use Rattle.log_text.proofs.TagFacts.{before_tag-le}
use Rattle.log_text.proofs.tags.untagged_len.Goals as goal

pub returns-clause-within : goal.returns-clause-within
returns-clause-within c = let most = before_tag-le c.args.line.now in omega (arith, most, ap length c.without_tag.ensures)
