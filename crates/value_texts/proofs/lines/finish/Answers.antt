use Rattle.std.proofs.Common.{refl}
use Rattle.line_text.proofs.CutFacts.{tokens_after_some}
use Rattle.value_texts.proofs.lines.finish.Goals as goal

pub returns-in-Some-clause-more : goal.returns-in-Some-clause-more
returns-in-Some-clause-more c = (tokens_after_some _ _ c.in-Some.is, refl)
