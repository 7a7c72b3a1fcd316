use Rattle.line_text.proofs.CutFacts.{tokens_after_some}
use Rattle.tso_text.proofs.LineFacts.{no_number-some}
use Rattle.tso_text.proofs.numbers.no_number.Goals as goal

pub returns-in-Some-clause-is : goal.returns-in-Some-clause-is
returns-in-Some-clause-is c = no_number-some _ (tokens_after_some c.args.tokens c.in-Some.field-0 c.in-Some.is)
