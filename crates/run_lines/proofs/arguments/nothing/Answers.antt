use Rattle.std.proofs.Common.{[], sym, ap}
use Rattle.line_text.proofs.CutFacts.{tokens_after_some}
use Rattle.run_lines.specs.Arguments.{all_said}
use Rattle.run_lines.proofs.arguments.nothing.Goals as goal

pub returns-in-Some : goal.returns-in-Some
returns-in-Some c = let some = tokens_after_some c.args.parts c.in-Some.field-0 c.in-Some.is in sym (ap (all_said []) some.parts)
