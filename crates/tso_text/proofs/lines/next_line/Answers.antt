use Rattle.std.proofs.Common.{sym, arith}
use Rattle.std.proofs.lemmas.Bool.Decides.{nat_tests}
use Rattle.tso_text.proofs.LineFacts.{unended_some}
use Rattle.tso_text.proofs.lines.next_line.Goals as goal

pub returns-in-None-2-clause-why : goal.returns-in-None-2-clause-why
returns-in-None-2-clause-why c = sym (unended_some c.args.text.now (λ empty. absurd (grind (arith, nat_tests))))
