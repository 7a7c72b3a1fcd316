use Rattle.std.proofs.Common.{sym}
use Rattle.line_text.proofs.CutFacts.{tokens_after_some}
use Rattle.tso_cert.proofs.TokenFacts.{unwritten-more}
use Rattle.tso_cert.proofs.parts.read_unwritten.Goals as goal

pub returns-in-Some : goal.returns-in-Some
returns-in-Some c = sym (rw c.in_ok-token.ensures.found (unwritten-more c.args.number _ _ (tokens_after_some c.in_ok-token.rest c.in-Some.field-0 c.in-Some.is)))
