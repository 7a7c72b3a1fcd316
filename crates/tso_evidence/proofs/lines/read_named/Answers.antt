use Rattle.std.proofs.Common.{rules}
use Rattle.line_text.proofs.CutFacts.{tokens_after_some}
use Rattle.tso_evidence.proofs.SayingFacts.{named-more}
use Rattle.tso_evidence.proofs.lines.read_named.Goals as goal

pub returns-in_err-reason-in-Some-clause-refused : goal.returns-in_err-reason-in-Some-clause-refused
returns-in_err-reason-in-Some-clause-refused c = let step = named-more c.args.from c.args.to c.args.name.now _ (tokens_after_some c.args.tokens c.in-Some.field-0 c.in-Some.is) in search rules

pub returns-in_ok-reason-in-Some-clause-found : goal.returns-in_ok-reason-in-Some-clause-found
returns-in_ok-reason-in-Some-clause-found c = let step = named-more c.args.from c.args.to c.args.name.now _ (tokens_after_some c.args.tokens c.in-Some.field-0 c.in-Some.is) in search rules
