use Rattle.std.proofs.Common.{◌∙◌}
use Rattle.std.proofs.lemmas.Result.{on_ok_weaker}
use Rattle.outcome_reports.proofs.LineFacts.{entry_text, gets_one}
use Rattle.outcome_reports.proofs.lines.push_entry.Goals as goal

pub returns : goal.returns
returns c = on_ok_weaker c.write.result (λ is. gets_one _ _ _ _ _ _ c.in_ok-begin_part.ensures (is ∙ entry_text c.args.a c.args.value _)) c.write.ensures.bytes
