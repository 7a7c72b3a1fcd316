use Rattle.std.proofs.Common.{◌∙◌}
use Rattle.std.proofs.lemmas.Result.{on_ok_weaker}
use Rattle.outcome_reports.proofs.LineFacts.{gets_one, read_text}
use Rattle.outcome_reports.proofs.lines.push_read.Goals as goal

pub returns : goal.returns
returns c =
    on_ok_weaker c.write.result (λ is. gets_one _ _ _ _ _ _ c.in_ok-begin_part.ensures (is ∙ read_text c.args.p c.args.number c.args.value _)) c.write.ensures.bytes
