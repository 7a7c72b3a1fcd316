use Rattle.std.proofs.Common.{◌∙◌, Err, Ok, Result, ap₂, refl}
use Rattle.std.specs.Prelude.{OnOk}
use Rattle.trace_batches.specs.BatchLines.{unread_line}
use Rattle.trace_batches.specs.Batches.{unreadable_text}
use Rattle.trace_batches.proofs.WholeFacts.{left_out, left_out_some, none_of_text, whatever}
use Rattle.trace_batches.proofs.begun.Batch.leave_out.Goals as goal

-- what follows from both
on_ok_both : {T E A B C : Type 0} (result : Result T E) → (A → B → C) → OnOk result A → OnOk result B → OnOk result C
on_ok_both (Ok x) both first second = both first second
on_ok_both (Err e) both first second = tt

pub returns-in_err-label-clause-left : goal.returns-in_err-label-clause-left
returns-in_err-label-clause-left g c =
    whatever c.from_residual.result (none_of_text (unreadable_text _) c.args.self.now (g.W.Write.contents c.args.writer.now) (g.E.Write.contents c.args.errors.now))

pub returns-in_err-line-clause-left : goal.returns-in_err-line-clause-left
returns-in_err-line-clause-left g c =
    whatever c.from_residual-in_err-line.result (none_of_text (unreadable_text _) c.args.self.now (g.W.Write.contents c.args.writer.now) (g.E.Write.contents c.args.errors.now))

pub returns-clause-judged : goal.returns-clause-judged
returns-clause-judged g c =
    let line = c.as_bytes.ensures.value ∙ c.in_ok-line.ensures ∙ ap₂ unread_line c.last_format-format.ensures (c.as_str.ensures.value ∙ c.in_ok-label.ensures) in
    on_ok_both c.write_line.result (λ written noted. left_out _ c.args.self.now c.as_bytes.result.now line _ _ _ _ _ written noted refl refl refl) c.write_line.ensures.whole c.write_line.ensures.noted

pub returns-clause-left : goal.returns-clause-left
returns-clause-left g c =
    let line = c.as_bytes.ensures.value ∙ c.in_ok-line.ensures ∙ ap₂ unread_line c.last_format-format.ensures (c.as_str.ensures.value ∙ c.in_ok-label.ensures) in
    whatever c.write_line.result (left_out_some _ c.args.self.now c.as_bytes.result.now line _ _ _ _ c.write_line.ensures.prefix c.write_line.ensures.some)
