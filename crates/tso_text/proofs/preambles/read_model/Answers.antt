use Rattle.std.proofs.Common.{sym, ◌∙◌}
use Rattle.std.proofs.lemmas.Result.{err_from_is_err_and}
use Rattle.tso_text.proofs.PreambleFacts.{model_read, model_refused, model_other}
use Rattle.tso_text.proofs.preambles.read_model.Goals as goal

pub returns-in_err-model_name-in-Ok-clause-refused : goal.returns-in_err-model_name-in-Ok-clause-refused
returns-in_err-model_name-in-Ok-clause-refused c =
    let p = err_from_is_err_and c.from_residual.result c.from_residual.ensures.1 in
    rw (p.1, p.2)
    (model_refused c.args.text.now c.in-Ok.line.now c.in-Ok.rest.now _ _ _ c.in-Ok.ensures.line c.next_token.ensures.tokens (rw (← c.as_slice.ensures) (sym c.eq.ensures ∙ c.if-eq.true)) (sym c.in_err-model_name-in-Ok.ensures))

pub returns-in_ok-model_name-in-Ok-clause-found : goal.returns-in_ok-model_name-in-Ok-clause-found
returns-in_ok-model_name-in-Ok-clause-found c =
    model_read c.args.text.now c.in-Ok.line.now c.in-Ok.rest.now _ _ c.in-Ok.ensures.line c.next_token.ensures.tokens (rw (← c.as_slice.ensures) (sym c.eq.ensures ∙ c.if-eq.true)) (sym c.in_ok-model_name-in-Ok.ensures) c.in-Ok.ensures.shorter

pub returns-else-eq-clause-found : goal.returns-else-eq-clause-found
returns-else-eq-clause-found c =
    model_other c.args.text.now c.in-Ok.line.now c.in-Ok.rest.now _ _ c.in-Ok.ensures.line c.next_token.ensures.tokens (rw (← c.as_slice.ensures) (sym c.eq.ensures ∙ c.if-eq.false))
