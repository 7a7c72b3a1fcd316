use Rattle.std.proofs.Common.{inr, ◌∙◌}
use Rattle.std.proofs.lemmas.Result.{IfOk-weaker}
use Rattle.trace_judging.proofs.ReaderFacts.{says_of_refused, says_of_spelled}
use Rattle.trace_judging.proofs.questions.answer_text.Goals as goal

-- what is said of the trace is said of the one that the text spells
pub returns-in-Ok-clause-says : goal.returns-in-Ok-clause-says
returns-in-Ok-clause-says g c =
    IfOk-weaker c.answer_trace.result _ _ (λ report says. says_of_spelled (λ t. g.Q.Question.says t report.verdict) c.args.input.now _ c.in-Ok.ensures.found says) c.answer_trace.ensures.says

-- what isn't spelled is refused, and what was rendered is rendered of that
pub returns-in_ok-render_refused-in-Err-clause-rendered : goal.returns-in_ok-render_refused-in-Err-clause-rendered
returns-in_ok-render_refused-in-Err-clause-rendered g c =
    let refused = c.in_ok-render_refused-in-Err.ensures.refused in
    inr (c.in-Err.fault.line, c.in-Err.fault.why, c.in-Err.ensures.refused refused.0, refused.1, refused.2 ∙ c.refusal-refusing.ensures)

pub returns-in_ok-render_refused-in-Err-clause-says : goal.returns-in_ok-render_refused-in-Err-clause-says
returns-in_ok-render_refused-in-Err-clause-says g c =
    let refused = c.in_ok-render_refused-in-Err.ensures.refused in
    says_of_refused (λ t. g.Q.Question.says t c.in_ok-render_refused-in-Err.field-0.verdict) c.args.input.now c.in-Err.fault.line c.in-Err.fault.why (c.in-Err.ensures.refused refused.0)
