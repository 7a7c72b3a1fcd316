use Rattle.std.proofs.Common.{string_bytes}
use Rattle.trace_explanation.specs.Explained.{explained, refusal_explained}
use Rattle.trace_pictures.specs.Pictured.{field_pictured, pictured}
use Rattle.trace_reports.specs.Renderings.{IsTextOfInput}
use Rattle.trace_reports.specs.Reports.{rendered_refusal, reported}
use Rattle.trace_reports.specs.declared.verdicts.Verdict.TheVariants.{Refused}
use Rattle.request_serving.proofs.AskedFacts.{said_of_text}
use Rattle.request_serving.proofs.serving.judging.report_asked.Goals as goal

pub returns-in-Report-clause-said : goal.returns-in-Report-clause-said
returns-in-Report-clause-said g c =
    rw c.in-Report.is (said_of_text Refused (IsTextOfInput reported rendered_refusal) (λ r. string_bytes r.text) (λ r. r.verdict) c.args.asked c.in-Some.input c.deref.result.now c.in-Some.is c.deref.ensures.value c.answer_text.result c.answer_text.ensures.rendered)

pub returns-in-Explanation-clause-said : goal.returns-in-Explanation-clause-said
returns-in-Explanation-clause-said g c =
    let answer = c.answer_text-in-Explanation in
    rw c.in-Explanation.is (said_of_text Refused (IsTextOfInput explained refusal_explained) (λ r. string_bytes r.text) (λ r. r.verdict) c.args.asked c.in-Some.input c.deref-in-Explanation.result.now c.in-Some.is c.deref-in-Explanation.ensures.value answer.result answer.ensures.rendered)

pub returns-in-Picture-clause-said : goal.returns-in-Picture-clause-said
returns-in-Picture-clause-said g c =
    let answer = c.answer_text-in-Picture in
    rw c.in-Picture.is (said_of_text Refused (IsTextOfInput pictured rendered_refusal) (λ r. string_bytes r.text) (λ r. r.verdict) c.args.asked c.in-Some.input c.deref-in-Picture.result.now c.in-Some.is c.deref-in-Picture.ensures.value answer.result answer.ensures.rendered)

pub returns-clause-said : goal.returns-clause-said
returns-clause-said g c =
    let answer = c.answer_text-in-FieldPicture in
    rw c.in-FieldPicture.is (said_of_text Refused (IsTextOfInput field_pictured rendered_refusal) (λ r. string_bytes r.text) (λ r. r.verdict) c.args.asked c.in-Some.input c.deref-in-FieldPicture.result.now c.in-Some.is c.deref-in-FieldPicture.ensures.value answer.result answer.ensures.rendered)
