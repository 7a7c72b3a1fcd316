use Rattle.std.proofs.Common.{rules, string_bytes}
use Rattle.trace_reports.specs.Renderings.{IsRendered, IsTextOfBytes}
use Rattle.trace_judging.proofs.ReaderFacts.{spelled_by_all, text_of_reader}
use Rattle.text_streams.proofs.StreamFacts.{leaves_prefix}
use Rattle.trace_judging.proofs.questions.answer_reader.Goals as goal

-- what was rendered is rendered of what was read, and so of what the reader has
pub returns-clause-rendered : goal.returns-clause-rendered
returns-clause-rendered g c =
    let is_text = IsRendered (g.Q.Question.is_found c.args.question.now) g.Q.Question.answers (g.P.Rendering.rendered c.args.rendering.now) in
    let of_reader =
    text_of_reader is_text g.Q.Question.refusing (g.P.Rendering.refused c.args.rendering.now) (g.met.P.Rendering.whole c.args.rendering.now) (g.R.Read.remaining c.args.reader.now) _ c.deref.result.now _ _ c.in_ok-input.ensures.prefix c.deref.ensures.value c.in_ok-report.ensures.rendered in
    (string_bytes c.in_ok-report.report.text, of_reader, rw (← c.as_bytes.ensures.value) c.in_ok-write_text.ensures.whole)

pub returns-clause-says : goal.returns-clause-says
returns-clause-says g c =
    spelled_by_all (λ t. g.Q.Question.says t c.in_ok-report.report.verdict) (g.R.Read.remaining c.args.reader.now) _ c.deref.result.now c.in_ok-input.ensures.prefix c.deref.ensures.value c.in_ok-report.ensures.says

pub returns-in_err-write_text-clause-fault : goal.returns-in_err-write_text-clause-fault
returns-in_err-write_text-clause-fault g c =
    let is_text = IsRendered (g.Q.Question.is_found c.args.question.now) g.Q.Question.answers (g.P.Rendering.rendered c.args.rendering.now) in
    let of_reader =
    text_of_reader is_text g.Q.Question.refusing (g.P.Rendering.refused c.args.rendering.now) (g.met.P.Rendering.whole c.args.rendering.now) (g.R.Read.remaining c.args.reader.now) _ c.deref.result.now _ _ c.in_ok-input.ensures.prefix c.deref.ensures.value c.in_ok-report.ensures.rendered in
    let leaves = leaves_prefix (IsTextOfBytes is_text g.Q.Question.refusing (g.P.Rendering.refused c.args.rendering.now) (g.R.Read.remaining c.args.reader.now)) (g.W.Write.contents c.args.writer.now) (g.W.Write.contents c.write_text.new.writer) _ _ _ c.in_err-write_text.field-0.0 of_reader c.as_bytes.ensures.value c.in_err-write_text.ensures.prefix c.in_err-write_text.ensures.fault in
    search (rules, leaves)
