use Rattle.std.proofs.Common.{◌∙◌, ap, inl, inr, rules, subst, sym, arith}
use Rattle.command_line.specs.Requests.{asked_of}
use Rattle.request_serving.specs.Endings.{Does, EndsOutOfMemory, Outputs, outputs}
use Rattle.request_serving.specs.LawfulRequests.{RunsLawfully, runs_on_lawful_unit}
use Rattle.request_texts.specs.OpenedFiles.{HasRefusedFirstText, OpensFirst, TakesInput, files_named, reads_input}
use Rattle.request_serving.proofs.FileFacts.{file_decided, file_judged, file_logged, files_checked}
use Rattle.request_serving.proofs.driving.drive_over.Goals as goal

pub returns-in-Ok-clause-ends : goal.returns-in-Ok-clause-ends
returns-in-Ok-clause-ends g c =
    let o : Outputs = outputs (g.W.Write.contents c.args.writer.now) (g.W.Write.contents c.serve.new.writer) (g.E.Write.contents c.args.errors.now) (g.E.Write.contents c.serve.new.errors) in
    let input = g.R.Read.remaining c.args.reader.now in
    let files = g.O.Environment.bytes c.args.files.now in
    let done = c.serve.ensures.ends in
    record {
      asked = λ asked asks. subst (λ a. Does a input files o c.serve.result) (c.in-Ok.ensures.asked asked asks) (inl done);
      helped = λ asks. subst (λ a. Does a input files o c.serve.result) (c.in-Ok.ensures.helped asks) (inl done);
      refused = λ refuses. subst (λ a. Does a input files o c.serve.result) (c.in-Ok.ensures.refused refuses) (inl done);
      parsed = inl (asked_of c.in-Ok.line.request, c.in-Ok.ensures.parsed, done);
    }

pub returns-in-Ok-clause-opened : goal.returns-in-Ok-clause-opened
returns-in-Ok-clause-opened g c = λ asked asks.
    subst (λ a. OpensFirst (g.O.Environment.opened c.args.files.now) (g.O.Environment.opened c.serve.new.files) (files_named a)) (c.in-Ok.ensures.asked asked asks) c.serve.ensures.first

pub returns-in-Err-clause-ends : goal.returns-in-Err-clause-ends
returns-in-Err-clause-ends g c =
    let o : Outputs = outputs (g.W.Write.contents c.args.writer.now) (g.W.Write.contents c.args.writer.now) (g.E.Write.contents c.args.errors.now) (g.E.Write.contents c.end_by.new.errors) in
    let memory : EndsOutOfMemory o c.end_by.result = search rules in
    record { asked = λ asked asks. inr memory; helped = λ asks. inr memory; refused = λ refuses. inr memory; parsed = inr memory }

pub returns-in-Ok-clause-unread_help : goal.returns-in-Ok-clause-unread_help
returns-in-Ok-clause-unread_help g c = λ asks. c.serve.ensures.unread (ap reads_input (c.in-Ok.ensures.helped asks))

pub returns-in-Ok-clause-unread_refusal : goal.returns-in-Ok-clause-unread_refusal
returns-in-Ok-clause-unread_refusal g c = λ refuses. c.serve.ensures.unread (ap reads_input (c.in-Ok.ensures.refused refuses))

pub returns-in-Ok-clause-taken : goal.returns-in-Ok-clause-taken
returns-in-Ok-clause-taken g c = λ asked asks reads other.
    let same = c.in-Ok.ensures.asked asked asks in
    subst (λ a. TakesInput a (g.R.Read.remaining c.args.reader.now) (g.R.Read.remaining c.serve.new.reader)) same (c.serve.ensures.taken (ap reads_input same ∙ reads) other)

pub returns-in-Err-clause-taken : goal.returns-in-Err-clause-taken
returns-in-Err-clause-taken g c = λ asked asks reads other. absurd (other c.end_by.ensures.status)

pub returns-in-Ok-clause-no_false_alarm : goal.returns-in-Ok-clause-no_false_alarm
returns-in-Ok-clause-no_false_alarm g c = λ asked asks lawful.
    c.serve.ensures.no_false_alarm (ap runs_on_lawful_unit (c.in-Ok.ensures.asked asked asks) ∙ lawful)

pub returns-in-Err-clause-no_false_alarm : goal.returns-in-Err-clause-no_false_alarm
returns-in-Err-clause-no_false_alarm g c = λ asked asks lawful three. omega (arith, c.end_by.ensures.status, three)

pub returns-in-Ok-clause-no_false_alarm_of_text : goal.returns-in-Ok-clause-no_false_alarm_of_text
returns-in-Ok-clause-no_false_alarm_of_text g c = λ asked asks lawful.
    c.serve.ensures.no_false_alarm_of_text (subst (λ a. RunsLawfully a (g.R.Read.remaining c.args.reader.now) (g.O.Environment.bytes c.args.files.now)) (sym (c.in-Ok.ensures.asked asked asks)) lawful)

pub returns-in-Err-clause-no_false_alarm_of_text : goal.returns-in-Err-clause-no_false_alarm_of_text
returns-in-Err-clause-no_false_alarm_of_text g c = λ asked asks lawful three. omega (arith, c.end_by.ensures.status, three)

pub returns-in-Ok-clause-unread_after_refusal : goal.returns-in-Ok-clause-unread_after_refusal
returns-in-Ok-clause-unread_after_refusal g c = λ asked asks refused.
    c.serve.ensures.unread_after_refusal (subst (λ a. HasRefusedFirstText a (g.O.Environment.bytes c.args.files.now)) (sym (c.in-Ok.ensures.asked asked asks)) refused)

pub returns-in-Ok-clause-judges : goal.returns-in-Ok-clause-judges
returns-in-Ok-clause-judges g c = file_judged _ _ _ _ _ (returns-in-Ok-clause-ends g c)

pub returns-in-Err-clause-judges : goal.returns-in-Err-clause-judges
returns-in-Err-clause-judges g c = file_judged _ _ _ _ _ (returns-in-Err-clause-ends g c)

pub returns-in-Ok-clause-decides : goal.returns-in-Ok-clause-decides
returns-in-Ok-clause-decides g c = file_decided _ _ _ _ _ (returns-in-Ok-clause-ends g c)

pub returns-in-Err-clause-decides : goal.returns-in-Err-clause-decides
returns-in-Err-clause-decides g c = file_decided _ _ _ _ _ (returns-in-Err-clause-ends g c)

pub returns-in-Ok-clause-checks : goal.returns-in-Ok-clause-checks
returns-in-Ok-clause-checks g c = files_checked _ _ _ _ _ (returns-in-Ok-clause-ends g c)

pub returns-in-Err-clause-checks : goal.returns-in-Err-clause-checks
returns-in-Err-clause-checks g c = files_checked _ _ _ _ _ (returns-in-Err-clause-ends g c)

pub returns-in-Ok-clause-finds : goal.returns-in-Ok-clause-finds
returns-in-Ok-clause-finds g c = file_logged _ _ _ _ _ (returns-in-Ok-clause-ends g c)

pub returns-in-Err-clause-finds : goal.returns-in-Err-clause-finds
returns-in-Err-clause-finds g c = file_logged _ _ _ _ _ (returns-in-Err-clause-ends g c)
