use Rattle.std.proofs.Common.{inl}
use Rattle.std.proofs.lemmas.Result.{IfOk-weaker}
use Rattle.tso_text.proofs.TextLaws.{program_laws, schedule_laws}
use Rattle.request_texts.specs.OpenedFiles.{opened_bytes}
use Rattle.std.specs.Prelude.{option_map}
use Rattle.run_serving.specs.Replaying.{IsReplayOf}
use Rattle.run_serving.proofs.ReplayingFacts.{printed_as}
use Rattle.run_serving.proofs.replaying.replay_text.Goals as goal

pub returns-in_err-text-in-Ok-clause-unread_after_refusal : goal.returns-in_err-text-in-Ok-clause-unread_after_refusal
returns-in_err-text-in-Ok-clause-unread_after_refusal g c = λ refused. absurd (program_laws.not_both c.args.input.now c.in-Ok.program refused.0 refused.1 c.in-Ok.ensures.found refused.2)

pub returns-in_ok-text-in-Ok-clause-text : goal.returns-in_ok-text-in-Ok-clause-text
returns-in_ok-text-in-Ok-clause-text g c =
    let schedules = opened_bytes (option_map g.F.Read.remaining c.args.schedule) (g.R.Read.remaining c.args.reader.now) in
    IfOk-weaker c.replay_program.result _ _
    (λ printed is. inl (
      c.in-Ok.program,
      c.in-Ok.ensures.found,
      printed_as schedule_laws (IsReplayOf c.args.options.now c.in-Ok.program) schedules _ _ printed.text.items printed.status c.in_ok-text-in-Ok.ensures.prefix c.deref.ensures.value is,
    ))
    c.replay_program.ensures.text

pub returns-in_ok-text-in-Ok-clause-unread_after_refusal : goal.returns-in_ok-text-in-Ok-clause-unread_after_refusal
returns-in_ok-text-in-Ok-clause-unread_after_refusal g c = λ refused. absurd (program_laws.not_both c.args.input.now c.in-Ok.program refused.0 refused.1 c.in-Ok.ensures.found refused.2)
