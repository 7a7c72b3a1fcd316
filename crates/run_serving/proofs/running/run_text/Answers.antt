use Rattle.std.proofs.Common.{inl}
use Rattle.std.proofs.lemmas.Result.{IfOk-weaker}
use Rattle.run_serving.proofs.running.run_text.Goals as goal

pub returns-in-Ok-clause-text : goal.returns-in-Ok-clause-text
returns-in-Ok-clause-text g c = IfOk-weaker c.run_program.result _ _ (λ printed is. inl (c.in-Ok.program, c.in-Ok.ensures.found, is)) c.run_program.ensures.text
