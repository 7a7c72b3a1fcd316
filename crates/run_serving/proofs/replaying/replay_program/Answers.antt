use Rattle.std.proofs.Common.{inl, subst, sym}
use Rattle.std.proofs.lemmas.Result.{IfOk-weaker}
use Rattle.tso_text.specs.Texts.{SpellsSchedule}
use Rattle.run_serving.proofs.replaying.replay_program.Goals as goal

pub returns-in-Ok-clause-text : goal.returns-in-Ok-clause-text
returns-in-Ok-clause-text g c =
    let spells = subst (SpellsSchedule c.args.input.now) (sym c.deref.ensures.value) c.in-Ok.ensures.found in
    IfOk-weaker c.replay_by.result _ _ (λ printed is. inl (c.deref.result.now, spells, is)) c.replay_by.ensures.text
