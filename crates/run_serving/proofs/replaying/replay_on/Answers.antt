use Rattle.std.proofs.Common.{Ok, subst}
use Rattle.std.proofs.lemmas.Result.{IfOk-weaker}
use Rattle.unit_core.specs.Replays.{Replays}
use Rattle.run_serving.proofs.replaying.replay_on.Goals as goal

pub returns-clause-text : goal.returns-clause-text
returns-clause-text g c =
    let recorded = c.in_ok-recorded.recorded in
    let replays = subst (λ unit. Replays c.args.program.now c.args.schedule.now unit c.replay.new.account (Ok recorded)) c.requires.unit c.in_ok-recorded.ensures in
    IfOk-weaker c.print_record.result _ _ (λ printed is. record { recorded = recorded; account = c.replay.new.account; replays = replays; prints = is }) c.print_record.ensures.text
