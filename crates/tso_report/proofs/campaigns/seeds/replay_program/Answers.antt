use Rattle.tso_report.proofs.CampaignFacts.{replay_recorded}
use Rattle.tso_report.proofs.campaigns.seeds.replay_program.Goals as goal

pub returns : goal.returns
returns g c = replay_recorded c.args.program.now c.args.schedule.now (g.U.MemoryUnit.value_of c.args.unit) c.replay_over.new.account c.replay_over.result c.replay_over.ensures
