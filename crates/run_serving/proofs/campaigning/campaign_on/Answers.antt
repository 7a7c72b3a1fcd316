use Rattle.std.proofs.Common.{inr, map, rules}
use Rattle.run_serving.specs.Campaigning.{LeavesCampaignText}
use Rattle.run_serving.proofs.CampaigningFacts.{campaign_is, leaves_campaign, untouched}
use Rattle.run_serving.proofs.campaigning.campaign_on.Goals as goal

pub campaign_over-requires-clause-untouched : goal.campaign_over-requires-clause-untouched
campaign_over-requires-clause-untouched g c κs within = untouched (λ unit. g.U.MemoryUnit.value_of unit) c.args.units.items c.args.options.now c.requires.units

pub returns-in_err-verdict-clause-fault : goal.returns-in_err-verdict-clause-fault
returns-in_err-verdict-clause-fault g c =
    let units = map (λ unit. g.U.MemoryUnit.value_of unit) c.args.units.items in
    let leaves : LeavesCampaignText c.args.options.now (g.W.Write.contents c.args.writer.now) (g.W.Write.contents c.campaign_over.new.writer) c.in_err-verdict.field-0.0 =
    leaves_campaign c.args.options.now c.args.plan units c.requires.plan c.requires.units _ _ c.in_err-verdict.field-0.0 c.in_err-verdict.ensures.fault in
    search (rules, leaves)

pub returns-clause-text : goal.returns-clause-text
returns-clause-text g c =
    let units = map (λ unit. g.U.MemoryUnit.value_of unit) c.args.units.items in
    let whole = c.in_ok-verdict.ensures.whole in
    rw c.status_of.ensures (
      whole.0,
      inr (inr (campaign_is c.args.options.now c.args.plan units c.requires.plan c.requires.units whole.0 c.in_ok-verdict.verdict whole.1)),
      whole.2,
    )
