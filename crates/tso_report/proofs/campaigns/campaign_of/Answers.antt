use Rattle.std.proofs.Common.{◌∙◌, rules, arith, map, subst, sym}
use Rattle.std.proofs.lemmas.List.{length-map}
use Rattle.std.specs.List.{list_any}
use Rattle.tso_ops.specs.Values.{rows}
use Rattle.tso_report.specs.Campaigns.{IsCampaign, LeavesCampaign, verdict_on}
use Rattle.tso_report.specs.Internal.Gathering.{AreKnown, text_by}
use Rattle.text_streams.specs.Streams.{AppendsPrefix}
use Rattle.text_streams.specs.WrittenTexts.{WritesPrefix}
use Rattle.tso_report.proofs.CampaignFacts.{came-all, campaign_by, known_count}
use Rattle.tso_report.proofs.campaigns.campaign_of.Goals as goal

pub campaign_text-requires : goal.campaign_text-requires
campaign_text-requires g c =
    let units = map (λ unit. g.U.MemoryUnit.value_of unit) c.args.units.items in
    let count = sym (length-map c.args.units.items (λ unit. g.U.MemoryUnit.value_of unit)) in
    let known : AreKnown c.args.plan units c.in_ok-known.known.violations.items (rows c.in_ok-known.known.texts.items) =
    came-all c.args.plan units g.S.SeedUnits.unit_of c.in_ok-gathered.gathered c.in_ok-gathered-2.gathered c.in_ok-known.known.violations.items (rows c.in_ok-known.known.texts.items)
    (c.in_ok-gathered.ensures.0, (let made = c.in_ok-gathered.ensures.1 in let len = c.len.ensures in let items = c.args.units.ok.0 in omega (arith, made, len, items, count))) c.in_ok-gathered-2.ensures.seeds
    c.requires.units c.in_ok-known.ensures.known in
    let each = known_count c.args.plan units c.in_ok-known.known.violations.items (rows c.in_ok-known.known.texts.items) known in
    omega (arith, c.requires.last, each, count)

pub returns-clause-whole : goal.returns-clause-whole
returns-clause-whole g c =
    let units = map (λ unit. g.U.MemoryUnit.value_of unit) c.args.units.items in
    let count = sym (length-map c.args.units.items (λ unit. g.U.MemoryUnit.value_of unit)) in
    let known : AreKnown c.args.plan units c.in_ok-known.known.violations.items (rows c.in_ok-known.known.texts.items) =
    came-all c.args.plan units g.S.SeedUnits.unit_of c.in_ok-gathered.gathered c.in_ok-gathered-2.gathered c.in_ok-known.known.violations.items (rows c.in_ok-known.known.texts.items)
    (c.in_ok-gathered.ensures.0, (let made = c.in_ok-gathered.ensures.1 in let len = c.len.ensures in let items = c.args.units.ok.0 in omega (arith, made, len, items, count))) c.in_ok-gathered-2.ensures.seeds
    c.requires.units c.in_ok-known.ensures.known in
    let campaign = campaign_by c.args.plan units c.in_ok-known.known.violations.items (rows c.in_ok-known.known.texts.items) known in
    search (rules, campaign)

pub returns-in_err-write_text-clause-fault : goal.returns-in_err-write_text-clause-fault
returns-in_err-write_text-clause-fault g c =
    let units = map (λ unit. g.U.MemoryUnit.value_of unit) c.args.units.items in
    let count = sym (length-map c.args.units.items (λ unit. g.U.MemoryUnit.value_of unit)) in
    let text = text_by c.args.plan.printing c.args.plan.first c.in_ok-known.known.violations.items (rows c.in_ok-known.known.texts.items) in
    let verdict = verdict_on (list_any (λ violation. violation) c.in_ok-known.known.violations.items) in
    let known : AreKnown c.args.plan units c.in_ok-known.known.violations.items (rows c.in_ok-known.known.texts.items) =
    came-all c.args.plan units g.S.SeedUnits.unit_of c.in_ok-gathered.gathered c.in_ok-gathered-2.gathered c.in_ok-known.known.violations.items (rows c.in_ok-known.known.texts.items)
    (c.in_ok-gathered.ensures.0, (let made = c.in_ok-gathered.ensures.1 in let len = c.len.ensures in let items = c.args.units.ok.0 in omega (arith, made, len, items, count))) c.in_ok-gathered-2.ensures.seeds
    c.requires.units c.in_ok-known.ensures.known in
    let is_text : IsCampaign c.args.plan units text verdict = campaign_by c.args.plan units c.in_ok-known.known.violations.items (rows c.in_ok-known.known.texts.items) known in
    let prefix : WritesPrefix (IsCampaign c.args.plan units) (g.W.Write.contents c.args.writer.now) (g.W.Write.contents c.write_text.new.writer) =
    (verdict, text, is_text, subst (λ t. AppendsPrefix (g.W.Write.contents c.args.writer.now) (g.W.Write.contents c.write_text.new.writer) t) (c.deref.ensures.value ∙ c.in_ok-text.ensures) c.in_err-write_text.ensures.prefix) in
    let leaves : LeavesCampaign c.args.plan units (g.W.Write.contents c.args.writer.now) (g.W.Write.contents c.write_text.new.writer) c.in_err-write_text.field-0.0 =
    rw c.in_err-write_text.ensures.fault prefix in
    search (rules, leaves)
