use Rattle.std.proofs.Common.{◌≡◌, ◌+◌, ◌<◌, ℕ, Some, length, rules, set, subst, sym}
use Rattle.std.proofs.lemmas.List.{map-set}
use Rattle.std.specs.Global.{Vec}
use Rattle.tso_ops.specs.Values.{rows}
use Rattle.tso_report.specs.Internal.Gathering.{IsGathered, IsKnown}
use Rattle.tso_report.proofs.CampaignFacts.{gathered-set}
use Rattle.tso_report.proofs.campaigns.gathering.Gathered.accept_verdict.Goals as goal

pub invariant_of-self : goal.invariant_of-self
invariant_of-self g c =
    let plan = c.self.inside.plan in
    let violations = c.self.inside.violations.items in
    let i = c.in-Some.i in
    let violation = c.into_parts-violation.result.0 in
    let text = c.into_parts-violation.result.1 in
    let unit_of = g.S.SeedUnits.unit_of in
    let same_plan : c.args.judged.plan ≡ plan = search rules in
    let same_seed : c.args.judged.seed ≡ plan.first + i = search rules in
    let inside : i < length violations = search rules in
    let known : IsKnown plan (plan.first + i) (unit_of (plan.first + i)) violation text.items =
    subst (λ seed. IsKnown plan seed (unit_of seed) violation text.items) same_seed
    (subst (λ p. IsKnown p c.args.judged.seed (unit_of c.args.judged.seed) violation text.items) same_plan c.into_parts-violation.ensures) in
    let put : rows (set c.self.inside.texts.items i text) ≡ set (rows c.self.inside.texts.items) i text.items = map-set (λ (row : Vec ℕ). row.items) c.self.inside.texts.items i text in
    subst (λ texts. IsGathered unit_of (record { plan = plan; violations = set violations i (Some violation); texts = texts })) (sym put)
    (gathered-set unit_of (record { plan = plan; violations = violations; texts = rows c.self.inside.texts.items }) i violation text.items inside known c.self.invariant)
