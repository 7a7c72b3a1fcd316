use Rattle.std.proofs.Common.{◌≡◌, ◌<◌, ℕ, None, false, get_or, length, map, rules, subst, sym, unwrap_or}
use Rattle.tso_ops.specs.Values.{rows}
use Rattle.tso_report.specs.Internal.Gathering.{AreKnown}
use Rattle.tso_report.proofs.CampaignFacts.{gathered-all}
use Rattle.tso_report.proofs.campaigns.gathering.Gathered.known.Goals as goal

pub returns-in_ok-verdicts-in-None-clause-known : goal.returns-in_ok-verdicts-in-None-clause-known
returns-in_ok-verdicts-in-None-clause-known g c units =
    let violations = c.self.inside.violations.items in
    let texts = rows c.self.inside.texts.items in
    let items : c.in_ok-verdicts-in-None.field-0.items ≡ map (λ violation. unwrap_or violation false) violations = search rules in
    let there : (i : ℕ) → i < length violations → get_or violations i None ≡ None → ⊥ = search rules in
    rw (← c.self.view_is) (λ count are. subst (λ verdicts. AreKnown c.self.inside.plan units verdicts texts) (sym items)
    (gathered-all g.S.SeedUnits.unit_of (record { plan = c.self.inside.plan; violations = violations; texts = texts }) c.self.invariant there units count are))
