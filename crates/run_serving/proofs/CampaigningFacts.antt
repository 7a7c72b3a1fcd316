-- Lemmas on what is printed of campaigns.
use Rattle.std.proofs.Common.{◌≡◌, ◌∙◌, ℕ, All, List, [], Option, arith, length, get_or, map, replicate, ap, refl, subst, sym, inr}
use Rattle.std.proofs.lemmas.List.{get_or-map, get_or-replicate, length-map, length-replicate}
use Rattle.command_line.specs.declared.options.CampaignOptions.{CampaignOptions}
use Rattle.tso_report.specs.Campaigns.{IsCampaign, LeavesCampaign}
use Rattle.tso_report.specs.declared.campaigns.CampaignPlan.{CampaignPlan}
use Rattle.text_streams.specs.declared.faults.Fault.{Fault}
use Rattle.text_streams.specs.declared.faults.Fault.TheVariants.{Write, Missing}
use Rattle.trace_reports.specs.declared.verdicts.Verdict.{Verdict}
use Rattle.unit_core.specs.Units.{UnitValue}
use Rattle.run_serving.specs.Campaigning.{IsPlanOf, IsCampaignOf, LeavesCampaignText, units_of}
use Rattle.run_serving.specs.Printing.{unit_of}
use Rattle.trace_reports.specs.Statuses.{status_of}

-- ---- the units of a campaign

-- none has taken a step
pub untouched : {X : Type 0} (f : X → UnitValue) (xs : List X) (options : CampaignOptions) → map f xs ≡ replicate options.count (unit_of options.unit) → All (λ x. (f x).steps ≡ []) xs
untouched f xs options are = λ k d within.
    let count = sym (length-map xs f) ∙ ap length are ∙ length-replicate options.count (unit_of options.unit) in
    let is = sym (get_or-map f xs k d (f d) within) ∙ ap (λ us. get_or us k (f d)) are ∙ get_or-replicate options.count k (unit_of options.unit) (f d) (omega (arith, within, count)) in
    ap (λ (u : UnitValue). u.steps) is

-- ---- the text of a campaign

module _ (options : CampaignOptions) (plan : CampaignPlan) (units : List UnitValue) (asked : IsPlanOf options plan) (same : units ≡ units_of options) where
  -- the campaign of these options
  pub campaign_is : (text : List ℕ) (verdict : Verdict) → IsCampaign plan units text verdict → IsCampaignOf options text (status_of verdict)
  campaign_is text verdict is = record {
    shape = asked.shape_kept;
    seeds = asked.seeds;
    verdict = verdict;
    campaign = subst (λ p. IsCampaign p (units_of options) text verdict) asked.are (subst (λ l. IsCampaign plan l text verdict) same is);
    ends = refl;
  }

  -- what a fault leaves of it
  pub leaves_campaign : (old new : Option (List ℕ)) (fault : Fault) → LeavesCampaign plan units old new fault → LeavesCampaignText options old new fault
  leaves_campaign old new Write leaves = (status_of leaves.0, leaves.1, inr (inr (campaign_is leaves.1 leaves.0 leaves.2)), leaves.3)
  leaves_campaign old new (Missing seed) leaves =
      let count = ap length same ∙ length-replicate options.count (unit_of options.unit) in
      let first : plan.first ≡ options.first = ap (λ (p : CampaignPlan). p.first) asked.are in
      (omega (arith, leaves.0, first), omega (arith, leaves.1, count, first), leaves.2)
  leaves_campaign old new fault leaves = leaves
