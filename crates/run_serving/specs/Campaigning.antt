-- What the program prints of campaigns.
use Rattle.std.specs.Prelude.{◌≡◌, ◌⊎◌, ℕ, ◌+◌, ◌≤◌, ◌^◌, List, [], ◌∷◌, ◌++◌, codes, replicate, Option}
use Rattle.drawn_programs.specs.Making.{IsShape}
use Rattle.command_line.specs.declared.options.CampaignOptions.{CampaignOptions}
use Rattle.tso_report.specs.Campaigns.{IsCampaign, LeavesOfSeeds}
use Rattle.tso_report.specs.declared.campaigns.CampaignPlan.{CampaignPlan}
use Rattle.text_streams.specs.declared.faults.Fault.{Fault}
use Rattle.tso_report.specs.Limits.{seed_count_limit}
use Rattle.trace_reports.specs.declared.verdicts.Verdict.{Verdict}
use Rattle.unit_core.specs.Units.{UnitValue}
use Rattle.run_serving.specs.MadePrograms.{IsShapeRefusal, asked_shape}
use Rattle.run_serving.specs.Printing.{unit_of}
use Rattle.trace_reports.specs.Statuses.{status_of}

-- the line of seeds past their limits
abbrev pub seeds_refusal : List ℕ
seeds_refusal = codes "REFUSED Seeds" ++ 10 ∷ []

-- The seeds from the first on, so many, are not too many, and numbers of 64 bits.
pub record AreSeeds (first count : ℕ) : Type 0 where
  pub most : count ≤ seed_count_limit
  pub last : first + count ≤ 2 ^ 64

-- the plan that the options ask for
abbrev pub asked_plan : CampaignOptions → CampaignPlan
asked_plan options = record {
  first = options.first;
  order = options.order;
  shape = asked_shape options.shape;
  execution = options.execution;
  printing = options.printing;
}

-- It is the plan that the options ask for, within the limits.
pub record IsPlanOf (options : CampaignOptions) (plan : CampaignPlan) : Type 0 where
  pub are : plan ≡ asked_plan options
  pub shape_kept : IsShape (asked_shape options.shape)
  pub seeds : AreSeeds options.first options.count

-- the units, one for each seed, as the options say
abbrev pub units_of : CampaignOptions → List UnitValue
units_of options = replicate options.count (unit_of options.unit)

-- The numbers are a shape, but the seeds aren't within their limits.
abbrev pub IsSeedsRefusal : CampaignOptions → List ℕ → ℕ → Type 0
IsSeedsRefusal options text status = IsShape (asked_shape options.shape) × (AreSeeds options.first options.count → ⊥) × (text ≡ seeds_refusal) × (status ≡ 2)

-- The text is that of a campaign by this plan, on units as the options say.
pub record IsCampaignOf (options : CampaignOptions) (text : List ℕ) (status : ℕ) : Type 0 where
  pub shape : IsShape (asked_shape options.shape)
  pub seeds : AreSeeds options.first options.count
  pub verdict : Verdict
  pub campaign : IsCampaign (asked_plan options) (units_of options) text verdict
  pub ends : status ≡ status_of verdict

-- What is printed of a campaign, and the status then.
abbrev pub IsCampaignText : CampaignOptions → List ℕ → ℕ → Type 0
IsCampaignText options text status =
    IsShapeRefusal options.shape text status ⊎ (IsSeedsRefusal options text status ⊎ IsCampaignOf options text status)

-- what a fault leaves of it
abbrev pub LeavesCampaignText : CampaignOptions → Option (List ℕ) → Option (List ℕ) → Fault → Type 0
LeavesCampaignText options old new fault = LeavesOfSeeds (IsCampaignText options) options.first options.count old new fault
