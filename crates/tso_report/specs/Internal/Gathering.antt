-- What is known of a campaign's seeds while their results come in.
use Rattle.std.specs.Prelude.{◌≡◌, ℕ, ◌+◌, ◌<◌, ◌≤◌, ◌^◌, Bool, false, List, [], ◌++◌, length, get_or, map, Option, None, Some}
use Rattle.std.specs.List.{concat}
use Rattle.tso_ops.specs.declared.settings.Order.TheVariants.{Tso}
use Rattle.tso_ops.specs.Values.{TraceValue}
use Rattle.tso_text.specs.Printed.{trace_text}
use Rattle.tso_report.specs.declared.campaigns.CampaignPlan.{CampaignPlan}
use Rattle.request_options.specs.declared.campaigns.CampaignPrinting.{CampaignPrinting}
use Rattle.request_options.specs.declared.campaigns.CampaignPrinting.TheVariants.{Lines, Traces}
use Rattle.issue_desk.specs.declared.faults.RunFault.{RunFault}
use Rattle.issue_desk.specs.declared.faults.RunFault.TheVariants as run
use Rattle.text_streams.specs.declared.faults.Fault.{Fault}
use Rattle.text_streams.specs.declared.faults.Fault.TheVariants.{OutOfMemory, NoThread, Missing}
use Rattle.unit_core.specs.Units.{UnitValue, new_unit}
use Rattle.tso_report.specs.Campaigns.{AreResultsFrom, IsResultOfSeed, SeedResult, campaign_total_line, seed_lines, violations_of}

-- the fault of a seed whose run gave no record
abbrev pub fault_of_seed : ℕ → RunFault → Fault
fault_of_seed seed run.OutOfMemory = OutOfMemory
fault_of_seed seed run.NoThread = NoThread
fault_of_seed seed (run.Torn p) = Missing seed
fault_of_seed seed run.OtherProgram = Missing seed

-- a unit that was never made
abbrev pub no_unit : UnitValue
no_unit = new_unit (record { kind = []; numbers = [] }) false Tso

-- What is kept of a trace for the text of a campaign: its own text, where traces are printed.
abbrev pub IsKept : CampaignPrinting → List ℕ → TraceValue → Type 0
IsKept Lines text trace = Unit {0}
IsKept Traces text trace = text ≡ trace_text trace

-- Whether the trace of the seed is a violation, and what is kept of it: there is a result of the seed that says so.
pub record IsKnown (plan : CampaignPlan) (seed : ℕ) (unit : UnitValue) (violation : Bool) (text : List ℕ) : Type 0 where
  pub trace : TraceValue
  pub is_result : IsResultOfSeed plan seed unit (record { trace = trace; violation = violation })
  pub is_kept : IsKept plan.printing text trace

-- what a job says of its seed
pub record JudgedValue : Type 0 where
  pub seed : ℕ
  pub plan : CampaignPlan
  pub violation : Bool
  pub text : List ℕ

-- a campaign's plan, the verdicts that came, and what is kept of their traces, a place for each seed
pub record GatheredValue : Type 0 where
  pub plan : CampaignPlan
  pub violations : List (Option Bool)
  pub texts : List (List ℕ)

-- The seeds are numbers of 64 bits. A verdict that came is that of its seed, of which this is the unit.
pub record IsGathered (unit_of : ℕ → UnitValue) (g : GatheredValue) : Type 0 where
  pub last : g.plan.first + length g.violations ≤ 2 ^ 64
  pub one_each : length g.texts ≡ length g.violations
  pub came : (i : ℕ) (violation : Bool) → i < length g.violations → get_or g.violations i None ≡ Some violation → IsKnown g.plan (g.plan.first + i) (unit_of (g.plan.first + i)) violation (get_or g.texts i [])

-- what is kept of the traces of results, where traces are printed
abbrev pub AreKept : CampaignPrinting → List (List ℕ) → List SeedResult → Type 0
AreKept Lines texts results = Unit {0}
AreKept Traces texts results = texts ≡ map (λ result. trace_text result.trace) results

-- These verdicts are those of the results of the campaign over these units, and this is kept of their traces.
pub record AreKnown (plan : CampaignPlan) (units : List UnitValue) (violations : List Bool) (texts : List (List ℕ)) : Type 0 where
  pub results : List SeedResult
  pub are_results : AreResultsFrom plan plan.first units results
  pub are_violations : violations ≡ violations_of results
  pub are_kept : AreKept plan.printing texts results

-- what is printed by verdicts and by what is kept of traces
abbrev pub text_by : CampaignPrinting → ℕ → List Bool → List (List ℕ) → List ℕ
text_by Lines first violations texts = seed_lines first violations ++ campaign_total_line violations
text_by Traces first violations texts = concat texts

-- these are the units of the seeds from this one on
abbrev pub AreUnitsFrom : (ℕ → UnitValue) → ℕ → List UnitValue → Type 0
AreUnitsFrom unit_of first units = (i : ℕ) → i < length units → get_or units i no_unit ≡ unit_of (first + i)

-- Only results came.
pub record KeepsSeeds (old new : GatheredValue) : Type 0 where
  pub plan : new.plan ≡ old.plan
  pub one_each : length new.violations ≡ length old.violations

-- No verdict of seed i came, and one of each before it.
pub record IsLeastMissing (violations : List (Option Bool)) (i : ℕ) : Type 0 where
  pub within : i < length violations
  pub missing : get_or violations i None ≡ None
  pub others : (j : ℕ) → j < i → get_or violations j None ≡ None → ⊥
