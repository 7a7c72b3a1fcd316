-- Campaigns: the program and the schedule that a seed draws, what is said of a seed, and the text of a campaign.
use Rattle.std.specs.Prelude.{◌≡◌, ◌↔◌, ℕ, suc, ◌+◌, ◌<◌, ◌≤◌, Bool, IsTrue, true, false, ◌&&◌, List, [], ◌∷◌, ◌++◌, length, codes, map, Ok, Option}
use Rattle.std.specs.List.{concat, count_by, list_any}
use Rattle.std.specs.Fmt.{decimal}
use Rattle.std.specs.Io.KnownBytes.{Keeps}
use Rattle.rand_core.specs.Stream.{Stream}
use Rattle.rand_core.specs.Steps.{stream_of, steps_u64_low}
use Rattle.rand_core.specs.Pcg32Seed.{pcg32_seed}
use Rattle.rand_pcg.specs.Pcg.{pcg64, pcg64_of_seed}
use Rattle.issue_desk.specs.Running.{IsRunOf}
use Rattle.tso_ops.specs.declared.acts.Act.{Act}
use Rattle.tso_ops.specs.declared.settings.Order.{Order}
use Rattle.tso_ops.specs.declared.settings.Order.TheVariants.{Tso}
use Rattle.drawn_programs.specs.Making.{ShapeValue, after_words, made_program_with_order, size_of, words_of}
use Rattle.tso_ops.specs.Values.{ProgramValue, TraceValue}
use Rattle.tso_text.specs.Printed.{trace_text}
use Rattle.unit_core.specs.declared.accounts.Account.{Account}
use Rattle.unit_core.specs.Records.{RecordedValue, is_within}
use Rattle.unit_core.specs.Replays.{Replays}
use Rattle.unit_core.specs.Units.{UnitValue}
use Rattle.tso_report.specs.DrawnSchedules.{drawn_acts}
use Rattle.tso_report.specs.declared.campaigns.CampaignPlan.{CampaignPlan}
use Rattle.request_options.specs.declared.campaigns.CampaignPrinting.{CampaignPrinting}
use Rattle.request_options.specs.declared.campaigns.CampaignPrinting.TheVariants.{Lines, Traces}
use Rattle.request_options.specs.declared.campaigns.Execution.{Execution}
use Rattle.request_options.specs.declared.campaigns.Execution.TheVariants.{Threads, Replay}
use Rattle.text_streams.specs.declared.faults.Fault.{Fault}
use Rattle.text_streams.specs.declared.faults.Fault.TheVariants.{Read, Missing}
use Rattle.trace_reports.specs.declared.verdicts.Verdict.{Verdict}
use Rattle.trace_reports.specs.declared.verdicts.Verdict.TheVariants.{NoViolation, Violation}
use Rattle.trace_reports.specs.Verdicts.{verdict_line}
use Rattle.trace_reports.specs.Violations.{IsViolation}
use Rattle.text_streams.specs.WrittenTexts.{LeavesAtFault}

-- ---- the program and the schedule of a seed

-- what PCG64 gives from the seed
abbrev pub stream_from : ℕ → Stream
stream_from seed = stream_of (steps_u64_low pcg64) (pcg64_of_seed (pcg32_seed 32 seed))

-- the program of the shape that its words draw under the memory model
abbrev pub program_of_seed_with_order : Order → ShapeValue → ℕ → ProgramValue
program_of_seed_with_order order shape seed = made_program_with_order order shape (words_of (size_of shape) (stream_from seed))

-- that under TSO
abbrev pub program_of_seed : ShapeValue → ℕ → ProgramValue
program_of_seed shape seed = program_of_seed_with_order Tso shape seed

-- the schedule by which the program of the shape is replayed, drawn by the words after those of the program
abbrev pub schedule_of_seed : ShapeValue → ℕ → List Act
schedule_of_seed shape seed = drawn_acts shape (after_words (size_of shape) (stream_from seed))

-- the program of a seed
abbrev pub campaign_program : CampaignPlan → ℕ → ProgramValue
campaign_program plan seed = program_of_seed_with_order plan.order plan.shape seed

-- ---- what is said of a seed

-- the verdict on a trace, which is a violation or not
abbrev pub verdict_on : Bool → Verdict
verdict_on true = Violation
verdict_on false = NoViolation

-- whether a unit is lawful for programs of the memory model
abbrev pub is_lawful_under : Order → UnitValue → Bool
is_lawful_under order unit = unit.lawful && is_within unit.order order

-- it is the record of a replay of the program by the schedule, on this unit
abbrev pub IsRecordOfReplay : ProgramValue → List Act → UnitValue → RecordedValue → Type 0
IsRecordOfReplay program schedule unit r = (account : Account) × Replays program schedule unit account (Ok r)

-- the record of the seed's program on this unit: of a run with a thread per processor, or of a replay by the seed's schedule
abbrev pub IsRecordOfSeed : Execution → CampaignPlan → ℕ → UnitValue → RecordedValue → Type 0
IsRecordOfSeed (Threads turns) plan seed unit r = IsRunOf (campaign_program plan seed) unit r
IsRecordOfSeed Replay plan seed unit r = IsRecordOfReplay (campaign_program plan seed) (schedule_of_seed plan.shape seed) unit r

-- the trace that was recorded of a seed, and whether it is a violation
pub record SeedResult : Type 0 where
  pub trace : TraceValue
  pub violation : Bool

-- The trace is that of a record of the seed's program on this unit, executed as the plan says. It is told whether the trace is a violation, which it isn't
-- where the unit is lawful for programs of the plan's memory model.
pub record IsResultOfSeed (plan : CampaignPlan) (seed : ℕ) (unit : UnitValue) (result : SeedResult) : Type 0 where
  pub recorded : RecordedValue
  pub executed : IsRecordOfSeed plan.execution plan seed unit recorded
  pub of_record : result.trace ≡ recorded.trace
  pub says : IsTrue result.violation ↔ IsViolation result.trace
  pub no_false_alarm : is_lawful_under plan.order unit ≡ true → result.violation ≡ false

-- these are the results of the seeds from this one on, a seed for each unit
abbrev pub AreResultsFrom : CampaignPlan → ℕ → List UnitValue → List SeedResult → Type 0
AreResultsFrom plan seed [] [] = Unit {0}
AreResultsFrom plan seed [] (result ∷ results) = ⊥
AreResultsFrom plan seed (unit ∷ units) [] = ⊥
AreResultsFrom plan seed (unit ∷ units) (result ∷ results) = IsResultOfSeed plan seed unit result × AreResultsFrom plan (suc seed) units results

-- which of the results are violations
abbrev pub violations_of : List SeedResult → List Bool
violations_of results = map (λ result. result.violation) results

-- ---- the text

-- the line of a seed
abbrev pub seed_line : ℕ → Bool → List ℕ
seed_line seed violation = codes "seed " ++ decimal seed ++ codes " " ++ verdict_line violation

-- the lines of the seeds from this one on
abbrev pub seed_lines : ℕ → List Bool → List ℕ
seed_lines seed [] = []
seed_lines seed (violation ∷ violations) = seed_line seed violation ++ seed_lines (suc seed) violations

-- the last line: how many seeds, and how many of them are violations
abbrev pub campaign_total_line : List Bool → List ℕ
campaign_total_line violations = codes "seeds " ++ decimal (length violations) ++ codes " violations " ++ decimal (count_by (λ violation. violation) violations) ++ 10 ∷ []

-- the recorded traces, one after the other
abbrev pub recorded_traces_text : List SeedResult → List ℕ
recorded_traces_text results = concat (map (λ result. trace_text result.trace) results)

-- what is printed of the results of the seeds from the first on: a line for each and the last line, or the traces
abbrev pub campaign_text : CampaignPrinting → ℕ → List SeedResult → List ℕ
campaign_text Lines first results = seed_lines first (violations_of results) ++ campaign_total_line (violations_of results)
campaign_text Traces first results = recorded_traces_text results

-- The text is what the plan has printed of a campaign over these units. The verdict is Violation where a result is one, else NoViolation.
pub record IsCampaign (plan : CampaignPlan) (units : List UnitValue) (text : List ℕ) (verdict : Verdict) : Type 0 where
  pub results : List SeedResult
  pub are_results : AreResultsFrom plan plan.first units results
  pub whole : text ≡ campaign_text plan.printing plan.first results
  pub says : verdict ≡ verdict_on (list_any (λ violation. violation) (violations_of results))

-- What a fault leaves of such a text on so many seeds from the first on: on Write a prefix of the text, else nothing was written. A missing seed is one of
-- these. Nothing is read.
abbrev pub LeavesOfSeeds : {X : Type 0} → (List ℕ → X → Type 0) → (first count : ℕ) → Option (List ℕ) → Option (List ℕ) → Fault → Type 0
LeavesOfSeeds is_text first count old new Read = ⊥
LeavesOfSeeds is_text first count old new (Missing seed) = (first ≤ seed) × (seed < first + count) × Keeps old new
LeavesOfSeeds is_text first count old new fault = LeavesAtFault is_text old new fault

-- what a fault leaves of the campaign over these units
abbrev pub LeavesCampaign : CampaignPlan → List UnitValue → Option (List ℕ) → Option (List ℕ) → Fault → Type 0
LeavesCampaign plan units old new fault = LeavesOfSeeds (IsCampaign plan units) plan.first (length units) old new fault
