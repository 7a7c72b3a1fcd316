-- What the arguments of a command line may ask for.
use Rattle.std.specs.Prelude.{◌≤◌, ◌^◌, ◌-◌, ℕ, Bool, true, false, List, [], ◌∷◌, count_by, is_none, map, Option, Some, None, IfSome, option_map, String, string_bytes}
use Rattle.command_line.specs.declared.requests.Request.{Request}
use Rattle.command_line.specs.declared.requests.TextPair.{TextPair}
use Rattle.command_line.specs.declared.requests.TextPair.TheVariants.{Files, InputAndFile, FileAndInput}
use Rattle.request_options.specs.declared.batches.BatchPrinting.{BatchPrinting}
use Rattle.command_line.specs.declared.options.CampaignOptions.{CampaignOptions}
use Rattle.request_options.specs.declared.following.FollowOptions.{FollowOptions}
use Rattle.request_options.specs.declared.logs.LogOptions.{LogOptions}
use Rattle.request_options.specs.declared.outcomes.OutcomeOptions.{OutcomeOptions}
use Rattle.command_line.specs.declared.options.MakeOptions.{MakeOptions}
use Rattle.command_line.specs.declared.options.Presentation.{Presentation}
use Rattle.command_line.specs.declared.options.Printing.{Printing}
use Rattle.command_line.specs.declared.options.Printing.TheVariants.{Report, Trace, Explanation}
use Rattle.command_line.specs.declared.options.RunOptions.{RunOptions}
use Rattle.command_line.specs.declared.options.UnitOptions.{UnitOptions}
use Rattle.command_line.specs.declared.requests.Request.TheVariants.{Judge, Decide, Reduce, Batch, Log, DecideLog, Follow, Check, Verify, VerifyLog, Outcomes, Seen, Replay, Run, RunTimes, Make, Campaign, Show, Refuse}

-- the bytes of a text
abbrev pub Text : Type 0
Text = List ℕ

module _ {Z : Type 0} where
  -- the texts of a list of arguments
  abbrev pub texts_in : List (String Z) → List Text
  texts_in = map string_bytes

-- the trace is to be printed, and not its report
abbrev pub prints_trace : Printing → Bool
prints_trace Report = false
prints_trace Trace = true
prints_trace Explanation = false

-- what is asked for; a text for which no file is named is on standard input
pub data Asked : Type 0 where
  -- to judge a trace with so many workers, and to present the verdict in this form: the only trace of a text, or the one of this number among those that
  -- stand in it one after the other
  judging : Presentation → Option Text → ℕ → Option ℕ → Asked
  -- to decide, with so many workers and after so many steps at most, whether a trace, the only one of a text or the one of this number, has an order that meets
  -- the axioms of its memory model, and to present the decision in this form
  deciding : Presentation → Option Text → ℕ → Option ℕ → ℕ → Asked
  -- to reduce a trace, the only one of a text or the one of this number, to a small one that shows its violation
  reducing : Option Text → Option ℕ → Asked
  -- to judge the traces of these texts, which stand one after the other, or to decide on them, with so many workers, and to print this of them
  batching : List (Option Text) → ℕ → BatchPrinting → Asked
  -- to find violations of a log, and to show so many at most in this form
  logging : Option Text → LogOptions → Asked
  -- to decide, after so many cases at most, whether a log has an order that meets the axioms of its memory model; it is refused without a line `end`, where
  -- that is needed
  deciding_log : Option Text → (effort : ℕ) → (needs_end : Bool) → Asked
  -- to follow a run that says its own order
  following : Option Text → FollowOptions → Asked
  -- to check against a trace, the first text or the trace of this number in it, a certificate, the second
  checking : Option Text → Option Text → Option ℕ → Asked
  -- to check evidence, the second text, of whether a trace, the first text or the trace of this number in it, has such an order
  verifying : Option Text → Option Text → Option ℕ → Asked
  -- to check evidence, the second text, of whether a log, the first, has such an order
  verifying_log : Option Text → Option Text → Asked
  -- to list the outcomes of a program with these options
  listing : Option Text → OutcomeOptions → Asked
  -- to count how often a stream of traces, the second text, has each trace of the runs of a program, the first, where they reach so many states at most
  counting : Option Text → Option Text → ℕ → Asked
  -- to replay a program, the first text, by a schedule, the second, with these options
  replaying : RunOptions → Option Text → Option Text → Asked
  -- to run a program with a thread per processor, with these options and this seed of the drains, beside a drainer that
  -- takes so many turns
  running : RunOptions → ℕ → ℕ → Option Text → Asked
  -- to run a program so many times with a thread per processor, on this unit, with this seed of the drains and then each with the next, beside a drainer that
  -- takes so many turns, and to print the trace of each
  repeating : UnitOptions → ℕ → ℕ → ℕ → Option Text → Asked
  -- to print the program made from a seed, or the schedule
  making : MakeOptions → Asked
  -- to run the programs made from the seeds of a campaign, and to judge the trace of each
  campaigning : CampaignOptions → Asked
  -- to print the help or the version
  showing : Asked
  -- nothing that the program does: the arguments are refused
  refusing : Asked

-- the files of two texts, none for one on standard input
abbrev pub files_of : TextPair → Option Text × Option Text
files_of (Files first second) = (Some first.now, Some second.now)
files_of (InputAndFile second) = (None, Some second.now)
files_of (FileAndInput first) = (Some first.now, None)

-- what a request asks for
abbrev pub asked_of : Request → Asked
asked_of (Judge judge) = judging judge.presentation (option_map (λ f. f.now) judge.file) judge.workers judge.nth
asked_of (Decide decide) = deciding decide.presentation (option_map (λ f. f.now) decide.file) decide.workers decide.nth decide.effort
asked_of (Reduce reduce) = reducing (option_map (λ f. f.now) reduce.file) reduce.nth
asked_of (Batch batch) = batching (map (option_map (λ f. f.now)) batch.texts.items) batch.workers batch.printing
asked_of (Log log) = logging (option_map (λ f. f.now) log.file) log.options
asked_of (DecideLog decide) = deciding_log (option_map (λ f. f.now) decide.file) decide.effort decide.needs_end
asked_of (Follow follow) = following (option_map (λ f. f.now) follow.file) follow.options
asked_of (Check check) = checking (files_of check.texts).0 (files_of check.texts).1 check.nth
asked_of (Verify check) = verifying (files_of check.texts).0 (files_of check.texts).1 check.nth
asked_of (VerifyLog texts) = verifying_log (files_of texts).0 (files_of texts).1
asked_of (Outcomes outcomes) = listing (option_map (λ f. f.now) outcomes.program) outcomes.options
asked_of (Seen seen) = counting (files_of seen.texts).0 (files_of seen.texts).1 seen.limit
asked_of (Replay options texts) = replaying options (files_of texts).0 (files_of texts).1
asked_of (Run run) = running run.options run.drain_seed run.drain_turns (option_map (λ f. f.now) run.program)
asked_of (RunTimes run) = repeating run.unit run.drain_seed run.drain_turns run.times (option_map (λ f. f.now) run.program)
asked_of (Make options) = making options
asked_of (Campaign options) = campaigning options
asked_of (Show text) = showing
asked_of (Refuse text) = refusing

-- the greatest number of workers
abbrev pub requested_worker_limit : ℕ
requested_worker_limit = 64

-- the greatest capacity of a store buffer, in entries
abbrev pub capacity_limit : ℕ
capacity_limit = 64

-- the greatest number of turns of a drainer
abbrev pub drain_turns_limit : ℕ
drain_turns_limit = 1000000

-- the greatest number of times that a program is run
abbrev pub run_times_limit : ℕ
run_times_limit = 1000000

-- the greatest number of violations of a log that are shown
abbrev pub log_violation_limit : ℕ
log_violation_limit = 1000000

-- the greatest effort of the search in a log
abbrev pub log_effort_limit : ℕ
log_effort_limit = 1000000

-- all of a hundred
abbrev pub percent_limit : ℕ
percent_limit = 100

-- the greatest number of 64 bits
abbrev pub number_limit : ℕ
number_limit = 2 ^ 64 - 1

-- ---- what is needed to do what is asked for

pub record Needs : Type 0 where
  -- the texts that are read, in their order: each in a file, or on standard input where none is named
  pub texts : List (Option Text)
  -- how many workers judge, or share the seeds of a campaign
  pub workers : Option ℕ
  -- the memory unit on which programs are run
  pub unit : Option UnitOptions
  -- where the one program that is run comes from: a file, or standard input where none is named
  pub program : Option (Option Text)

abbrev pub nothing_needed : Needs
nothing_needed = record { texts = []; workers = None; unit = None; program = None }

abbrev pub needs : Asked → Needs
needs (judging presentation file workers nth) = record nothing_needed { texts = file ∷ []; workers = Some workers }
needs (deciding presentation file workers nth effort) = record nothing_needed { texts = file ∷ []; workers = Some workers }
needs (reducing file nth) = record nothing_needed { texts = file ∷ [] }
needs (batching texts workers printing) = record nothing_needed { texts = texts; workers = Some workers }
needs (logging file options) = record nothing_needed { texts = file ∷ [] }
needs (deciding_log file effort needs_end) = record nothing_needed { texts = file ∷ [] }
needs (following file options) = record nothing_needed { texts = file ∷ [] }
needs (checking trace certificate nth) = record nothing_needed { texts = trace ∷ certificate ∷ [] }
needs (verifying trace evidence nth) = record nothing_needed { texts = trace ∷ evidence ∷ [] }
needs (verifying_log log evidence) = record nothing_needed { texts = log ∷ evidence ∷ [] }
needs (listing program options) = record nothing_needed { texts = program ∷ [] }
needs (counting program stream limit) = record nothing_needed { texts = program ∷ stream ∷ [] }
needs (replaying options program schedule) = record {
  texts = program ∷ schedule ∷ [];
  workers = Some options.workers;
  unit = Some options.unit;
  program = Some program;
}
needs (running options seed turns program) = record { texts = program ∷ []; workers = Some options.workers; unit = Some options.unit; program = Some program }
needs (repeating unit seed turns times program) = record nothing_needed { texts = program ∷ []; unit = Some unit; program = Some program }
needs (campaigning options) = record nothing_needed { workers = Some options.workers; unit = Some options.unit }
needs asked = nothing_needed

-- the number of workers is within its limits
abbrev pub HasWorkers : Asked → Type 0
HasWorkers asked = IfSome (needs asked).workers (λ workers. (1 ≤ workers) × (workers ≤ requested_worker_limit))

-- the options of a unit are within their ranges
abbrev pub HasUnitRanges : Asked → Type 0
HasUnitRanges asked = IfSome (needs asked).unit (λ unit. (1 ≤ unit.capacity) × (unit.capacity ≤ capacity_limit) × (1 ≤ unit.trigger))

-- a drainer takes no more turns than it may
abbrev pub HasDrainTurns : Asked → Type 0
HasDrainTurns (running options seed turns program) = turns ≤ drain_turns_limit
HasDrainTurns (repeating unit seed turns times program) = turns ≤ drain_turns_limit
HasDrainTurns asked = Unit {0}

-- the options of a log are within their ranges
abbrev pub HasLogRanges : Asked → Type 0
HasLogRanges (logging file options) = (1 ≤ options.most) × (options.most ≤ log_violation_limit) × (options.effort ≤ log_effort_limit) × (options.max_unknown ≤ percent_limit)
HasLogRanges asked = Unit {0}

-- standard input is at most one of the texts of a batch, since it can be read once
abbrev pub HasOneInput : Asked → Type 0
HasOneInput (batching texts workers printing) = count_by is_none texts ≤ 1
HasOneInput asked = Unit {0}
