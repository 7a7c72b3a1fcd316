-- The subcommands as values: the parameters of each, and what it asks for by their texts.
use Rattle.std.specs.Prelude.{◌==◌, ℕ, Bool, true, false, List, [], ◌∷◌, ◌++◌, Option, Some, None, codes, count_by, find, is_none, map, nat_le, option_and_then, zip, if◌then◌else◌}
use Rattle.std.specs.List.{list_any}
use Rattle.std.specs.Option.{option_map_or}
use Rattle.std.specs.Str.{bytes_eq}
use Rattle.command_line.specs.Parameters.{Parameter, any_text, flag, id_of, is_several, listed, option, optional, other, range, several}
use Rattle.request_options.specs.declared.logs.LogForm.{LogForm}
use Rattle.request_options.specs.declared.logs.LogForm.TheVariants.{Lines}
use Rattle.request_options.specs.declared.logs.LogOptions.{LogOptions}
use Rattle.request_options.specs.declared.outcomes.OutcomeForm.{OutcomeForm}
use Rattle.request_options.specs.declared.outcomes.OutcomeForm.TheVariants.{States, Traces}
use Rattle.request_options.specs.declared.outcomes.OutcomeOptions.{OutcomeOptions}
use Rattle.command_line.specs.declared.options.Presentation.{Presentation}
use Rattle.command_line.specs.declared.options.Presentation.TheVariants as form
use Rattle.command_line.specs.declared.options.RunOptions.{RunOptions}
use Rattle.command_line.specs.declared.parameters.NameList.{NameList}
use Rattle.command_line.specs.declared.parameters.NameList.TheVariants.{Units, Models, Formats, RunFormats}
use Rattle.command_line.specs.Pictures.{chosen_picture, edges, picture_form}
use Rattle.command_line.specs.Requests.{Text, Asked, batching, campaigning, capacity_limit, checking, counting, deciding, deciding_log, drain_turns_limit, following, judging, listing, log_effort_limit, log_violation_limit, logging, making, number_limit, percent_limit, prints_trace, reducing, refusing, repeating, replaying, run_times_limit, running, verifying, verifying_log, requested_worker_limit}
use Rattle.command_line.specs.Options.{batch_printing_of, campaign_printing_of, chosen_order, drain_turns_of, effort_of, execution_of, follow_options_of, given_number, given_shape, given_unit, is_true, log_options_of, number_or, outcome_form_of, pair_of, run_of, times_of, workers_of}

pub record Subcommand : Type 0 where
  pub name : Text
  pub parameters : List (Parameter NameList)
  -- what is asked for, by the text of the parameter of each name
  pub ask : (Text → Option Text) → Asked

-- the file that a text names; none where there is no text, or it is `-`: then standard input is meant
abbrev pub file_of : Option Text → Option Text
file_of text = option_and_then (λ t. if bytes_eq t (codes "-") then None else Some t) text

-- The texts of a batch that arguments name: standard input where none does. None where standard input would be several of them.
abbrev pub batch_texts : List Text → Option (List (Option Text))
batch_texts [] = Some (None ∷ [])
batch_texts (file ∷ files) =
    let texts = map (λ name. file_of (Some name)) (file ∷ files) in
    if nat_le (count_by is_none texts) 1 then Some texts else None

-- what is asked for, of these files where it is a batch
abbrev pub with_files : List Text → Asked → Asked
with_files files (batching none workers printing) = option_map_or (λ texts. batching texts workers printing) (batch_texts files) refusing
with_files files asked = asked

-- what is asked for, by the text of the parameter of each name and by those of the parameter of which there may be several
abbrev pub asks : Subcommand → (Text → Option Text) → List Text → Asked
asks c given files = if list_any is_several c.parameters then with_files files (c.ask given) else c.ask given

-- the text of the parameter of a name, by the texts of the parameters in their order
abbrev pub text_by_name : List (Parameter NameList) → List (Option Text) → Text → Option Text
text_by_name parameters texts name = option_and_then (λ p. p.1) (find (λ p. bytes_eq (id_of p.0) name) (zip parameters texts))

-- ---- parameters of several subcommands

-- `--workers N`: 1 where it is left out
abbrev pub workers : Parameter NameList
workers = option (codes "workers") (range 1 requested_worker_limit) (Some (codes "1"))

-- `--nth K`
abbrev pub nth : Parameter NameList
nth = optional (codes "nth") (range 1 number_limit)

-- `--effort N`: 100,000 steps where it is left out
abbrev pub effort : Parameter NameList
effort = option (codes "effort") (range 0 number_limit) (Some (codes "100000"))

-- `--verbose`
abbrev pub verbose : Parameter NameList
verbose = flag (codes "verbose")

-- `--progress`
abbrev pub progress : Parameter NameList
progress = flag (codes "progress")

-- `--unit UNIT [--capacity C] [--trigger T] [--workers N]`: a capacity of 8 and a trigger of 1 where they are left out
abbrev pub unit_parameters : List (Parameter NameList)
unit_parameters =
    option (codes "unit") (listed Units) None
    ∷ option (codes "capacity") (range 1 capacity_limit) (Some (codes "8"))
    ∷ option (codes "trigger") (range 1 number_limit) (Some (codes "1"))
    ∷ workers ∷ []

-- those, and `[--trace|--explain] [--with-trace] [--verbose]`
abbrev pub run_parameters : List (Parameter NameList)
run_parameters = unit_parameters ++ flag (codes "trace") ∷ flag (codes "explain") ∷ flag (codes "with-trace") ∷ verbose ∷ []

-- `--drain-turns T`: none where it is left out
abbrev pub drain_turns : Parameter NameList
drain_turns = option (codes "drain-turns") (range 0 drain_turns_limit) (Some (codes "0"))

-- `--times N`: once where it is left out
abbrev pub times : Parameter NameList
times = option (codes "times") (range 1 run_times_limit) (Some (codes "1"))

-- `[--most K] [--effort N] [--max-unknown PERCENT] [--ended] [--trace|--explain|--evidence|--decide] [--progress] [--verbose]`: 10 violations, an effort of 100 and
-- 100 of a hundred where they are left out
abbrev pub log_parameters : List (Parameter NameList)
log_parameters =
    option (codes "most") (range 1 log_violation_limit) (Some (codes "10"))
    ∷ option (codes "effort") (range 0 log_effort_limit) (Some (codes "100"))
    ∷ option (codes "max-unknown") (range 0 percent_limit) (Some (codes "100"))
    ∷ flag (codes "ended") ∷ flag (codes "trace") ∷ flag (codes "explain") ∷ flag (codes "evidence") ∷ flag (codes "decide") ∷ progress ∷ verbose ∷ []

-- `--name N`, which may not be left out
abbrev pub required : Text → Parameter NameList
required name = option name (range 0 number_limit) None

-- `--procs P --ops O --addrs A`
abbrev pub shape_parameters : List (Parameter NameList)
shape_parameters = map required (codes "procs" ∷ codes "ops" ∷ codes "addrs" ∷ [])

-- `--model MODEL`: TSO where it is left out
abbrev pub model : Parameter NameList
model = option (codes "model") (listed Models) (Some (codes "tso"))

-- `--format FORMAT`: words where it is left out
abbrev pub format : Parameter NameList
format = option (codes "format") (listed Formats) (Some (codes "words"))

-- ---- the subcommands

-- the verdict on a trace in this form
abbrev pub verdict_asked : Presentation → (Text → Option Text) → Asked
verdict_asked presentation given = judging presentation (file_of (given (codes "file"))) (workers_of given) (given_number (given (codes "nth")))

-- the decision on a trace in this form
abbrev pub decision_asked : Presentation → (Text → Option Text) → Asked
decision_asked presentation given = deciding presentation (file_of (given (codes "file"))) (workers_of given) (given_number (given (codes "nth"))) (effort_of given)

-- `judge [--workers N] [--nth K] [--verbose] [FILE]`: judges a file, or standard input, or of the traces that stand there one after the other that of a number
abbrev pub judge : Subcommand
judge = record {
  name = codes "judge";
  parameters = workers ∷ nth ∷ verbose ∷ other (codes "file") false ∷ [];
  ask = verdict_asked form.Report;
}

-- the verdict on a trace as `judge` has it, or the decision as `decide` has it where it is asked for, in this form
abbrev pub presented : Presentation → (Text → Option Text) → Asked
presented presentation given = if is_true (given (codes "decide")) then decision_asked presentation given else verdict_asked presentation given

-- `explain [--decide] [--effort N] [--workers N] [--nth K] [--verbose] [FILE]`: explains the verdict or the decision
abbrev pub explain : Subcommand
explain = record {
  name = codes "explain";
  parameters = flag (codes "decide") ∷ effort ∷ workers ∷ nth ∷ verbose ∷ other (codes "file") false ∷ [];
  ask = presented form.Explanation;
}

-- `draw [--edges NAMES] [--decide] [--effort N] [--workers N] [--nth K] [--verbose] [FILE]`: draws the verdict or the decision
abbrev pub draw : Subcommand
draw = record {
  name = codes "draw";
  parameters = edges ∷ explain.parameters;
  ask = λ given. option_map_or (λ presentation. presented presentation given) (picture_form (is_true (given (codes "decide"))) (chosen_picture (given (codes "edges")))) refusing;
}

-- `decide [--effort N] [--workers N] [--nth K] [--verbose] [FILE]`: decides on such a trace, after 100,000 steps at most where the effort is left out
abbrev pub decide : Subcommand
decide = record {
  name = codes "decide";
  parameters = effort ∷ workers ∷ nth ∷ verbose ∷ other (codes "file") false ∷ [];
  ask = decision_asked form.Report;
}

-- `reduce [--nth K] [--verbose] [FILE]`: reduces such a trace
abbrev pub reduce : Subcommand
reduce = record {
  name = codes "reduce";
  parameters = nth ∷ verbose ∷ other (codes "file") false ∷ [];
  ask = λ given. reducing (file_of (given (codes "file"))) (given_number (given (codes "nth")));
}

-- `batch [--workers N] [--format FORMAT] [--quiet] [--violations] [--decide] [--effort N] [--require N] [--progress] [--verbose] [FILE]...`: judges the traces that
-- stand one after the other in files, or on standard input, or decides on them
abbrev pub batch : Subcommand
batch = record {
  name = codes "batch";
  parameters =
      workers ∷ format ∷ flag (codes "quiet") ∷ flag (codes "violations") ∷ flag (codes "decide") ∷ effort
      ∷ optional (codes "require") (range 1 number_limit) ∷ progress ∷ verbose ∷ several (codes "file") ∷ [];
  ask = λ given. batching [] (workers_of given) (batch_printing_of given);
}

-- to decide on a log with the effort and the end of these options: a decision has one form
abbrev pub log_decision_asked : Option Text → LogOptions → LogForm → Asked
log_decision_asked file options Lines = deciding_log file options.effort options.needs_end
log_decision_asked file options _ = refusing

-- that, or to find violations of the log
abbrev pub log_asked : (decides : Bool) → Option Text → LogOptions → Asked
log_asked decides file options = if decides then log_decision_asked file options options.form else logging file options

-- `log [--most K] [--effort N] [--max-unknown PERCENT] [--ended] [--trace|--explain|--evidence|--decide] [--progress] [--verbose] [FILE]`: finds violations of the log in
-- a file, or on standard input, or decides on it
abbrev pub log : Subcommand
log = record {
  name = codes "log";
  parameters = log_parameters ++ other (codes "file") false ∷ [];
  ask = λ given. option_map_or (log_asked (is_true (given (codes "decide"))) (file_of (given (codes "file")))) (log_options_of given) refusing;
}

-- `follow [--most K] [--explain] [--format FORMAT] [--ended] [--fail-fast] [--progress] [--verbose] [LOG]`: follows the run in a file, or on standard input
abbrev pub follow : Subcommand
follow = record {
  name = codes "follow";
  parameters =
      option (codes "most") (range 1 log_violation_limit) (Some (codes "10")) ∷ flag (codes "explain")
      ∷ option (codes "format") (listed RunFormats) (Some (codes "words")) ∷ flag (codes "ended") ∷ flag (codes "fail-fast") ∷ progress ∷ verbose
      ∷ other (codes "file") false ∷ [];
  ask = λ given. following (file_of (given (codes "file"))) (follow_options_of given);
}

-- `check [--nth K] [--verbose] TRACE CERT`: checks a certificate against its trace, or against that of a number among those that stand one after the other
abbrev pub check : Subcommand
check = record {
  name = codes "check";
  parameters = nth ∷ verbose ∷ other (codes "trace") true ∷ other (codes "cert") true ∷ [];
  ask = λ given.
      option_map_or (λ texts. checking texts.0 texts.1 (given_number (given (codes "nth")))) (pair_of (file_of (given (codes "trace"))) (file_of (given (codes "cert")))) refusing;
}

-- to check evidence, the second text, against a log, which has no number, or on a trace
abbrev pub evidence_asked : (is_log : Bool) → Option ℕ → Option Text × Option Text → Asked
evidence_asked false nth texts = verifying texts.0 texts.1 nth
evidence_asked true None texts = verifying_log texts.0 texts.1
evidence_asked true (Some number) texts = refusing

-- `verify [--log] [--nth K] [--verbose] TRACE EVIDENCE`: checks evidence on a trace, or on that of a number among those that stand one after the other; with
-- `--log` the first text is a log, and the evidence is by values
abbrev pub verify : Subcommand
verify = record {
  name = codes "verify";
  parameters = flag (codes "log") ∷ nth ∷ verbose ∷ other (codes "trace") true ∷ other (codes "evidence") true ∷ [];
  ask = λ given.
      option_map_or (evidence_asked (is_true (given (codes "log"))) (given_number (given (codes "nth"))))
      (pair_of (file_of (given (codes "trace"))) (file_of (given (codes "evidence")))) refusing;
}

-- to count the outcomes of a stream: final states aren't asked for there, since a trace doesn't tell last values
abbrev pub counting_asked : OutcomeForm → (limit : ℕ) → (program : Option Text) → (stream : Option Text) → Asked
counting_asked States limit program stream = refusing
counting_asked Traces limit program stream = option_map_or (λ texts. counting texts.0 texts.1 limit) (pair_of program stream) refusing

-- to list outcomes, or to count those of a stream where one is named
abbrev pub outcomes_asked : OutcomeOptions → (program : Option Text) → (stream : Option Text) → Asked
outcomes_asked options program None = listing program options
outcomes_asked options program (Some name) = counting_asked options.form options.limit program (file_of (Some name))

-- `outcomes [--states] [--limit N] [--seen STREAM] [--verbose] PROGRAM`: lists the outcomes of a program, or counts those of a stream of traces; runs may
-- reach 1,000,000 states where the limit is left out
abbrev pub outcomes : Subcommand
outcomes = record {
  name = codes "outcomes";
  parameters =
      flag (codes "states") ∷ option (codes "limit") (range 1 number_limit) (Some (codes "1000000")) ∷ optional (codes "seen") any_text ∷ verbose
      ∷ other (codes "program") true ∷ [];
  ask = λ given.
      outcomes_asked (record { limit = number_or 1000000 (given (codes "limit")); form = outcome_form_of (is_true (given (codes "states"))) })
      (file_of (given (codes "program"))) (given (codes "seen"));
}

-- `replay --unit UNIT [--capacity C] [--trigger T] [--workers N] [--trace|--explain] [--with-trace] [--verbose] PROGRAM SCHEDULE`: replays a program by a
-- schedule
abbrev pub replay : Subcommand
replay = record {
  name = codes "replay";
  parameters = run_parameters ++ other (codes "program") true ∷ other (codes "schedule") true ∷ [];
  ask = λ given. option_map_or (λ options.
      option_map_or (λ texts. replaying options texts.0 texts.1) (pair_of (file_of (given (codes "program"))) (file_of (given (codes "schedule")))) refusing)
      (run_of given) refusing;
}

-- to run a program once with these options, or more times, where its traces are to be printed
abbrev pub run_asked : RunOptions → (seed turns times : ℕ) → Option Text → Asked
run_asked options seed turns times program =
    if times == 1 then running options seed turns program
    else if prints_trace options.printing then repeating options.unit seed turns times program
    else refusing

-- `run --unit UNIT [--capacity C] [--trigger T] [--workers N] [--trace|--explain] [--with-trace] [--verbose] --seed N [--drain-turns T] [--times N] PROGRAM`:
-- runs a program with a thread per processor, and no drainer where its turns are left out
abbrev pub run : Subcommand
run = record {
  name = codes "run";
  parameters = run_parameters ++ required (codes "seed") ∷ drain_turns ∷ times ∷ other (codes "program") true ∷ [];
  ask = λ given. option_map_or (λ options.
      run_asked options (number_or 0 (given (codes "seed"))) (drain_turns_of given) (times_of given)
      (file_of (given (codes "program")))) (run_of given) refusing;
}

-- `make [--schedule] [--model MODEL] --seed N --procs P --ops O --addrs A`: prints the program that a seed draws, or its schedule
abbrev pub make : Subcommand
make = record {
  name = codes "make";
  parameters = flag (codes "schedule") ∷ model ∷ required (codes "seed") ∷ shape_parameters;
  ask = λ given. making (record {
    order = chosen_order (given (codes "model"));
    seed = number_or 0 (given (codes "seed"));
    shape = given_shape given;
    schedule = is_true (given (codes "schedule"));
  });
}

-- `campaign --unit UNIT [--capacity C] [--trigger T] [--workers N] [--replay] [--drain-turns T] [--trace] [--progress] [--model MODEL] --first S --count K
-- --procs P --ops O --addrs A`: runs or replays the programs that many seeds draw
abbrev pub campaign : Subcommand
campaign = record {
  name = codes "campaign";
  parameters = unit_parameters ++ flag (codes "replay") ∷ drain_turns ∷ flag (codes "trace") ∷ progress ∷ model ∷ required (codes "first") ∷ required (codes "count") ∷ shape_parameters;
  ask = λ given. campaigning (record {
    unit = given_unit given;
    workers = workers_of given;
    execution = execution_of (is_true (given (codes "replay"))) (drain_turns_of given);
    printing = campaign_printing_of (is_true (given (codes "trace")));
    order = chosen_order (given (codes "model"));
    first = number_or 0 (given (codes "first"));
    count = number_or 0 (given (codes "count"));
    shape = given_shape given;
  });
}

abbrev pub subcommands : List Subcommand
subcommands =
    judge ∷ decide ∷ explain ∷ draw ∷ reduce ∷ batch ∷ log ∷ follow ∷ check ∷ verify ∷ outcomes ∷ replay ∷ run ∷ make ∷ campaign ∷ []
