-- What the texts of parameters stand for, by the name of each.
use Rattle.std.specs.Prelude.{◌&&◌, ◌||◌, ℕ, Bool, true, false, Option, Some, None, codes, is_some, max, min, option_and_then, option_map, unwrap_or, if◌then◌else◌}
use Rattle.std.specs.Option.{option_map_or}
use Rattle.std.specs.Str.{bytes_eq}
use Rattle.std.specs.Str.Parse.{digits_value, without_leading_plus}
use Rattle.clap.specs.ValueTests.{is_unsigned_in}
use Rattle.command_line.specs.Given.{value_named}
use Rattle.tso_ops.specs.declared.settings.Order.{Order}
use Rattle.tso_ops.specs.declared.settings.Order.TheVariants.{Tso}
use Rattle.request_options.specs.declared.batches.BatchFormat.{BatchFormat}
use Rattle.request_options.specs.declared.batches.BatchFormat.TheVariants.{Words}
use Rattle.request_options.specs.declared.batches.BatchMethod.{BatchMethod}
use Rattle.request_options.specs.declared.batches.BatchMethod.TheVariants.{Judge, Decide}
use Rattle.request_options.specs.declared.batches.BatchPrinting.{BatchPrinting}
use Rattle.request_options.specs.declared.campaigns.CampaignPrinting.{CampaignPrinting}
use Rattle.request_options.specs.declared.campaigns.CampaignPrinting.TheVariants.{Lines as PrintsLines, Traces as PrintsTraces}
use Rattle.request_options.specs.declared.campaigns.Execution.{Execution}
use Rattle.request_options.specs.declared.campaigns.Execution.TheVariants.{Replay, Threads}
use Rattle.request_options.specs.declared.outcomes.OutcomeForm.{OutcomeForm}
use Rattle.request_options.specs.declared.outcomes.OutcomeForm.TheVariants.{States, Traces}
use Rattle.command_line.specs.declared.options.Printing.{Printing}
use Rattle.request_options.specs.declared.following.FollowOptions.{FollowOptions}
use Rattle.request_options.specs.declared.following.RunFormat.{RunFormat}
use Rattle.request_options.specs.declared.following.RunFormat.TheVariants as in_run
use Rattle.request_options.specs.declared.logs.LogForm.{LogForm}
use Rattle.request_options.specs.declared.logs.LogForm.TheVariants as forms
use Rattle.request_options.specs.declared.logs.LogOptions.{LogOptions}
use Rattle.command_line.specs.declared.options.Printing.TheVariants.{Report, Trace, Explanation}
use Rattle.command_line.specs.declared.options.RunOptions.{RunOptions}
use Rattle.command_line.specs.declared.options.ShapeNumbers.{ShapeNumbers}
use Rattle.command_line.specs.declared.options.UnitKind.TheVariants.{Serial}
use Rattle.command_line.specs.declared.options.UnitOptions.{UnitOptions}
use Rattle.command_line.specs.declared.requests.Notes.{Notes}
use Rattle.command_line.specs.Names.{formats, models, run_formats, units}
use Rattle.command_line.specs.Requests.{Text, capacity_limit, drain_turns_limit, log_effort_limit, log_violation_limit, number_limit, percent_limit, requested_worker_limit, run_times_limit}

-- the number of 64 bits that a text spells, in digits after a plus sign or none; none where there is no text, or it spells none
abbrev pub given_number : Option Text → Option ℕ
given_number text = option_and_then (λ t. if is_unsigned_in 0 number_limit t then Some (digits_value 10 (without_leading_plus t)) else None) text

-- that number, and `default` where there is none
abbrev pub number_or : ℕ → Option Text → ℕ
number_or default text = unwrap_or (given_number text) default

-- The nearest number within the limits. An option takes no other; what `clap` says of all arguments doesn't say so.
abbrev pub within : ℕ → ℕ → ℕ → ℕ
within least most n = max least (min n most)

abbrev pub workers_of : (Text → Option Text) → ℕ
workers_of given = within 1 requested_worker_limit (number_or 1 (given (codes "workers")))

abbrev pub effort_of : (Text → Option Text) → ℕ
effort_of given = number_or 100000 (given (codes "effort"))

abbrev pub drain_turns_of : (Text → Option Text) → ℕ
drain_turns_of given = within 0 drain_turns_limit (number_or 0 (given (codes "drain-turns")))

abbrev pub times_of : (Text → Option Text) → ℕ
times_of given = within 1 run_times_limit (number_or 1 (given (codes "times")))

abbrev pub given_unit : (Text → Option Text) → UnitOptions
given_unit given = record {
  kind = unwrap_or (option_and_then (λ name. value_named name units) (given (codes "unit"))) Serial;
  capacity = within 1 capacity_limit (number_or 8 (given (codes "capacity")));
  trigger = within 1 number_limit (number_or 1 (given (codes "trigger")));
}

-- a flag is used
abbrev pub is_true : Option Text → Bool
is_true text = option_map_or (λ t. bytes_eq t (codes "true")) text false

-- nothing is told beside what is asked for
abbrev pub no_notes : Notes
no_notes = record { verbose = false; progress = false }

-- what is told beside what is asked for, by the text of the parameter of each name
abbrev pub notes_of : (Text → Option Text) → Notes
notes_of given = record { verbose = is_true (given (codes "verbose")); progress = is_true (given (codes "progress")) }

-- what a run prints, by whether the flags of trace and of explanation are used, of which one may be
abbrev pub printing_of : Bool → Bool → Option Printing
printing_of trace explain = if trace && explain then None else Some (if trace then Trace else if explain then Explanation else Report)

abbrev pub run_of : (Text → Option Text) → Option RunOptions
run_of given =
    option_map (λ printing. record { unit = given_unit given; workers = workers_of given; printing = printing; with_trace = is_true (given (codes "with-trace")) })
    (printing_of (is_true (given (codes "trace"))) (is_true (given (codes "explain"))))

abbrev pub chosen_format : Option Text → BatchFormat
chosen_format text = unwrap_or (option_and_then (λ name. value_named name formats) text) Words

-- by a decision with at most so many steps, where a number is given
abbrev pub method_of : Option ℕ → BatchMethod
method_of None = Judge
method_of (Some effort) = Decide effort

abbrev pub batch_printing_of : (Text → Option Text) → BatchPrinting
batch_printing_of given = record {
  method = method_of (if is_true (given (codes "decide")) then Some (effort_of given) else None);
  format = chosen_format (given (codes "format"));
  quiet = is_true (given (codes "quiet"));
  violations = is_true (given (codes "violations"));
  required = given_number (given (codes "require"));
}

-- the form in which violations are shown, by whether the flags of traces, of explanations and of evidence are used, of which one may be
abbrev pub log_form_of : (trace explain evidence : Bool) → Option LogForm
log_form_of false false false = Some forms.Lines
log_form_of true false false = Some forms.Traces
log_form_of false true false = Some forms.Explained
log_form_of false false true = Some forms.Evidence
log_form_of trace explain evidence = None

abbrev pub log_options_in : (Text → Option Text) → LogForm → LogOptions
log_options_in given form = record {
  most = within 1 log_violation_limit (number_or 10 (given (codes "most")));
  effort = within 0 log_effort_limit (number_or 100 (given (codes "effort")));
  max_unknown = within 0 percent_limit (number_or 100 (given (codes "max-unknown")));
  needs_end = is_true (given (codes "ended"));
  form = form;
}

abbrev pub log_options_of : (Text → Option Text) → Option LogOptions
log_options_of given =
    option_map (log_options_in given)
    (log_form_of (is_true (given (codes "trace"))) (is_true (given (codes "explain"))) (is_true (given (codes "evidence"))))

abbrev pub chosen_run_format : Option Text → RunFormat
chosen_run_format text = unwrap_or (option_and_then (λ name. value_named name run_formats) text) in_run.Words

abbrev pub follow_options_of : (Text → Option Text) → FollowOptions
follow_options_of given = record {
  most = within 1 log_violation_limit (number_or 10 (given (codes "most")));
  needs_end = is_true (given (codes "ended"));
  is_fast = is_true (given (codes "fail-fast"));
  format = chosen_run_format (given (codes "format"));
  is_explained = is_true (given (codes "explain"));
}

abbrev pub given_shape : (Text → Option Text) → ShapeNumbers
given_shape given = record {
  processors = number_or 0 (given (codes "procs"));
  operations = number_or 0 (given (codes "ops"));
  addresses = number_or 0 (given (codes "addrs"));
}

abbrev pub chosen_order : Option Text → Order
chosen_order text = unwrap_or (option_and_then (λ name. value_named name models) text) Tso

-- two texts, each in a file or on standard input; none where both would be there, which can be read once
abbrev pub pair_of : Option Text → Option Text → Option (Option Text × Option Text)
pair_of first second = if is_some first || is_some second then Some (first, second) else None

-- in which form outcomes are listed, by whether final states are asked for
abbrev pub outcome_form_of : Bool → OutcomeForm
outcome_form_of states = if states then States else Traces

-- how programs are executed, by whether a replay is asked for, and else with so many turns of a drainer
abbrev pub execution_of : Bool → ℕ → Execution
execution_of true drain_turns = Replay
execution_of false drain_turns = Threads drain_turns

-- what is printed of a campaign, by whether its traces are asked for
abbrev pub campaign_printing_of : Bool → CampaignPrinting
campaign_printing_of true = PrintsTraces
campaign_printing_of false = PrintsLines
