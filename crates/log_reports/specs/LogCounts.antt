-- What a log has, and of how much nothing is known.
use Rattle.std.specs.Prelude.{ℕ, ◌*◌, ◌-◌, Bool, nat_le, nat_lt, List, length, map}
use Rattle.std.specs.List.{flat_map}
use Rattle.log_text.specs.declared.logs.LogOperation.{LogOperation}
use Rattle.log_text.specs.LogValues.{NumberedLog}
use Rattle.log_selections.specs.Unwritten.{read_by}
use Rattle.log_reports.specs.declared.counts.LogCounts.{LogCounts}

abbrev pub operations_in : NumberedLog → List LogOperation
operations_in log = flat_map (map (λ x. x.operation)) log.lists

-- how many of these load, swaps among them
abbrev pub loads_of : List LogOperation → ℕ
loads_of operations = length (flat_map read_by operations)

-- what the log has, of the loads of which so many have a source that the values don't tell, and so many were passed over
abbrev pub counts_of : NumberedLog → ℕ → ℕ → LogCounts
counts_of log unknown repeated = record {
  processors = length log.lists;
  operations = length (operations_in log);
  loads = loads_of (operations_in log);
  unknown = unknown;
  repeated = repeated;
  left_out = log.left_out;
}

-- how many loads were looked at
abbrev pub looked_at : LogCounts → ℕ
looked_at counts = counts.loads - counts.repeated

-- Of those there is none the source of which the values tell, or that read what nothing wrote.
unfoldable pub is_nothing_judged : LogCounts → Bool
is_nothing_judged counts = nat_le (looked_at counts) counts.unknown

-- of a hundred of them more are unknown than this many
unfoldable pub is_too_unknown : ℕ → LogCounts → Bool
is_too_unknown percent counts = nat_lt (percent * looked_at counts) (counts.unknown * 100)
