-- What contracts see of a log.
use Rattle.std.specs.Prelude.{ℕ, List, map}
use Rattle.tso_ops.specs.declared.ops.Outcome.{Outcome}
use Rattle.tso_ops.specs.declared.ops.Outcome.TheVariants.{Ld as OutcomeLd, St as OutcomeSt, Sw as OutcomeSw, Mb as OutcomeMb, Sb as OutcomeSb}
use Rattle.tso_ops.specs.declared.settings.Order.{Order}
use Rattle.tso_ops.specs.Settings.{setting_of_first}
use Rattle.tso_ops.specs.Values.{TraceValue, trace_of_lists, rows}
use Rattle.log_text.specs.declared.logs.Log.{Log}
use Rattle.log_text.specs.declared.logs.LogOperation.{LogOperation}
use Rattle.log_text.specs.declared.logs.LogOperation.TheVariants.{Ld, St, Sw, Mb, Sb}
use Rattle.log_text.specs.declared.logs.LoggedOperation.{LoggedOperation}

-- a log: its memory model, first values, the operations of processors 0, 1, .., each with its line, and how many more its text has
pub record NumberedLog : Type 0 where
  pub order : Order
  pub first : List (ℕ × ℕ)
  pub lists : List (List LoggedOperation)
  pub left_out : ℕ

abbrev pub log_value : Log → NumberedLog
log_value log = record { order = log.order; first = log.first.items; lists = rows log.lists.items; left_out = log.left_out }

-- The operation as one of a trace: a log's has any address of 64 bits.
abbrev pub logged_outcome : LogOperation → Outcome
logged_outcome (Ld a r) = OutcomeLd a r
logged_outcome (St a v) = OutcomeSt a v
logged_outcome (Sw a r v) = OutcomeSw a r v
logged_outcome Mb = OutcomeMb
logged_outcome Sb = OutcomeSb

abbrev pub logged_outcomes : List LoggedOperation → List Outcome
logged_outcomes operations = map (λ x. logged_outcome x.operation) operations

-- The log's memory model and first values, and the operations of each processor. No limit of a trace holds of them.
abbrev pub log_operations : NumberedLog → TraceValue
log_operations log = trace_of_lists (setting_of_first log.order log.first) (map logged_outcomes log.lists)
