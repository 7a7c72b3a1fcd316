-- What is shown of a violation by the values of a log.
use Rattle.std.specs.Prelude.{ℕ}
use Rattle.std.specs.List.{All, Contains}
use Rattle.log_text.specs.LogValues.{NumberedLog}
use Rattle.log_selections.specs.Shown.{IsLineOf}
use Rattle.log_selections.specs.Unwritten.{read_by}
use Rattle.log_reports.specs.declared.value_violations.ShownEvidence.{ShownEvidence}
use Rattle.log_reports.specs.declared.value_violations.ShownSources.{ShownSources}

-- A line of the log that loads this value, and lines of the log.
pub record AreSourcesOf (log : NumberedLog) (sources : ShownSources) : Type 0 where
  pub load : IsLineOf log.lists sources.load
  pub address : ℕ
  pub reads : Contains (read_by sources.load.logged.operation) (address, sources.value)
  pub before : All (IsLineOf log.lists) sources.before.items
  pub after : All (IsLineOf log.lists) sources.after.items

-- All that is shown are lines of the log.
pub record AreShownOf (log : NumberedLog) (shown : ShownEvidence) : Type 0 where
  pub cycle : All (IsLineOf log.lists) shown.cycle.items
  pub loads : All (AreSourcesOf log) shown.loads.items
