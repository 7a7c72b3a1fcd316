-- What is found in a log.
use Rattle.std.specs.Prelude.{◌≡◌, ◌⊎◌, ◌≤◌, ◌+◌, ◌||◌, not, ℕ, Bool, true, false, []}
use Rattle.std.specs.List.{All, count_by}
use Rattle.line_text.specs.Lines.{is_empty}
use Rattle.tso_ops.specs.Events.{IsUnwritten}
use Rattle.trace_reports.specs.Findings.{IsFinding}
use Rattle.trace_reports.specs.Violations.{IsViolation}
use Rattle.log_text.specs.LogValues.{NumberedLog, log_operations}
use Rattle.log_selections.specs.Shown.{AreLinesOf, IsSelected}
use Rattle.log_selections.specs.Sources.{IsAmbiguousCount}
use Rattle.log_selections.specs.Unwritten.{IsUnwrittenLoad}
use Rattle.log_thinning.specs.IdleSwaps.{with_idle_swaps_read}
use Rattle.log_thinning.specs.Thinned.{operation_count, thinned}
use Rattle.value_evidence.specs.Evidence.{EvidenceHolds}
use Rattle.log_reports.specs.ValueViolations.{AreShownOf}
use Rattle.log_reports.specs.declared.findings.LogFindings.{LogFindings}
use Rattle.log_reports.specs.declared.findings.LogViolation.{LogViolation}
use Rattle.log_reports.specs.declared.findings.LogViolation.TheVariants.{Selection, Unwritten, ByValues}

-- Lines of the log, and a trace that is a selection of the log and of these lines alone; the trace is a violation. Or a load of the log that read what
-- nothing wrote. Or lines of the log, and evidence by values that holds of it, with its idle swaps read as loads.
abbrev pub IsListed : NumberedLog → LogViolation → Type 0
IsListed log (Selection selected finding) = IsSelected log selected.shown.items selected.trace × IsViolation selected.trace × IsFinding selected.trace finding
IsListed log (Unwritten load) = IsUnwrittenLoad log load
IsListed log (ByValues shown) = AreShownOf log shown × EvidenceHolds (log_operations (with_idle_swaps_read log)) shown.evidence

-- of the three kinds, the second
abbrev pub is_unwritten : LogViolation → Bool
is_unwritten (Selection selected finding) = false
is_unwritten (Unwritten load) = true
is_unwritten (ByValues shown) = false

-- the first
abbrev pub is_selection : LogViolation → Bool
is_selection (Selection selected finding) = true
is_selection (Unwritten load) = false
is_selection (ByValues shown) = false

-- the third
abbrev pub is_by_values : LogViolation → Bool
is_by_values (Selection selected finding) = false
is_by_values (Unwritten load) = false
is_by_values (ByValues shown) = true

-- What is listed are violations of the log, and what couldn't be judged are lines of it.
pub record AreFindings (log : NumberedLog) (findings : LogFindings) : Type 0 where
  pub listed : All (IsListed log) findings.violations.items
  pub unjudged : All (λ shown. AreLinesOf log.lists shown.items) findings.unjudged.items

-- No more of any kind are listed than this many.
pub record AreWithin (most : ℕ) (findings : LogFindings) : Type 0 where
  pub unwritten : count_by is_unwritten findings.violations.items ≤ most
  pub selections : count_by is_selection findings.violations.items ≤ most
  pub by_values : count_by is_by_values findings.violations.items ≤ most

-- No more loads are unknown than have several sources by their values.
abbrev pub IsUnknownCount : NumberedLog → ℕ → Type 0
IsUnknownCount log unknown = (ambiguous : ℕ) × IsAmbiguousCount log ambiguous × (unknown ≤ ambiguous)

-- So many loads are passed over: none, or those that are dropped of the log with its idle swaps read as loads, since they only repeat others.
abbrev pub IsRepeatedCount : NumberedLog → ℕ → Type 0
IsRepeatedCount log repeated =
    (repeated ≡ 0) ⊎ (repeated + operation_count (thinned (with_idle_swaps_read log)) ≡ operation_count (with_idle_swaps_read log))

-- Where nothing is listed, each load read what something wrote, or it is noted that one didn't.
abbrev pub AreWrittenIn : NumberedLog → LogFindings → Type 0
AreWrittenIn log findings = findings.violations.items ≡ [] → findings.has_unlisted ≡ false → (l : ℕ) → IsUnwritten (log_operations log) l → ⊥

-- something wasn't judged that should have been a violation
abbrev pub has_unjudged : LogFindings → Bool
has_unjudged findings = not (is_empty findings.unjudged.items) || findings.has_unlisted || findings.has_refused
