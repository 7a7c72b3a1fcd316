-- The report on a log: what is printed for its text, and the verdict that it gives.
use Rattle.std.specs.Prelude.{◌≡◌, ◌⊎◌, ℕ, Bool, ◌&&◌, not, List, Option, cond}
use Rattle.line_text.specs.Lines.{is_empty}
use Rattle.tso_text.specs.declared.faults.Why.{Why}
use Rattle.text_streams.specs.Readings.{ReadsAs}
use Rattle.log_text.specs.LogTexts.{IsEndedAsNeeded, IsLogRefusal, SpellsLog}
use Rattle.log_text.specs.LogValues.{NumberedLog}
use Rattle.log_text.specs.Tags.{AreTagsOf}
use Rattle.log_text.specs.declared.tags.LineTags.{LineTags}
use Rattle.log_reports.specs.declared.findings.LogFindings.{LogFindings}
use Rattle.log_reports.specs.declared.forms.LogFound.{LogFound}
use Rattle.request_options.specs.declared.logs.LogOptions.{LogOptions}
use Rattle.trace_reports.specs.Renderings.{RendersRefusal}
use Rattle.trace_reports.specs.declared.answers.Answer.{Answer}
use Rattle.trace_reports.specs.declared.answers.Answer.TheVariants.{Clear, Undecided, Violation, Refused}
use Rattle.log_reports.specs.Findings.{AreFindings, AreWithin, AreWrittenIn, IsRepeatedCount, IsUnknownCount, has_unjudged}
use Rattle.log_reports.specs.LogCounts.{counts_of, is_nothing_judged, is_too_unknown}

-- The whole log was searched, what was found could be judged, some load was, and no larger share of the loads is unknown than allowed.
abbrev pub is_all_judged : LogFound → Bool
is_all_judged found =
    not found.findings.is_early && not (has_unjudged found.findings) && not (is_nothing_judged found.counts)
    && not (is_too_unknown found.options.max_unknown found.counts)

-- a violation where one is listed
abbrev pub verdict_of : LogFound → Answer
verdict_of found = cond (is_empty found.findings.violations.items) (cond (is_all_judged found) Clear Undecided) Violation

-- what is rendered of a log by what was found in it
abbrev pub RendersLog : Type 0
RendersLog = NumberedLog → LogFound → List ℕ

-- what was found in the log, and the tags of its lines
abbrev pub found_in : NumberedLog → LogOptions → LineTags → LogFindings → LogFound
found_in log options tags findings = record { options = options; counts = counts_of log findings.unknown findings.repeated; findings = findings; tags = tags }

-- The text is rendered of the log by what was found in it, and by the tags of these bytes, which spell it.
pub record IsReportOf (renders : RendersLog) (log : NumberedLog) (bytes : List ℕ) (options : LogOptions) (text : List ℕ) (verdict : Answer) : Type 0 where
  pub findings : LogFindings
  pub found : AreFindings log findings
  pub few : AreWithin options.most findings
  pub written : AreWrittenIn log findings
  pub tags : LineTags
  pub tagged : AreTagsOf bytes tags
  -- no more loads are said to be unknown than have several sources by their values
  pub unknown : IsUnknownCount log findings.unknown
  -- those that the search by values passed over only repeat others
  pub repeated : IsRepeatedCount log findings.repeated
  pub says : text ≡ renders log (found_in log options tags findings)
  pub gives : verdict ≡ verdict_of (found_in log options tags findings)

-- The text is rendered of the refusal of these bytes: they are no log, or lack the line `end` that is needed.
pub record IsRefusalOf (renders : RendersRefusal) (options : LogOptions) (bytes text : List ℕ) (verdict : Answer) : Type 0 where
  pub line : ℕ
  pub why : Why
  pub refused : IsLogRefusal options.needs_end bytes line why
  pub says : text ≡ renders bytes line why
  pub gives : verdict ≡ Refused

-- The text is a report on the log that these bytes spell, or refuses them.
abbrev pub IsLogReport : RendersLog → RendersRefusal → LogOptions → List ℕ → List ℕ → Answer → Type 0
IsLogReport renders refused options bytes text verdict =
    ((log : NumberedLog) × SpellsLog bytes log × IsEndedAsNeeded options.needs_end bytes × IsReportOf renders log bytes options text verdict)
    ⊎ IsRefusalOf refused options bytes text verdict

-- the same of the bytes of a reader
abbrev pub IsLogReportOfReader : RendersLog → RendersRefusal → LogOptions → Option (List ℕ) → List ℕ → Answer → Type 0
IsLogReportOfReader renders refused options remaining text verdict = ReadsAs remaining (λ bytes. IsLogReport renders refused options bytes text verdict)
