use Rattle.std.proofs.Common.{◌∙◌, ap, subst}
use Rattle.log_text.specs.LogValues.{NumberedLog, log_value}
use Rattle.log_reports.specs.Findings.{AreFindings, AreWrittenIn, IsRepeatedCount, IsUnknownCount}
use Rattle.log_reports.specs.LogCounts.{counts_of}
use Rattle.log_reports.specs.LogReports.{verdict_of}
use Rattle.log_reports.specs.declared.forms.LogFound.{LogFound}
use Rattle.log_reports.specs.declared.counts.LogCounts.{LogCounts}
use Rattle.log_reports.proofs.reports.report_on.Goals as goal

pub returns-clause-report : goal.returns-clause-report
returns-clause-report g c bytes tagged =
    let findings = c.in_ok-findings.findings in
    let options = c.args.reporting.now.options in
    let said = g.P.Rendering.rendered c.args.reporting.now.rendering.now in
    let log = c.in_ok-known.ensures in
    let with_unknown : LogCounts → LogCounts = λ n. record n { unknown = findings.unknown; repeated = findings.repeated } in
    let with_counts : LogCounts → LogFound = λ n. record { options = options; counts = with_unknown n; findings = findings; tags = c.args.tags } in
    let counts = c.in_ok-counts.ensures ∙ ap (λ (v : NumberedLog). counts_of v c.ambiguous_loads-several.result 0) (c.log.ensures ∙ log) in
    record {
      findings = findings;
      found = subst (λ (v : NumberedLog). AreFindings v findings) log c.in_ok-findings.ensures.found;
      few = c.in_ok-findings.ensures.few;
      written = subst (λ (v : NumberedLog). AreWrittenIn v findings) log c.in_ok-findings.ensures.written;
      tags = c.args.tags;
      tagged = tagged;
      unknown = subst (λ (v : NumberedLog). IsUnknownCount v findings.unknown) log c.in_ok-findings.ensures.unknown;
      repeated = subst (λ (v : NumberedLog). IsRepeatedCount v findings.repeated) log c.in_ok-findings.ensures.repeated;
      says = c.in_ok-text_of_found.ensures ∙ ap (λ (v : NumberedLog). said v (with_counts c.in_ok-counts.counts)) log ∙ ap (λ n. said (log_value c.args.log) (with_counts n)) counts;
      gives = c.in_ok-verdict_of.ensures ∙ ap (λ n. verdict_of (with_counts n)) counts;
    }
