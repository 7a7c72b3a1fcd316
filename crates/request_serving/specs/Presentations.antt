-- What is said of a trace, by a verdict or a decision on it, of a log, of a run, and of an input that is refused, in the form that was asked for.
use Rattle.std.specs.Prelude.{ℕ, Bool, List}
use Rattle.tso_ops.specs.Values.{TraceValue}
use Rattle.command_line.specs.declared.options.Presentation.{Presentation}
use Rattle.command_line.specs.declared.options.Presentation.TheVariants.{Report, Explanation, Picture, FieldPicture}
use Rattle.trace_reports.specs.declared.findings.Finding.{Finding}
use Rattle.trace_reports.specs.Renderings.{RendersRefusal}
use Rattle.trace_reports.specs.Reports.{rendered_refusal, reported}
use Rattle.trace_explanation.specs.Explained.{explained, refusal_explained}
use Rattle.trace_pictures.specs.Pictured.{field_pictured, pictured}
use Rattle.trace_decisions.specs.declared.decisions.Decision.{Decision}
use Rattle.trace_decisions.specs.DecisionTexts.{decision_text}
use Rattle.decision_explanation.specs.Explained.{decision_explained}
use Rattle.decision_pictures.specs.Pictured.{decision_pictured}
use Rattle.request_options.specs.declared.logs.LogForm.{LogForm}
use Rattle.request_options.specs.declared.logs.LogForm.TheVariants as forms
use Rattle.request_options.specs.declared.following.FollowOptions.{FollowOptions}
use Rattle.request_options.specs.declared.following.RunFormat.{RunFormat}
use Rattle.request_options.specs.declared.following.RunFormat.TheVariants as run_formats
use Rattle.run_following.specs.JsonLines.{refused_json, run_json}
use Rattle.run_following.specs.Reports.{RendersRun}
use Rattle.run_following.specs.Words.{refused_words, run_words}
use Rattle.log_reports.specs.LogReports.{RendersLog}
use Rattle.log_reports.specs.LogRefusals.{log_refusal_explained}
use Rattle.log_reports.specs.LogTexts.{log_evidence_text, log_explained, log_lines, log_traces}

abbrev pub rendered_as : Presentation → TraceValue → Finding → List ℕ
rendered_as Report = reported
rendered_as Explanation = explained
rendered_as Picture = pictured
rendered_as FieldPicture = field_pictured

-- no decision is asked for with the names of the field: its picture would be the same
abbrev pub decided_as : Presentation → TraceValue → Decision → List ℕ
decided_as Report = decision_text
decided_as Explanation = decision_explained
decided_as Picture = decision_pictured
decided_as FieldPicture = decision_pictured

abbrev pub refused_as : Presentation → RendersRefusal
refused_as Report = rendered_refusal
refused_as Explanation = refusal_explained
refused_as Picture = rendered_refusal
refused_as FieldPicture = rendered_refusal

abbrev pub logged_as : LogForm → RendersLog
logged_as forms.Lines = log_lines
logged_as forms.Explained = log_explained
logged_as forms.Traces = log_traces
logged_as forms.Evidence = log_evidence_text

-- the refusal of a log is explained where its violations would be
abbrev pub log_refused_as : LogForm → RendersRefusal
log_refused_as forms.Lines = rendered_refusal
log_refused_as forms.Explained = log_refusal_explained
log_refused_as forms.Traces = rendered_refusal
log_refused_as forms.Evidence = rendered_refusal

abbrev pub run_rendered_in : RunFormat → Bool → RendersRun
run_rendered_in run_formats.Words explained = run_words explained
run_rendered_in run_formats.Json explained = run_json explained

-- a run that is followed, with or without sentences
abbrev pub followed_as : FollowOptions → RendersRun
followed_as options = run_rendered_in options.format options.is_explained

abbrev pub run_refused_in : RunFormat → RendersRefusal
run_refused_in run_formats.Words text = refused_words
run_refused_in run_formats.Json text = refused_json
