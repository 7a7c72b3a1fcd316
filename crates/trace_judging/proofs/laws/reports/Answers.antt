use Rattle.std.proofs.Common.{refl}
use Rattle.trace_reports.specs.declared.verdicts.Verdict.TheVariants.{Violation}
use Rattle.trace_reports.specs.Reports.{rendered_refusal, reported}
use Rattle.trace_reports.proofs.RenderingFacts.{no_order, one_text, refused_exactly, shows_violation, some_text, violation_exactly}
use Rattle.trace_judging.proofs.laws.reports.Goals as goal

pub returns : goal.returns
returns c = record {
  exists = some_text reported rendered_refusal;
  one = one_text reported rendered_refusal;
  violation = violation_exactly reported rendered_refusal;
  no_order = λ input text report. no_order reported rendered_refusal input text Violation report refl;
  holds = λ input text report. shows_violation input text Violation report refl;
  refused = refused_exactly reported rendered_refusal;
}
