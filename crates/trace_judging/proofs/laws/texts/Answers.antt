use Rattle.trace_reports.specs.Reports.{rendered_refusal, reported}
use Rattle.trace_reports.proofs.RenderingFacts.{one_text, same_verdict, some_text, violation_exactly}
use Rattle.trace_judging.proofs.laws.texts.Goals as goal

pub returns : goal.returns
returns c = record {
  exists = some_text;
  one = one_text;
  verdict = λ said refused input text report v w is other. same_verdict said reported refused rendered_refusal input text report v w is other;
  violation = violation_exactly;
}
