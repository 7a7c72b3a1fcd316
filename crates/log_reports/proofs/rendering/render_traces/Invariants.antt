use Rattle.std.proofs.Common.{◌≡◌, string_bytes, take}
use Rattle.std.specs.List.{flat_map}
use Rattle.log_reports.specs.LogTexts.{violation_trace_text}
use Rattle.log_reports.proofs.rendering.render_traces.Given as goal

abbrev pub invariant-loop-violation : goal.invariant-loop-violation
invariant-loop-violation l = string_bytes l.text ≡ flat_map (violation_trace_text l.fn.order) (take l.violation-index l.fn.findings.violations.items)
