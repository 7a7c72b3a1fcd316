use Rattle.std.proofs.Common.{◌≡◌, ◌++◌, codes, string_bytes, take}
use Rattle.log_reports.specs.LogTexts.{numbered_from, violation_text}
use Rattle.log_reports.proofs.rendering.push_numbered.Given as goal

abbrev pub invariant-loop-k : goal.invariant-loop-k
invariant-loop-k l = string_bytes l.text ≡ string_bytes l.fn.text ++ numbered_from (violation_text l.fn.explains l.fn.tags l.fn.processors) (codes "violation ") 1 (take l.k l.fn.violations)
