use Rattle.std.proofs.Common.{◌≡◌, ◌++◌, codes, string_bytes, take}
use Rattle.log_reports.specs.Lines.{log_lines_text}
use Rattle.log_reports.specs.LogTexts.{numbered_from}
use Rattle.log_reports.proofs.rendering.push_unjudged.Given as goal

abbrev pub invariant-loop-k : goal.invariant-loop-k
invariant-loop-k l = string_bytes l.text ≡ string_bytes l.fn.text ++ numbered_from (λ shown. log_lines_text l.fn.tags shown.items) (codes "unjudged ") 1 (take l.k l.fn.unjudged)
