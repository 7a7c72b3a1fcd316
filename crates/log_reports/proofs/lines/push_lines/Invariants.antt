use Rattle.std.proofs.Common.{◌≡◌, ◌++◌, drop, string_bytes}
use Rattle.log_reports.specs.Lines.{lines_text_after, log_lines_text}
use Rattle.log_reports.proofs.lines.push_lines.Given as goal

abbrev pub invariant-loop-s : goal.invariant-loop-s
invariant-loop-s l = string_bytes l.text ++ lines_text_after l.fn.tags l.before (drop l.s-index l.fn.shown) ≡ string_bytes l.fn.text ++ log_lines_text l.fn.tags l.fn.shown
