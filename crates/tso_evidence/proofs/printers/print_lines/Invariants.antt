use Rattle.std.proofs.Common.{◌+◌, ◌≤◌, take, string_bytes}
use Rattle.tso_evidence.proofs.PrintFacts.{ArePrinted}
use Rattle.tso_evidence.proofs.printers.print_lines.Given as goal

abbrev pub invariant-loop-line : goal.invariant-loop-line
invariant-loop-line l = ArePrinted (string_bytes l.fn.text) (string_bytes l.text) (take l.line-index l.lines) l.number × (l.number ≤ l.line-index + 1)
