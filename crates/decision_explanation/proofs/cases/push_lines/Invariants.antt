use Rattle.std.proofs.Common.{◌≡◌, ◌++◌, ◌+◌, ◌≤◌, drop, string_bytes}
use Rattle.decision_explanation.specs.Cases.{refutation_lines_text}
use Rattle.decision_explanation.specs.InForce.{beginning}
use Rattle.decision_explanation.specs.Internal.Standings.{IsKept, standing_of}
use Rattle.decision_explanation.proofs.cases.push_lines.Given as goal

abbrev pub invariant-loop-line : goal.invariant-loop-line
invariant-loop-line l = record {
  kept : IsKept l.state;
  next : l.state.next ≤ l.line-index + 1;
  said : string_bytes l.text ++ refutation_lines_text l.named (standing_of l.state) (drop l.line-index l.lines) ≡ string_bytes l.fn.text ++ refutation_lines_text l.named beginning l.lines;
}
