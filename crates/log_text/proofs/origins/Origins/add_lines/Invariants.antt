use Rattle.std.proofs.Common.{◌≡◌, ◌++◌}
use Rattle.std.specs.Prelude.{replicate}
use Rattle.log_text.proofs.origins.Origins.add_lines.Given as goal

abbrev pub invariant-loop-k : goal.invariant-loop-k
invariant-loop-k l = record {
  said : l.self.said ≡ l.fn.self.said;
  lines : l.self.lines.items ≡ l.fn.self.lines.items ++ replicate l._k l.fn.line;
  cut : l.self.cut ≡ l.fn.self.cut;
}
