use Rattle.std.proofs.Common.{◌≡◌, ◌++◌, ◌-◌, take, drop}
use Rattle.run_lines.specs.Tags.{before_tag}
use Rattle.run_lines.proofs.tags.without_tag.Given as goal

abbrev pub invariant-loop-i : goal.invariant-loop-i
invariant-loop-i l = take (l.i - 1) l.line ++ before_tag (drop (l.i - 1) l.line) ≡ before_tag l.line
