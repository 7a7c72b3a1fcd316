use Rattle.std.proofs.Common.{◌≡◌, take}
use Rattle.std.specs.List.{concat}
use Rattle.tso_ops.specs.Values.{rows}
use Rattle.tso_report.proofs.campaigns.lines.joined.Given as goal

abbrev pub invariant-loop-text : goal.invariant-loop-text
invariant-loop-text l = l.joined.items ≡ concat (take l.text-index (rows l.texts))
