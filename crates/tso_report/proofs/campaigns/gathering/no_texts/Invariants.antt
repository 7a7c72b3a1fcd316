use Rattle.std.proofs.Common.{◌≡◌, [], replicate}
use Rattle.tso_ops.specs.Values.{rows}
use Rattle.tso_report.proofs.campaigns.gathering.no_texts.Given as goal

abbrev pub invariant-loop : goal.invariant-loop
invariant-loop l = rows l.texts.items ≡ replicate l.counter []
