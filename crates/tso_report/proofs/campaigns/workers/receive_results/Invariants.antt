use Rattle.tso_report.specs.Internal.Gathering.{KeepsSeeds}
use Rattle.tso_report.proofs.campaigns.workers.receive_results.Given as goal

abbrev pub invariant-loop : goal.invariant-loop
invariant-loop g l = KeepsSeeds l.fn.gathered l.gathered
