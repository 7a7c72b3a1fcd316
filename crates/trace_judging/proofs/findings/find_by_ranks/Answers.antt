use Rattle.std.proofs.Common.{sym, subst}
use Rattle.tso_model.specs.Ranks.{IsRounds}
use Rattle.trace_judging.proofs.ReportFacts.{finding_written}
use Rattle.trace_judging.proofs.findings.find_by_ranks.Goals as goal

pub returns-clause-found : goal.returns-clause-found
returns-clause-found g c = record {
  rounds = subst (IsRounds c.args.trace.now) (sym c.rounds.ensures) c.in_ok-ranked.ensures.ranked.rounds;
  certificate = finding_written c.args.trace.now c.in_ok-build_cert.field-0 c.requires.written c.in_ok-build_cert.ensures;
}
