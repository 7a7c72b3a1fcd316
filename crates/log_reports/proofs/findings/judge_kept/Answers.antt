use Rattle.std.proofs.Common.{IfSome, subst, sym}
use Rattle.log_selections.specs.Shown.{IsSelected}
use Rattle.trace_judging.proofs.ViolationFacts.{certified}
use Rattle.log_reports.proofs.findings.judge_kept.Goals as goal

pub returns-then-is_some-clause-found : goal.returns-then-is_some-clause-found
returns-then-is_some-clause-found g c = (
  subst (λ found. IfSome found (λ selected. IsSelected c.args.known.now selected.shown.items selected.trace)) c.in-Some.is c.in_ok-selected.ensures,
  certified c.in-Some.selected.trace c.in_ok-finding.finding.certificate c.in_ok-finding.ensures.found.certificate (sym c.if-is_some.ensures),
  c.in_ok-finding.ensures.found,
)
