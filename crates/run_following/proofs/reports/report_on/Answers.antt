use Rattle.std.proofs.Common.{inl, subst}
use Rattle.run_following.specs.Found.{IsFoundIn}
use Rattle.run_following.specs.Internal.Endings.{EndsText}
use Rattle.run_following.proofs.reports.report_on.Goals as goal

pub returns-clause-report : goal.returns-clause-report
returns-clause-report g c options text most ends =
    let e = subst (λ r. EndsText options c.args.ending.stream r text) c.in_default.is ends in
    inl (
      e.0,
      e.2,
      record {
        found = c.in_ok-found.found;
        is = subst (λ n. IsFoundIn n e.0 c.in_ok-found.found) most (c.in_ok-found.ensures e.0 e.1);
        says = c.in_ok-text_of_found.ensures;
        gives = c.answer.ensures;
      },
    )
