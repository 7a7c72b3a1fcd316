use Rattle.std.proofs.Common.{arith, false, true}
use Rattle.log_reports.specs.Findings.{is_by_values, is_selection, is_unwritten}
use Rattle.log_reports.proofs.findings.LogFindings.consider.Goals as goal

pub returns-clause-found : goal.returns-clause-found
returns-clause-found g c = λ before. c.in_ok-list.ensures.found c.args.known.now c.in_ok-found.ensures.found (record { listed = before.listed; unjudged = before.unjudged })

pub returns-clause-unwritten : goal.returns-clause-unwritten
returns-clause-unwritten g c = omega (arith, c.in_ok-list.ensures.placed is_unwritten false c.in_ok-found.ensures.written)

pub returns-clause-selections : goal.returns-clause-selections
returns-clause-selections g c = omega (arith, c.in_ok-list.ensures.placed is_selection true c.in_ok-found.ensures.selection)

pub returns-clause-by_values : goal.returns-clause-by_values
returns-clause-by_values g c = omega (arith, c.in_ok-list.ensures.placed is_by_values false c.in_ok-found.ensures.by_values)
