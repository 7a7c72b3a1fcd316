use Rattle.std.proofs.Common.{arith, false, true}
use Rattle.log_reports.specs.Findings.{is_by_values, is_selection, is_unwritten}
use Rattle.log_reports.proofs.findings.LogFindings.search_left.Goals as goal

pub returns-then-is_listed-clause-found : goal.returns-then-is_listed-clause-found
returns-then-is_listed-clause-found g c = λ before.
    let were = c.loop-is_again.invariant.found before in
    c.in_ok-list-in-Violation.ensures.found c.args.known.now c.in_ok-found-in-Violation.ensures.found (record { listed = were.listed; unjudged = were.unjudged })

pub returns-then-is_listed-clause-unwritten : goal.returns-then-is_listed-clause-unwritten
returns-then-is_listed-clause-unwritten g c = omega (arith, c.in_ok-list-in-Violation.ensures.placed is_unwritten false c.in_ok-found-in-Violation.ensures.unwritten, c.loop-is_again.invariant.unwritten)

pub returns-then-is_listed-clause-selections : goal.returns-then-is_listed-clause-selections
returns-then-is_listed-clause-selections g c = omega (arith, c.in_ok-list-in-Violation.ensures.placed is_selection false c.in_ok-found-in-Violation.ensures.selection, c.loop-is_again.invariant.selections)

pub returns-then-is_listed-clause-by_values : goal.returns-then-is_listed-clause-by_values
returns-then-is_listed-clause-by_values g c = omega (arith, c.in_ok-list-in-Violation.ensures.placed is_by_values true c.in_ok-found-in-Violation.ensures.by_values, c.loop-is_again.invariant.by_values)

pub loop-is_again-preserved : goal.loop-is_again-preserved
loop-is_again-preserved g c = record {
  found = λ before.
      let were = c.loop-is_again.invariant.found before in
      c.in_ok-list-in-Violation.ensures.found c.args.known.now c.in_ok-found-in-Violation.ensures.found (record { listed = were.listed; unjudged = were.unjudged });
  unwritten = omega (arith, c.in_ok-list-in-Violation.ensures.placed is_unwritten false c.in_ok-found-in-Violation.ensures.unwritten, c.loop-is_again.invariant.unwritten);
  selections = omega (arith, c.in_ok-list-in-Violation.ensures.placed is_selection false c.in_ok-found-in-Violation.ensures.selection, c.loop-is_again.invariant.selections);
  by_values = omega (arith, c.in_ok-list-in-Violation.ensures.placed is_by_values true c.in_ok-found-in-Violation.ensures.by_values, c.loop-is_again.invariant.by_values);
}
