use Rattle.std.proofs.Common.{arith, false, true}
use Rattle.log_reports.specs.Findings.{is_by_values, is_selection, is_unwritten}
use Rattle.log_reports.proofs.findings.LogFindings.list_unwritten.Goals as goal

pub loop-number-preserved : goal.loop-number-preserved
loop-number-preserved c = record {
  found = λ before. c.in_ok-list.ensures.found c.args.known.now c.in_ok-found.ensures.found (c.loop-number.invariant.found before);
  unwritten = omega (arith, c.in_ok-list.ensures.placed is_unwritten true c.in_ok-found.ensures.unwritten, c.loop-number.invariant.unwritten);
  selections = omega (arith, c.in_ok-list.ensures.placed is_selection false c.in_ok-found.ensures.selection, c.loop-number.invariant.selections);
  by_values = omega (arith, c.in_ok-list.ensures.placed is_by_values false c.in_ok-found.ensures.by_values, c.loop-number.invariant.by_values);
}

pub returns-then-not-branch-clause-found : goal.returns-then-not-branch-clause-found
returns-then-not-branch-clause-found c = λ before. c.in_ok-list.ensures.found c.args.known.now c.in_ok-found.ensures.found (c.loop-number.invariant.found before)

pub returns-then-not-branch-clause-unwritten : goal.returns-then-not-branch-clause-unwritten
returns-then-not-branch-clause-unwritten c = omega (arith, c.in_ok-list.ensures.placed is_unwritten true c.in_ok-found.ensures.unwritten, c.loop-number.invariant.unwritten)

pub returns-then-not-branch-clause-selections : goal.returns-then-not-branch-clause-selections
returns-then-not-branch-clause-selections c = omega (arith, c.in_ok-list.ensures.placed is_selection false c.in_ok-found.ensures.selection, c.loop-number.invariant.selections)

pub returns-then-not-branch-clause-by_values : goal.returns-then-not-branch-clause-by_values
returns-then-not-branch-clause-by_values c = omega (arith, c.in_ok-list.ensures.placed is_by_values false c.in_ok-found.ensures.by_values, c.loop-number.invariant.by_values)
