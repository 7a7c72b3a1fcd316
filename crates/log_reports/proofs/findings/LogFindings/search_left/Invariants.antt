use Rattle.std.proofs.Common.{◌≡◌, ◌+◌}
use Rattle.std.specs.List.{count_by}
use Rattle.log_reports.specs.Findings.{AreFindings, is_by_values, is_selection, is_unwritten}
use Rattle.log_reports.proofs.findings.LogFindings.search_left.Given as goal

abbrev pub invariant-loop-is_again : goal.invariant-loop-is_again
invariant-loop-is_again g l = record {
  found : AreFindings l.fn.known l.fn.self → AreFindings l.fn.known l.self;
  unwritten : count_by is_unwritten l.self.violations.items ≡ count_by is_unwritten l.fn.self.violations.items;
  selections : count_by is_selection l.self.violations.items ≡ count_by is_selection l.fn.self.violations.items;
  by_values : count_by is_by_values l.self.violations.items + l.places ≡ count_by is_by_values l.fn.self.violations.items + l.fn.options.most;
}
