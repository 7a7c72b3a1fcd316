use Rattle.log_selections.proofs.CutSelections.{cut_selection}
use Rattle.log_selections.proofs.SelectionOrders.{selection_violation}
use Rattle.log_selections.proofs.laws.violations_of_cuts_are_violations.Goals as goal

pub returns : goal.returns
returns c log t cut none consistent = selection_violation log t (cut_selection log t cut) none consistent
