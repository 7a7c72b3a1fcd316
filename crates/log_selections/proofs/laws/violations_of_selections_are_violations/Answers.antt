use Rattle.log_selections.proofs.SelectionOrders.{selection_violation}
use Rattle.log_selections.proofs.laws.violations_of_selections_are_violations.Goals as goal

pub returns : goal.returns
returns c log t selection none right = selection_violation log t selection none right
