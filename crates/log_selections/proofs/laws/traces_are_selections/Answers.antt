use Rattle.log_selections.proofs.OwnCuts.{own_cut}
use Rattle.log_selections.proofs.TraceLogs.{own_selection}
use Rattle.log_selections.proofs.laws.traces_are_selections.Goals as goal

pub returns : goal.returns
returns c = record { selection = own_selection; cut = λ t source trace sources. own_cut t source trace sources }
