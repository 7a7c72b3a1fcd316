use Rattle.log_selections.proofs.CutSelections.{cut_selection}
use Rattle.log_selections.proofs.laws.cuts_are_selections.Goals as goal

pub returns : goal.returns
returns c log t cut = cut_selection log t cut
