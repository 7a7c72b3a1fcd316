use Rattle.run_text_orders.proofs.Texts.{no_violation}
use Rattle.run_text_orders.proofs.laws.runs_that_hold_are_never_violations.Goals as goal

pub returns : goal.returns
returns c = no_violation
