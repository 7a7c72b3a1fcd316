use Rattle.run_text_orders.proofs.TextOrders.{text_order}
use Rattle.run_text_orders.proofs.Texts.{report_order}
use Rattle.run_text_orders.proofs.laws.texts_of_runs_have_orders.Goals as goal

pub returns-clause-spelled : goal.returns-clause-spelled
returns-clause-spelled c = text_order

pub returns-clause-reported : goal.returns-clause-reported
returns-clause-reported c = report_order
