use Rattle.run_text_orders.proofs.Numbered.{account_once}
use Rattle.run_text_orders.proofs.ReportTexts.{json_once, words_once}
use Rattle.run_text_orders.proofs.Stops.{followed_once, followed_or_refused, refusal_once}
use Rattle.run_text_orders.proofs.laws.texts_have_one_report.Goals as goal

pub returns-clause-account : goal.returns-clause-account
returns-clause-account c = account_once

pub returns-clause-followed : goal.returns-clause-followed
returns-clause-followed c = followed_once

pub returns-clause-never_both : goal.returns-clause-never_both
returns-clause-never_both c = followed_or_refused

pub returns-clause-refusal : goal.returns-clause-refusal
returns-clause-refusal c = refusal_once

pub returns-clause-words : goal.returns-clause-words
returns-clause-words c = words_once

pub returns-clause-json : goal.returns-clause-json
returns-clause-json c = json_once
