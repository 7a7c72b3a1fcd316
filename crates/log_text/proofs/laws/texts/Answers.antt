use Rattle.log_text.proofs.TextFacts.{one_log, never_both}
use Rattle.log_text.proofs.laws.texts.Goals as goal

pub returns : goal.returns
returns c = record { one_log = one_log; never_both = never_both }
