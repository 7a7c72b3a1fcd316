use Rattle.log_reports.proofs.RepeatedTags.{all_repeated}
use Rattle.log_reports.proofs.laws.tags.Goals as goal

pub returns : goal.returns
returns c = all_repeated
