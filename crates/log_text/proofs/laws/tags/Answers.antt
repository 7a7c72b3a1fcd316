use Rattle.log_text.proofs.TagFacts.{tag_follows, tags_ascii}
use Rattle.log_text.proofs.laws.tags.Goals as goal

pub returns : goal.returns
returns c = record { whole = tag_follows; ascii = tags_ascii }
