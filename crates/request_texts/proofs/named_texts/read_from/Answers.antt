use Rattle.request_texts.proofs.NthFacts.{whole_kept}
use Rattle.request_texts.proofs.named_texts.read_from.Goals as goal

pub returns-in_ok-read_all-in-None-clause-text : goal.returns-in_ok-read_all-in-None-clause-text
returns-in_ok-read_all-in-None-clause-text g c = rw c.in-None.is (whole_kept _ _ c.in_ok-read_all-in-None.ensures.prefix c.in_ok-read_all-in-None.ensures.within)
