use Rattle.line_text.proofs.ReadingFacts.{found_spelled, found_refused, only_spelled}
use Rattle.tso_cert.specs.Spelling.{IsCertTextRefusal}
use Rattle.tso_cert.proofs.SpellingFacts.{cert_reader}
use Rattle.tso_cert.proofs.readers.read_cert.Goals as goal

pub returns-clause-found : goal.returns-clause-found
returns-clause-found c = found_spelled cert_reader c.args.text.now c.read.result c.read.ensures.found

pub returns-clause-only : goal.returns-clause-only
returns-clause-only c d spells = only_spelled cert_reader c.args.text.now c.read.result c.read.ensures.found c.read.ensures.refused d spells

pub returns-clause-refused : goal.returns-clause-refused
unfolding IsCertTextRefusal
returns-clause-refused c = found_refused cert_reader c.args.text.now c.read.result c.read.ensures.refused
