use Rattle.line_text.proofs.ReadingFacts.{found_spelled, found_refused, only_spelled}
use Rattle.tso_evidence.specs.Spelling.{IsEvidenceTextRefusal}
use Rattle.tso_evidence.proofs.SpellingFacts.{evidence_reader}
use Rattle.tso_evidence.proofs.readers.read_evidence.Goals as goal

pub returns-clause-found : goal.returns-clause-found
returns-clause-found c = found_spelled evidence_reader c.args.text.now c.read.result c.read.ensures.found

pub returns-clause-only : goal.returns-clause-only
returns-clause-only c d spells = only_spelled evidence_reader c.args.text.now c.read.result c.read.ensures.found c.read.ensures.refused d spells

pub returns-clause-refused : goal.returns-clause-refused
unfolding IsEvidenceTextRefusal
returns-clause-refused c = found_refused evidence_reader c.args.text.now c.read.result c.read.ensures.refused
