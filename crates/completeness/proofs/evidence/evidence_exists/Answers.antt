use Rattle.completeness.proofs.StoreCases.{evidence}
use Rattle.completeness.proofs.evidence.evidence_exists.Goals as goal

pub returns : goal.returns
returns c = evidence
