use Rattle.completeness.proofs.Decided.{inconsistent_iff, consistent_iff}
use Rattle.completeness.proofs.evidence.evidence_decides.Goals as goal

pub returns-clause-inconsistent : goal.returns-clause-inconsistent
returns-clause-inconsistent c = inconsistent_iff

pub returns-clause-consistent : goal.returns-clause-consistent
returns-clause-consistent c = consistent_iff
