use Rattle.completeness.proofs.StoreCases.{evidence_by_stores}
use Rattle.completeness.proofs.evidence.store_cases_are_enough.Goals as goal

pub returns : goal.returns
returns c = evidence_by_stores
