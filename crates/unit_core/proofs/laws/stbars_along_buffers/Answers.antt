use Rattle.unit_core.proofs.StbarFacts.{entries_in_order}
use Rattle.unit_core.proofs.laws.stbars_along_buffers.Goals as goal

pub returns : goal.returns
returns c = entries_in_order
