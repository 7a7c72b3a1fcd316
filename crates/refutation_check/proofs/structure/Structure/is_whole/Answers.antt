use Rattle.refutation_check.proofs.StructureFacts.{whole_by_length, not_ended}
use Rattle.refutation_check.proofs.structure.Structure.is_whole.Goals as goal

pub returns-then-self : goal.returns-then-self
returns-then-self c = whole_by_length c.args.self.now.ended c.args.self.now.cases.items c.as_slice.result.now c.is_empty.result c.as_slice.ensures.value c.if-self.true c.is_empty.ensures

pub returns-else-self : goal.returns-else-self
returns-else-self c = not_ended c.args.self.now.ended c.args.self.now.cases.items c.if-self.false
