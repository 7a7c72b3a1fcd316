use Rattle.std.proofs.Common.{◌∙◌, sym}
use Rattle.std.proofs.lemmas.Bool.{false≢true}
use Rattle.value_check.proofs.StructureFacts.{nothing_missing}
use Rattle.value_check.proofs.structure.Structure.is_whole.Goals as goal

pub returns-else-self : goal.returns-else-self
returns-else-self c = (
  λ ended. absurd (false≢true (sym c.if-self.false ∙ ended)),
  λ missing. (nothing_missing c.args.self.now.ended c.args.self.now.missing missing).0,
)
