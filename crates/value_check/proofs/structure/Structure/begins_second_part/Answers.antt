use Rattle.value_check.proofs.StructureFacts.{no_second_part}
use Rattle.value_check.proofs.structure.Structure.begins_second_part.Goals as goal

pub returns-then-not-self-clause-begins : goal.returns-then-not-self-clause-begins
returns-then-not-self-clause-begins c = λ rest. no_second_part c.args.self.now.ended c.args.self.now.missing rest c.if-not-self.true
