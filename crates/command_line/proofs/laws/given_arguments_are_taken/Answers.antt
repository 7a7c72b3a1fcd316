use Rattle.std.proofs.Common.{refl}
use Rattle.command_line.specs.Spelled.{in_memory, names_at}
use Rattle.command_line.proofs.GivenParameters.{give_several, give_taken, give_texts}
use Rattle.command_line.proofs.laws.given_arguments_are_taken.Goals as goal

pub returns-clause-taken : goal.returns-clause-taken
returns-clause-taken c = λ s parameters offers pass arguments texts more give. give_taken in_memory names_at (λ list. refl) s parameters offers pass arguments texts more give

pub returns-clause-texts : goal.returns-clause-texts
returns-clause-texts c = λ s parameters offers pass arguments texts more give. give_texts in_memory names_at (λ list. refl) s parameters offers pass arguments texts more give

pub returns-clause-several : goal.returns-clause-several
returns-clause-several c = λ s parameters offers pass arguments texts more give. give_several in_memory names_at (λ list. refl) s parameters offers pass arguments texts more give
