use Rattle.std.proofs.Common.{refl}
use Rattle.command_line.specs.Spelled.{in_memory, names_at}
use Rattle.command_line.proofs.GivenParameters.{wrong_value_refused}
use Rattle.command_line.proofs.laws.wrong_values_are_refused.Goals as goal

pub returns : goal.returns
returns c = λ s parameters offers pass arguments have. wrong_value_refused in_memory names_at (λ list. refl) s parameters offers pass arguments have
