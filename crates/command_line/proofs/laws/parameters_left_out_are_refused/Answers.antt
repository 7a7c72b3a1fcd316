use Rattle.std.proofs.Common.{refl}
use Rattle.command_line.specs.Spelled.{in_memory, names_at}
use Rattle.command_line.proofs.GivenParameters.{left_out_refused}
use Rattle.command_line.proofs.laws.parameters_left_out_are_refused.Goals as goal

pub returns : goal.returns
returns c = λ s parameters offers pass arguments leave. left_out_refused in_memory names_at (λ list. refl) s parameters offers pass arguments leave
