use Rattle.log_thinning.proofs.LineOrigins.{left_from, read_from}
use Rattle.log_thinning.proofs.laws.operations_of_logs.Goals as goal

pub returns : goal.returns
returns c = record { thinned = left_from; read = read_from }
