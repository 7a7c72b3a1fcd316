use Rattle.std.proofs.Common.{refl}
use Rattle.command_line.proofs.found.batch_printing.Goals as goal

pub returns : goal.returns
returns c = rw (c.method_of.ensures, c.format.ensures, c.is_used.ensures, c.is_used-2.ensures, c.decision_effort.ensures, c.required.ensures) refl
