use Rattle.std.proofs.Common.{refl}
use Rattle.command_line.proofs.found.shape_numbers.Goals as goal

pub returns : goal.returns
returns c = rw (c.number.ensures, c.number-2.ensures, c.number-3.ensures) refl
