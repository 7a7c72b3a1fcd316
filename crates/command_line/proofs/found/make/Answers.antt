use Rattle.std.proofs.Common.{refl}
use Rattle.command_line.proofs.found.make.Goals as goal

pub returns : goal.returns
returns c = rw (c.order.ensures, c.number.ensures, c.shape_numbers.ensures, c.is_used.ensures) refl
