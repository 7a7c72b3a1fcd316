use Rattle.std.proofs.Common.{refl}
use Rattle.command_line.proofs.found.reduce.Goals as goal

pub returns : goal.returns
returns c = rw (c.file.ensures, c.nth.ensures) refl
