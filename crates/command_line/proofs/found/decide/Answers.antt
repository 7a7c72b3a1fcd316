use Rattle.std.proofs.Common.{refl}
use Rattle.command_line.proofs.found.decide.Goals as goal

pub returns : goal.returns
returns c = rw (c.file.ensures, c.workers.ensures, c.nth.ensures, c.effort.ensures) refl
