use Rattle.std.proofs.Common.{refl}
use Rattle.tso_cert.proofs.printers.print_cert.Goals as goal

pub returns-clause-spells : goal.returns-clause-spells
returns-clause-spells c = (c.in_ok-print_lines.ensures.fits, rw (c.in_ok-print_lines.ensures.lines, c.new-text.ensures.bytes) refl)
