use Rattle.std.proofs.Common.{codes, refl}
use Rattle.command_line.proofs.ValueTexts.{differing}
use Rattle.command_line.proofs.options.kind_named.Goals as goal

pub returns-in_default : goal.returns-in_default
returns-in_default c =
    let d = c.in_default in
    rw (
      differing (codes "serial") _ d.not-serial,
      differing (codes "buffer") _ d.not-buffer,
      differing (codes "partial") _ d.not-partial,
      differing (codes "newest-first") _ d.not-text,
      differing (codes "no-forward") _ d.not-text-2,
      differing (codes "stale-load") _ d.not-text-3,
      differing (codes "torn-swap") _ d.not-text-4,
      differing (codes "idle-membar") _ d.not-text-5,
      differing (codes "lost-drain") _ d.not-text-6,
    ) refl
