use Rattle.std.proofs.Common.{refl}
use Rattle.run_following.proofs.kept_lines.KeptLines.keep.Goals as goal

pub returns : goal.returns
returns c = (_, c.in_ok-push.ensures.items, refl, c.in_ok-text.ensures.ok)
