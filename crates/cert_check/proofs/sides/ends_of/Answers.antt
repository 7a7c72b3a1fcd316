use Rattle.cert_check.proofs.Facts.{ends_by_place}
use Rattle.cert_check.proofs.sides.ends_of.Goals as goal

pub returns-in-len2-up : goal.returns-in-len2-up
returns-in-len2-up c = ends_by_place c.args.path.now c.in-len2-up.len_at_least
