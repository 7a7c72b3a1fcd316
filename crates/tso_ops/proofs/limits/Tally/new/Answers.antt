use Rattle.std.proofs.Common.{refl}
use Rattle.tso_ops.specs.Settings.{version_one_tso}
use Rattle.tso_ops.proofs.TallyFacts.{Admitted-nil, stored-none}
use Rattle.tso_ops.proofs.limits.Tally.new.Goals as goal

pub returns : goal.returns
returns c = Admitted-nil version_one_tso _ refl refl refl refl (stored-none _ c.new.ensures.empty)
