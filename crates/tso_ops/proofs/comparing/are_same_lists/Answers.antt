use Rattle.tso_ops.proofs.SameFacts.{rows-Decides}
use Rattle.tso_ops.proofs.comparing.are_same_lists.Goals as goal

pub returns : goal.returns
returns c = rows-Decides c.args.one.now c.args.other.now c.eq.result c.eq.ensures
