use Rattle.chain_reach.specs.Leading.{LeadsToMore}
use Rattle.chain_reach.proofs.types.Reach.grown.Goals as goal

pub returns : goal.returns
unfolding LeadsToMore
returns c = rw c.deref.ensures.value at c.marked.ensures
