use Rattle.chain_reach.specs.Leading.{Leads}
use Rattle.chain_reach.proofs.types.Reach.chains.Goals as goal

pub returns-clause-ordered : goal.returns-clause-ordered
unfolding Leads
returns-clause-ordered c = λ x y later. c.args.self.now.kept.ordered x y later.0 later.1 later.2

pub returns-clause-transitive : goal.returns-clause-transitive
unfolding Leads
returns-clause-transitive c = c.args.self.now.kept.transitive
