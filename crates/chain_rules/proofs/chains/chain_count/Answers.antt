use Rattle.std.proofs.Common.{sym, subst}
use Rattle.chain_rules.specs.Internal.Layouts.{IsSmall}
use Rattle.chain_rules.proofs.ChainKeyFacts.{layout_small}
use Rattle.chain_rules.proofs.chains.chain_count.Goals as goal

pub count-requires : goal.count-requires
count-requires c = subst IsSmall (sym c.of.ensures) (layout_small c.args.trace.now c.events-kept.ensures.kept)
