use Rattle.chain_rules.proofs.TableFacts.{tables_are}
use Rattle.chain_rules.proofs.types.RuleTables.new.Goals as goal

pub returns : goal.returns
returns c =
    tables_are c.args.trace.now c.args.chains.now _ c.address_count-addresses.ensures c.in_ok-loads.ensures c.in_ok-stores.ensures c.in_ok-swaps.ensures c.in_ok-least.ensures
