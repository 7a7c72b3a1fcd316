use Rattle.std.proofs.Common.{◌∙◌}
use Rattle.tso_ops.specs.Values.{rows}
use Rattle.chain_rules.proofs.RoundFacts.{IsSame, within_as, round_follows, round_closes}
use Rattle.chain_rules.proofs.rounds.add_round.Goals as goal

pub join_rows-requires : goal.join_rows-requires
join_rows-requires c = within_as c.args.reach.now c.settle.new.self c.args.numbers.now (rows c.args.made.now) c.settle.ensures.chains c.requires

pub returns-clause-chains : goal.returns-clause-chains
returns-clause-chains c = c.join_rows.ensures.joined.chains ∙ c.settle.ensures.chains

pub returns-clause-joined : goal.returns-clause-joined
returns-clause-joined c = c.join_rows.ensures.joined.joined

pub returns-clause-kept : goal.returns-clause-kept
returns-clause-kept c = λ x y leads. c.join_rows.ensures.joined.kept x y ((c.settle.ensures.leads x y).1 leads)

pub returns-clause-closes : goal.returns-clause-closes
returns-clause-closes c =
    let same : IsSame c.args.reach.now c.settle.new.self = record { chains = c.settle.ensures.chains; leads = c.settle.ensures.leads } in
    round_closes c.args.reach.now c.settle.new.self c.join_rows.new.reach c.args.numbers.now (rows c.args.made.now) same c.join_rows.ensures.joined c.chains-chains.ensures.transitive

pub returns-clause-follows : goal.returns-clause-follows
returns-clause-follows c = λ t k rank least.
    let same : IsSame c.args.reach.now c.settle.new.self = record { chains = c.settle.ensures.chains; leads = c.settle.ensures.leads } in
    round_follows t k c.args.reach.now c.settle.new.self c.join_rows.new.reach c.args.numbers.now (rows c.args.made.now) same c.join_rows.ensures.joined
    (c.join_rows.ensures.next t k) rank least

pub returns-clause-transitive : goal.returns-clause-transitive
returns-clause-transitive c = c.chains-chains.ensures.transitive
