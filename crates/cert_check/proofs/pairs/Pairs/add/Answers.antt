use Rattle.std.proofs.Common.{◌∙◌, subst}
use Rattle.cert_check.specs.Internal.Pairs.{ListsUpTo}
use Rattle.cert_check.proofs.PairFacts.{pairs_with_last}
use Rattle.cert_check.proofs.pairs.Pairs.add.Goals as goal

pub returns-in-Table : goal.returns-in-Table
returns-in-Table c = λ last steps lists.
    let table = subst (λ pairs. ListsUpTo last pairs steps) c.in-Table.is lists in
    (c.add.ensures.nodes ∙ table.0, pairs_with_last c.in-Table.table c.add.new.self steps c.args.step.now table.1 c.add.ensures.square c.add.ensures.pairs)
