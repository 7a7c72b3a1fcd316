use Rattle.std.proofs.Common.{◌<◌, sym, subst}
use Rattle.tso_rules.proofs.InferredFacts.{path_within}
use Rattle.trace_decisions.proofs.search.closing.path_rows.Goals as goal

pub add_row-requires-clause-to : goal.add_row-requires-clause-to
add_row-requires-clause-to c = λ v has.
    let path = (c.path_words.ensures.paths v).0 has in
    subst (λ n. v < n) (sym c.loop-u.invariant) (path_within c.args.closed.now c.loop-u.u v c.nodes-nodes.ensures.within path).1
