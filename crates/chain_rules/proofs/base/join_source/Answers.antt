use Rattle.std.proofs.Common.{arith}
use Rattle.std.proofs.lemmas.Bool.{both_ways}
use Rattle.tso_ops.proofs.NumberFacts.{HasSource-within}
use Rattle.tso_cert.specs.declared.rules.BaseRule.TheVariants.{Read}
use Rattle.chain_rules.proofs.BaseReachFacts.{grows_join, source_store, no_store_zero}
use Rattle.chain_rules.proofs.base.join_source.Goals as goal
use Rattle.chain_rules.proofs.base.join_source.Goals.{else-s-ne0-via-then-s-ne0+else-not-is_earlier, else-s-ne0-via-else-s-ne0}

pub join-requires-clause-from : goal.join-requires-clause-from
join-requires-clause-from c =
    let low = (HasSource-within c.args.trace.now c.args.l c.args.s c.requires.source).1 in
    let nodes = c.requires.chains.nodes in
    omega (arith, low, nodes)

pub join-requires-clause-to : goal.join-requires-clause-to
join-requires-clause-to c =
    let low = (HasSource-within c.args.trace.now c.args.l c.args.s c.requires.source).0 in
    let nodes = c.requires.chains.nodes in
    omega (arith, low, nodes)

pub returns-then-not-is_earlier-clause-grows : goal.returns-then-not-is_earlier-clause-grows
returns-then-not-is_earlier-clause-grows c =
    grows_join c.args.trace.now c.args.reach.now c.join.new.self c.args.s c.args.l (
      Read,
      (
        source_store c.args.trace.now c.args.l c.args.s c.requires.source c.if-s-ne0.true,
        c.requires.source,
        λ earlier. both_ways c.is_earlier.result c.if-not-is_earlier.true (c.is_earlier.ensures.1 earlier),
      ),
    ) c.join.ensures

pub returns-else-s-ne0-clause-led : goal.returns-else-s-ne0-clause-led
returns-else-s-ne0-clause-led c = λ read. elim c.else-s-ne0.branch [
  | else-s-ne0-via-then-s-ne0+else-not-is_earlier w ↦ absurd (read.2 (w.is_earlier.ensures.0 w.if-not-is_earlier.false))
  | else-s-ne0-via-else-s-ne0 w ↦ absurd (no_store_zero c.args.trace.now c.args.s w.if-s-ne0.false read.0)
]
