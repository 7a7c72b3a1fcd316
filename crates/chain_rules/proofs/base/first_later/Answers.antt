use Rattle.std.proofs.Common.{inl, inr, arith}
use Rattle.std.proofs.lemmas.Bool.{both_ways}
use Rattle.chain_rules.proofs.FirstLaterFacts.{list_earlier, list_rises, found_in_list, first_is_after, none_after}
use Rattle.chain_rules.proofs.TraceBounds.{event_exists}
use Rattle.chain_rules.proofs.ProgramOrderFacts.{after_greater}
use Rattle.chain_rules.proofs.base.first_later.Goals as goal

pub returns-in_err-v : goal.returns-in_err-v
returns-in_err-v c = rw c.from_residual.ensures (λ v inside after. (let less = after_greater c.args.trace.now c.args.u v after in let low = c.in_err-v.ensures v inside in omega (arith, less, low)))

pub returns-then-u-eq0 : goal.returns-then-u-eq0
returns-then-u-eq0 c =
    let first = c.in_ok-v.ensures in
    let above = first.from in
    let low = first.inside.0 in
    let nodes = c.requires.chains.nodes in
    first_is_after c.args.trace.now c.args.chains.now c.args.d c.args.u c.in_ok-v.v first
    (inl (c.if-u-eq0.true, event_exists c.args.trace.now c.in_ok-v.v (omega (arith, above)) (omega (arith, low, nodes))))

pub returns-then-not-is_earlier : goal.returns-then-not-is_earlier
returns-then-not-is_earlier c =
    none_after c.args.trace.now c.args.chains.now c.requires.chains c.args.d c.args.u c.in_ok-v.v c.if-u-eq0.false c.in_ok-v.ensures
    (λ earlier. both_ways c.is_earlier.result c.if-not-is_earlier.true (c.is_earlier.ensures.1 earlier))

pub returns-then-is_load : goal.returns-then-is_load
returns-then-is_load c =
    first_is_after c.args.trace.now c.args.chains.now c.args.d c.args.u c.in_ok-v.v c.in_ok-v.ensures
    (inr (inl (c.is_load.ensures.0 c.if-is_load.true, c.is_earlier.ensures.0 c.if-not-is_earlier.false)))

pub first_ordered-requires-clause-processor : goal.first_ordered-requires-clause-processor
first_ordered-requires-clause-processor c =
    list_earlier c.args.trace.now c.args.chains.now c.requires.chains c.args.d c.args.u c.in_ok-v.v c.in_ok-v.ensures.inside (c.is_earlier.ensures.0 c.if-not-is_earlier.false)
    c.list.result.now c.list.ensures

pub first_ordered-requires-clause-rising : goal.first_ordered-requires-clause-rising
first_ordered-requires-clause-rising c =
    list_rises c.args.trace.now c.args.chains.now c.requires.chains c.args.d c.args.u c.list.result.now c.list.ensures

pub returns : goal.returns
returns c =
    found_in_list c.args.trace.now c.args.chains.now c.args.d c.args.u c.list.result.now c.if-u-eq0.false c.list.ensures c.first_ordered.result c.first_ordered.ensures
