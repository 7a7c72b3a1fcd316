use Rattle.std.proofs.Common.{◌≡◌, ◌+◌, ◌*◌, refl, sym, subst, arith}
use Rattle.std.proofs.lemmas.Option.{same_Some}
use Rattle.tso_ops.proofs.EventFacts.{event_total-most}
use Rattle.tso_ops.proofs.NumberFacts.{HasSource-within}
use Rattle.chain_reach.specs.Groups.{count_of, group_of}
use Rattle.chain_rules.specs.Internal.Lowering.{LowersAt}
use Rattle.chain_rules.proofs.SourceFacts.{lowered_keeps, lowered_row}
use Rattle.chain_rules.proofs.sources.add_source.Goals as goal

pub group-requires : goal.group-requires
group-requires c =
    let within = (HasSource-within c.args.trace.now c.args.l c.in-Some.s c.in-Some.ensures.is).1 in
    omega (arith, within, c.requires.chains.nodes)

pub lower-requires-clause-small : goal.lower-requires-clause-small
lower-requires-clause-small c =
    let within = (HasSource-within c.args.trace.now c.args.l c.in-Some.s c.in-Some.ensures.is).1 in
    let most = event_total-most c.args.trace.now c.events-kept.ensures.kept in
    omega (arith, within, most)

pub returns-in-Some-clause-kept : goal.returns-in-Some-clause-kept
returns-in-Some-clause-kept c =
    let g = c.args.chains.now in
    let at : c.args.l * c.count.result + c.group.result ≡ c.args.l * count_of g + c.group.result = rw c.count.ensures refl in
    lowered_keeps c.args.least.now c.lower.new.least (count_of g) c.args.l c.group.result c.in-Some.s c.group.ensures.within
    (subst (λ i. LowersAt c.args.least.now c.lower.new.least i c.in-Some.s) at c.lower.ensures)

pub returns-in-Some-clause-row : goal.returns-in-Some-clause-row
returns-in-Some-clause-row c =
    let g = c.args.chains.now in
    let at : c.args.l * c.count.result + c.group.result ≡ c.args.l * count_of g + group_of g c.in-Some.s = rw (c.count.ensures, c.group.ensures.group) refl in
    λ d low. lowered_row c.args.trace.now g c.args.least.now c.lower.new.least c.args.l c.in-Some.s d c.in-Some.ensures.is
    (λ v source. sym (same_Some c.in-Some.s v (c.in-Some.ensures.all v source)))
    (subst (λ i. LowersAt c.args.least.now c.lower.new.least i c.in-Some.s) at c.lower.ensures)
