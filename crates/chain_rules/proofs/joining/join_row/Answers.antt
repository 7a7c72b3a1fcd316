use Rattle.std.proofs.Common.{◌≡◌, ◌<◌, length, take, get_or, refl, sym, subst, arith}
use Rattle.std.proofs.lemmas.List.{take_more, take_all}
use Rattle.std.proofs.lemmas.List.Elements.{Contains-get_or}
use Rattle.chain_reach.specs.Groups.{node_count}
use Rattle.chain_rules.specs.Internal.Joined.{JoinsRow}
use Rattle.chain_rules.proofs.JoinedFacts.{JoinsRow-start, JoinsRow-step}
use Rattle.chain_rules.proofs.joining.join_row.Goals as goal

pub loop-v-init : goal.loop-v-init
loop-v-init c = JoinsRow-start c.args.reach.now c.args.u _ refl

pub join-requires-clause-from : goal.join-requires-clause-from
join-requires-clause-from c = subst (λ g. c.args.u < node_count g) (sym c.loop-v.invariant.chains) c.requires.from

pub join-requires-clause-to : goal.join-requires-clause-to
join-requires-clause-to c =
    let v = get_or c.args.row.now c.loop-v.v-index 0 in
    subst (λ g. v < node_count g) (sym c.loop-v.invariant.chains) (c.requires.to v (Contains-get_or c.args.row.now c.loop-v.v-index 0 c.loop-v-test.true))

pub loop-v-preserved : goal.loop-v-preserved
loop-v-preserved c =
    let row = c.args.row.now in
    let i = c.loop-v.v-index in
    subst (λ list. JoinsRow c.args.reach.now c.join.new.self c.args.u list) (sym (take_more row i 0 c.loop-v-test.true))
    (JoinsRow-step c.args.reach.now c.loop-v.reach c.join.new.self c.args.u (get_or row i 0) (take i row) c.loop-v.invariant c.chains-chains.ensures.transitive c.join.ensures)

pub returns : goal.returns
returns c =
    let end : c.loop-v.v-index ≡ length c.args.row.now = omega (arith, c.loop-v.auto.v-index-end, c.loop-v-test.false) in
    subst (λ list. JoinsRow c.args.reach.now c.loop-v.reach c.args.u list) (take_all c.loop-v.v-index c.args.row.now (omega (arith, end))) c.loop-v.invariant
