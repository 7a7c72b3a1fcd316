use Rattle.std.proofs.Common.{ℕ, ◌<◌, length, get_or, arith, map}
use Rattle.std.proofs.lemmas.List.{length-map}
use Rattle.chain_reach.specs.Internal.FirstTables.{GrowsBy, GrowsBelow}
use Rattle.chain_reach.proofs.LoweredFacts.{LowersRows-none, LowersRows-as, MarksRows-none, MarksRows-as}
use Rattle.chain_reach.proofs.ChainFacts.{chains_ready, chains_lowered, chains_marked, none_below, all_below}
use Rattle.chain_reach.proofs.lowering.lower_chains.Goals as goal

pub loop-d-init : goal.loop-d-init
loop-d-init c = (
  LowersRows-none c.args.first.now c.args.edge.given.now (length c.args.edge.given.now) (GrowsBelow c.args.chains.now.keys.items (length c.args.edge.given.now) 0 c.args.first.now c.args.edge.from c.args.edge.to) (none_below c.args.chains.now.keys.items (length c.args.edge.given.now) c.args.first.now c.args.edge.from c.args.edge.to),
  MarksRows-none c.args.grown.now (GrowsBelow c.args.chains.now.keys.items (length c.args.edge.given.now) 0 c.args.first.now c.args.edge.from c.args.edge.to) (none_below c.args.chains.now.keys.items (length c.args.edge.given.now) c.args.first.now c.args.edge.from c.args.edge.to),
)

pub lower_chain-requires-clause-ready : goal.lower_chain-requires-clause-ready
lower_chain-requires-clause-ready c =
    chains_ready c.args.chains.now.keys.items (length c.args.edge.given.now) c.loop-d.d c.args.first.now c.loop-d.first c.args.edge.given.now c.args.edge.given.now c.args.grown.now c.loop-d.grown c.args.edge.from c.args.edge.from_chain c.args.edge.to c.args.edge.to_chain c.requires.kept c.requires.edge c.loop-d.invariant.0 c.loop-d.invariant.1

pub loop-d-preserved : goal.loop-d-preserved
loop-d-preserved c = (
  chains_lowered c.args.chains.now.keys.items (length c.args.edge.given.now) c.loop-d.d c.args.first.now c.loop-d.first c.lower_chain.new.first c.args.edge.given.now c.args.edge.from c.args.edge.from_chain c.args.edge.to c.args.edge.to_chain c.requires.edge c.loop-d.invariant.0 c.lower_chain.ensures.lowered,
  chains_marked c.args.chains.now.keys.items (length c.args.edge.given.now) c.loop-d.d c.args.first.now c.loop-d.first c.args.edge.given.now c.args.grown.now c.loop-d.grown c.lower_chain.new.grown c.args.edge.from c.args.edge.from_chain c.args.edge.to c.args.edge.to_chain c.requires.edge c.loop-d.invariant.0 c.loop-d.invariant.1
      c.lower_chain.ensures.marked,
)

pub returns-clause-lowered : goal.returns-clause-lowered
returns-clause-lowered c =
    let within = λ (n : ℕ) (low : n < length c.args.chains.now.keys.items). (let key : get_or c.args.chains.now.keys.items n 0 < length (map (λ list. list.items) c.args.chains.now.lists.items) = c.args.chains.now.grouped.within n low in
    let size : get_or c.args.chains.now.keys.items n 0 < c.loop-d.d = omega (arith, key, length-map c.args.chains.now.lists.items (λ list. list.items), c.loop-d-test.false, c.count-d-end.ensures) in size) in
    LowersRows-as c.args.first.now c.loop-d.first c.args.edge.given.now (length c.args.edge.given.now) (GrowsBelow c.args.chains.now.keys.items (length c.args.edge.given.now) c.loop-d.d c.args.first.now c.args.edge.from c.args.edge.to) (GrowsBy c.args.chains.now.keys.items (length c.args.edge.given.now) c.args.first.now c.args.edge.from c.args.edge.to) c.loop-d.invariant.0
    (λ x. all_below c.args.chains.now.keys.items (length c.args.edge.given.now) c.loop-d.d c.args.first.now c.args.edge.from c.args.edge.from_chain c.args.edge.to c.args.edge.to_chain x c.requires.edge within)

pub returns-clause-marked : goal.returns-clause-marked
returns-clause-marked c =
    let within = λ (n : ℕ) (low : n < length c.args.chains.now.keys.items). (let key : get_or c.args.chains.now.keys.items n 0 < length (map (λ list. list.items) c.args.chains.now.lists.items) = c.args.chains.now.grouped.within n low in
    let size : get_or c.args.chains.now.keys.items n 0 < c.loop-d.d = omega (arith, key, length-map c.args.chains.now.lists.items (λ list. list.items), c.loop-d-test.false, c.count-d-end.ensures) in size) in
    MarksRows-as c.args.grown.now c.loop-d.grown (GrowsBelow c.args.chains.now.keys.items (length c.args.edge.given.now) c.loop-d.d c.args.first.now c.args.edge.from c.args.edge.to) (GrowsBy c.args.chains.now.keys.items (length c.args.edge.given.now) c.args.first.now c.args.edge.from c.args.edge.to) c.loop-d.invariant.1
    (λ x. all_below c.args.chains.now.keys.items (length c.args.edge.given.now) c.loop-d.d c.args.first.now c.args.edge.from c.args.edge.from_chain c.args.edge.to c.args.edge.to_chain x c.requires.edge within)
