use Rattle.std.proofs.Common.{◌≡◌, ◌<◌, ◌+◌, get_or, subst, sym, ap, ◌∙◌, arith}
use Rattle.tso_ops.specs.Events.{event_at}
use Rattle.tso_ops.proofs.EventFacts.{event_total-most}
use Rattle.chain_rules.specs.Internal.Layouts.{IsSmall, IsPlaced, layout_of, layout_count, chain_at, chain_in, AreChainKeys}
use Rattle.chain_rules.proofs.TraceBounds.{chain_total-most}
use Rattle.chain_rules.proofs.ChainKeyFacts.{layout_small, layout_placed, key_of_event, key_of_none, keys_more, chains_are}
use Rattle.chain_rules.proofs.TableFacts.{keys_below}
use Rattle.chain_rules.proofs.chains.chains_of.Goals as goal
use Rattle.chain_rules.proofs.chains.chains_of.Goals.{in-Some, in-None}

pub chain-chain-requires-clause-small : goal.chain-chain-requires-clause-small
chain-chain-requires-clause-small c = subst IsSmall (sym c.of-layout.ensures) (layout_small c.args.trace.now c.node_count.ensures.kept)

pub chain-chain-requires-clause-placed : goal.chain-chain-requires-clause-placed
chain-chain-requires-clause-placed c =
    subst (λ l. IsPlaced l c.in-Some.event) (sym c.of-layout.ensures)
    (layout_placed c.args.trace.now c.loop-n.n c.in-Some.event (omega (arith, c.loop-n-test.true, c.node_count-n-end.ensures.count)) (sym c.in-Some.ensures))

pub overflow_cast-chain : goal.overflow_cast-chain
overflow_cast-chain c =
    let t = c.args.trace.now in
    let low : c.match-event.chain < layout_count (layout_of t) = elim c.match-event.branch [
      | in-Some w ↦ (key_of_event t c.loop-n.n c.match-event.chain w.in-Some.event (omega (arith, c.loop-n-test.true, c.node_count-n-end.ensures.count)) (sym w.in-Some.ensures)
          (w.chain-is ∙ w.chain-chain.ensures.is ∙ ap (λ l. chain_in l w.in-Some.event) c.of-layout.ensures)).1
      | in-None w ↦ (key_of_none t c.loop-n.n c.match-event.chain (sym c.event.ensures ∙ w.in-None.is) w.chain-is).1
    ] in
    let most = chain_total-most t c.node_count.ensures.kept in
    omega (arith, low, most)

pub loop-n-preserved : goal.loop-n-preserved
loop-n-preserved c =
    let t = c.args.trace.now in
    let key : (c.match-event.chain ≡ chain_at (layout_of t) (event_at t c.loop-n.n)) × (c.match-event.chain < layout_count (layout_of t)) = elim c.match-event.branch [
      | in-Some w ↦ key_of_event t c.loop-n.n c.match-event.chain w.in-Some.event (omega (arith, c.loop-n-test.true, c.node_count-n-end.ensures.count)) (sym w.in-Some.ensures)
          (w.chain-is ∙ w.chain-chain.ensures.is ∙ ap (λ l. chain_in l w.in-Some.event) c.of-layout.ensures)
      | in-None w ↦ key_of_none t c.loop-n.n c.match-event.chain (sym c.event.ensures ∙ w.in-None.is) w.chain-is
    ] in
    subst (λ xs. AreChainKeys t xs (c.loop-n.n + 1)) (sym c.in_ok-push.ensures.items) (keys_more t c.loop-n.keys.items c.loop-n.n c.match-event.chain c.loop-n.invariant key.0 key.1)

pub count-requires : goal.count-requires
count-requires c = subst IsSmall (sym c.of-layout.ensures) (layout_small c.args.trace.now c.node_count.ensures.kept)

pub of_keys-requires-clause-most : goal.of_keys-requires-clause-most
of_keys-requires-clause-most c =
    let sized = c.loop-n.invariant.sized in
    let most = event_total-most c.args.trace.now c.node_count.ensures.kept in
    omega (arith, sized, most, c.loop-n-test.false, c.node_count-n-end.ensures.count, c.loop-n.auto.n-end)

pub of_keys-requires-clause-within : goal.of_keys-requires-clause-within
of_keys-requires-clause-within c =
    let count : c.count.result ≡ layout_count (layout_of c.args.trace.now) = c.count.ensures ∙ ap layout_count c.of-layout.ensures in
    keys_below c.loop-n.keys.items c.loop-n.n c.count.result c.loop-n.invariant.sized (λ k low. subst (λ m. get_or c.loop-n.keys.items k 0 < m) (sym count) (c.loop-n.invariant.within k low))

pub returns-clause-chains : goal.returns-clause-chains
returns-clause-chains c =
    chains_are c.args.trace.now c.in_ok-of_keys.field-0 c.loop-n.keys.items c.loop-n.n c.node_count.ensures.kept c.loop-n.invariant
    (omega (arith, c.loop-n-test.false, c.node_count-n-end.ensures.count, c.loop-n.auto.n-end)) c.in_ok-of_keys.ensures.nodes c.in_ok-of_keys.ensures.keys
    (c.in_ok-of_keys.ensures.count ∙ c.count.ensures ∙ ap layout_count c.of-layout.ensures)
