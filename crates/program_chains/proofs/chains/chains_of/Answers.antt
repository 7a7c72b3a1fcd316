use Rattle.std.proofs.Common.{◌≡◌, ◌∙◌, ◌+◌, sym, ap, subst, arith}
use Rattle.std.proofs.lemmas.List.{get_or_default}
use Rattle.program_chains.specs.declared.events.LogEvent.{LogEvent}
use Rattle.program_chains.specs.LogEvents.{as_trace_event}
use Rattle.program_chains.specs.Internal.Keys.{HaveChains, FindsChain, chain_key, key_in, no_event}
use Rattle.program_chains.proofs.KeyFacts.{HaveChains-next, HaveChains-within, AreKeyed-all}
use Rattle.program_chains.proofs.chains.chains_of.Goals as goal
use Rattle.program_chains.proofs.chains.chains_of.Goals.{then-chain-count, else-chain-count}

pub loop-event-preserved : goal.loop-event-preserved
loop-event-preserved c =
    let order = c.args.order in
    let events = c.args.events.now in
    let n = c.loop-event.event-index in
    let key : c.key_of.result ≡ key_in order events n =
    c.key_of.ensures ∙ ap (λ (e : LogEvent). chain_key order (as_trace_event e)) (get_or_default events n _ no_event c.loop-event-test.true) in
    let found = subst (λ k. FindsChain c.loop-event.chains c.find_chain.new.chains k c.loop-event.count c.in_ok-chain.chain) key c.in_ok-chain.ensures in
    let next = HaveChains-next order events n c.loop-event.keys.items c.loop-event.chains c.find_chain.new.chains c.loop-event.count c.in_ok-chain.chain c.if-chain-count.count c.loop-event.invariant found
    (λ same. elim c.if-chain-count.branch [ then-chain-count w ↦ w.count-is | else-chain-count w ↦ absurd (w.if-chain-count.false same) ])
    (λ other. elim c.if-chain-count.branch [ then-chain-count w ↦ absurd (other w.if-chain-count.true) | else-chain-count w ↦ w.count-is ]) in
    subst (λ keys. HaveChains order events (n + 1) keys c.find_chain.new.chains c.if-chain-count.count) (sym c.in_ok-push.ensures.items) next

pub of_keys-requires-clause-within : goal.of_keys-requires-clause-within
of_keys-requires-clause-within c = HaveChains-within c.args.order c.args.events.now c.loop-event.event-index c.loop-event.keys.items c.loop-event.chains c.loop-event.count c.loop-event.invariant

pub returns : goal.returns
returns c =
    AreKeyed-all c.args.order c.args.events.now c.loop-event.keys.items c.loop-event.chains c.loop-event.count c.loop-event.event-index c.in_ok-of_keys.field-0 c.loop-event.invariant
    (omega (arith, c.loop-event.auto.event-index-end, c.loop-event-test.false)) c.in_ok-of_keys.ensures.nodes c.in_ok-of_keys.ensures.keys c.in_ok-of_keys.ensures.count
