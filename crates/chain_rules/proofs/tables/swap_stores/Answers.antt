use Rattle.std.proofs.Common.{◌+◌, ◌<◌, [], ◌∷◌, ◌++◌, IfSome, sym, subst, ap, ◌∙◌, arith}
use Rattle.std.specs.Option.{unwrap_or}
use Rattle.chain_rules.specs.Internal.Accesses.{AreKeys, HasSwapChain}
use Rattle.chain_rules.proofs.TableFacts.{keys_below, more_keys, key_found, found_below, swaps_are}
use Rattle.chain_rules.proofs.tables.swap_stores.Goals as goal

pub loop-n-preserved : goal.loop-n-preserved
loop-n-preserved c =
    let t = c.args.trace.now in
    let g = c.args.chains.now in
    let others = c.count-others.result in
    let low = found_below c.swap_chain.result others (subst (λ k. IfSome c.swap_chain.result (λ s. s < k)) (sym c.count-others.ensures) c.swap_chain.ensures.within) in
    subst (λ xs. AreKeys xs (HasSwapChain t g) others (c.loop-n.n + 1))
    (sym (c.in_ok-push.ensures.items ∙ ap (λ k. c.loop-n.keys.items ++ k ∷ []) c.unwrap_or-slot.ensures))
    (more_keys c.loop-n.keys.items (HasSwapChain t g) others c.loop-n.n (unwrap_or c.swap_chain.result others) c.loop-n.invariant low
    (key_found c.swap_chain.result (HasSwapChain t g c.loop-n.n) others c.swap_chain.ensures.is))

pub of_keys-requires-clause-within : goal.of_keys-requires-clause-within
of_keys-requires-clause-within c = keys_below c.loop-n.keys.items c.loop-n.n (c.count-others.result + 1) c.loop-n.invariant.sized c.loop-n.invariant.within

pub returns : goal.returns
returns c =
    swaps_are c.args.trace.now c.args.chains.now c.in_ok-of_keys.field-0 c.loop-n.keys.items c.loop-n.n c.count-others.result c.count-others.ensures
    (omega (arith, c.loop-n-test.false, c.loop-n.auto.n-end, c.node_count-n-end.ensures.count)) c.loop-n.invariant c.in_ok-of_keys.ensures.nodes c.in_ok-of_keys.ensures.keys c.in_ok-of_keys.ensures.count
