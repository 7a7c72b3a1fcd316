use Rattle.std.proofs.Common.{◌≡◌, ◌∙◌, sym, ap, subst, ◌≤◌, ◌==◌, cond, length, arith}
use Rattle.store_buffers.specs.Buffers.{entries_of}
use Rattle.unit_core.specs.declared.steps.Step.TheVariants.{Store}
use Rattle.unit_core.specs.Units.{Takes}
use Rattle.unit_kinds.specs.Buffer.{after_drains_and, drains_for_store, store_buffer_unit}
use Rattle.unit_core.proofs.DrainedSteps.{reserved-pushed}
use Rattle.unit_kinds.proofs.BufferFacts.{IsStoreBufferUnit-store, Takes-after_drains, drains-enough, from_bool-cond, same_value, waiting-parts}
use Rattle.unit_kinds.proofs.DrainingFacts.{drained_times-kept}
use Rattle.unit_kinds.proofs.buffer.StoreBufferUnitMemoryUnit.store.Goals as goal

pub invariant_of-self-2 : goal.invariant_of-self-2
invariant_of-self-2 c =
    let u = c.self.inside in
    let p = c.args.p in
    let steps = reserved-pushed u.history.steps _ _ _ c.in_ok-reserve.ensures.steps c.push_after_drains.ensures.steps in
    let first = c.push_after_drains.ensures.first ∙ c.in_ok-reserve.ensures.first in
    let drains = c.from-drains.ensures ∙ from_bool-cond c.is_full.result ∙ ap (λ b. cond b 1 0) c.is_full.ensures.is in
    let enough : c.from-drains.result ≤ length (entries_of u.parts p) = subst (λ n. n ≤ length (entries_of u.parts p)) (sym drains) (drains-enough (length (entries_of u.parts p)) u.parts.capacity c.is_full.ensures.kept.least) in
    rw (steps, first, c.enter.ensures, c.drain_times.ensures)
    (IsStoreBufferUnit-store u.history.steps u.history.first u.parts p c.args.a c.args.v c.from-drains.result c.requires.processor c.requires.address c.is_full.ensures.kept.processors enough c.self.invariant)

pub returns-clause-exact : goal.returns-clause-exact
returns-clause-exact c =
    let u = c.self.inside in
    let p = c.args.p in
    let count = c.from-drains.result in
    let steps = reserved-pushed u.history.steps _ _ _ c.in_ok-reserve.ensures.steps c.push_after_drains.ensures.steps in
    let first = c.push_after_drains.ensures.first ∙ c.in_ok-reserve.ensures.first in
    let kept = drained_times-kept count u.parts p (omega (arith, c.is_full.ensures.kept.processors)) in
    let capacity = ap (λ parts. parts.capacity) c.enter.ensures ∙ ap (λ parts. parts.capacity) c.drain_times.ensures ∙ kept.capacity in
    let waits : count ≡ drains_for_store c.args.self.now p =
    c.from-drains.ensures ∙ from_bool-cond c.is_full.result ∙ ap (λ b. cond b 1 0) c.is_full.ensures.is
    ∙ ap (λ n. cond (n == u.parts.capacity) 1 0) (sym (waiting-parts u.history.steps u.history.first u.parts p c.self.invariant))
    ∙ ap (λ w. drains_for_store w p) c.self.view_is in
    same_value (record { steps = u.history.steps; first = u.history.first; capacity = u.parts.capacity }) p count _ (Store p c.args.a c.args.v) _ _ steps first capacity
    ∙ ap (λ w. after_drains_and w p count (Store p c.args.a c.args.v)) c.self.view_is
    ∙ ap (λ n. after_drains_and c.args.self.now p n (Store p c.args.a c.args.v)) waits

pub returns-clause-taken : goal.returns-clause-taken
returns-clause-taken c =
    subst (λ w. Takes (store_buffer_unit c.args.self.now) (store_buffer_unit w) (Store c.args.p c.args.a c.args.v)) (sym (returns-clause-exact c)) (Takes-after_drains c.args.self.now _ (Store c.args.p c.args.a c.args.v))
