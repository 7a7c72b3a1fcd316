use Rattle.std.proofs.Common.{◌∙◌, sym, ap, subst, arith}
use Rattle.unit_core.specs.declared.steps.Step.TheVariants.{Membar}
use Rattle.unit_core.specs.Units.{Takes, waiting_of}
use Rattle.unit_kinds.specs.Buffer.{after_drains_and, store_buffer_unit}
use Rattle.unit_core.proofs.DrainedSteps.{reserved-pushed}
use Rattle.unit_kinds.proofs.BufferFacts.{IsStoreBufferUnit-membar, Takes-after_drains, same_value, waiting-parts}
use Rattle.unit_kinds.proofs.DrainingFacts.{drained_times-kept}
use Rattle.unit_kinds.proofs.buffer.StoreBufferUnitMemoryUnit.membar.Goals as goal

pub invariant_of-self-2 : goal.invariant_of-self-2
invariant_of-self-2 c =
    let u = c.self.inside in
    let p = c.args.p in
    let steps = reserved-pushed u.history.steps _ _ _ c.in_ok-reserve.ensures.steps c.push_after_drains.ensures.steps in
    let first = c.push_after_drains.ensures.first ∙ c.in_ok-reserve.ensures.first in
    rw (steps, first, c.drain_times.ensures, c.waiting-drains.ensures.is)
    (IsStoreBufferUnit-membar u.history.steps u.history.first u.parts p c.requires.processor c.waiting-drains.ensures.kept.processors c.self.invariant)

pub returns-clause-exact : goal.returns-clause-exact
returns-clause-exact c =
    let u = c.self.inside in
    let p = c.args.p in
    let count = c.waiting-drains.result in
    let steps = reserved-pushed u.history.steps _ _ _ c.in_ok-reserve.ensures.steps c.push_after_drains.ensures.steps in
    let first = c.push_after_drains.ensures.first ∙ c.in_ok-reserve.ensures.first in
    let kept = drained_times-kept count u.parts p (omega (arith, c.waiting-drains.ensures.kept.processors)) in
    let capacity = ap (λ parts. parts.capacity) c.drain_times.ensures ∙ kept.capacity in
    let waits = c.waiting-drains.ensures.is ∙ sym (waiting-parts u.history.steps u.history.first u.parts p c.self.invariant) ∙ ap (λ w. waiting_of (store_buffer_unit w) p) c.self.view_is in
    same_value (record { steps = u.history.steps; first = u.history.first; capacity = u.parts.capacity }) p count _ (Membar p) _ _ steps first capacity
    ∙ ap (λ w. after_drains_and w p count (Membar p)) c.self.view_is
    ∙ ap (λ n. after_drains_and c.args.self.now p n (Membar p)) waits

pub returns-clause-taken : goal.returns-clause-taken
returns-clause-taken c =
    subst (λ w. Takes (store_buffer_unit c.args.self.now) (store_buffer_unit w) (Membar c.args.p)) (sym (returns-clause-exact c)) (Takes-after_drains c.args.self.now _ (Membar c.args.p))
