use Rattle.std.proofs.Common.{◌≡◌, ◌∙◌, sym, ap, refl, subst, [], ◌∷◌, ◌++◌, ◌<◌, length, arith}
use Rattle.unit_core.specs.Units.{DrainsOne, waiting_of}
use Rattle.unit_core.specs.declared.steps.Step.TheVariants.{Drain}
use Rattle.store_buffers.specs.Buffers.{entries_of}
use Rattle.unit_kinds.specs.Buffer.{StoreBufferValue, store_buffer_unit}
use Rattle.unit_kinds.proofs.BufferFacts.{DrainsOne-store_buffer, IsStoreBufferUnit-drain, waiting-parts}
use Rattle.unit_kinds.proofs.DrainingFacts.{drained-buffers}
use Rattle.unit_kinds.proofs.buffer.StoreBufferUnitMemoryUnit.drain.Goals as goal

pub returns-then-waiting-eq0-clause-drained : goal.returns-then-waiting-eq0-clause-drained
returns-then-waiting-eq0-clause-drained c =
    let u = c.self.inside in
    (sym (ap (λ u. waiting_of (store_buffer_unit u) c.args.p) c.self.view_is) ∙ waiting-parts u.history.steps u.history.first u.parts c.args.p c.self.invariant ∙ sym c.waiting.ensures.is ∙ c.if-waiting-eq0.true, refl)

pub invariant_of-self-2 : goal.invariant_of-self-2
invariant_of-self-2 c =
    let u = c.self.inside in
    let waits : 0 < length (entries_of u.parts c.args.p) = omega (arith, c.waiting.ensures.is) in
    rw (c.in_ok-append.ensures.steps, c.in_ok-append.ensures.first, c.drain_oldest.ensures.drained) (IsStoreBufferUnit-drain u.history.steps u.history.first u.parts c.args.p c.requires.processor waits c.self.invariant)

pub returns-clause-drained : goal.returns-clause-drained
returns-clause-drained c =
    let u = c.self.inside in
    let p = c.args.p in
    let waits : 0 < length (entries_of u.parts p) = omega (arith, c.waiting.ensures.is) in
    let old : StoreBufferValue = record { steps = u.history.steps; first = u.history.first; capacity = u.parts.capacity } in
    let capacity = ap (λ parts. parts.capacity) c.drain_oldest.ensures.drained ∙ (drained-buffers u.parts p (omega (arith, c.waiting.ensures.kept.processors))).2 in
    let new : StoreBufferValue = record { steps = c.append.new.self.steps; first = c.append.new.self.first; capacity = c.drain_oldest.new.self.capacity } in
    let exact : new ≡ record old { steps = old.steps ++ Drain p ∷ [] } = λ i. record { steps = c.in_ok-append.ensures.steps i; first = c.in_ok-append.ensures.first i; capacity = capacity i } in
    let after_it = rw c.drain_oldest.ensures.drained at (invariant_of-self-2 c) in
    subst (λ w. DrainsOne (store_buffer_unit w) (store_buffer_unit new) p) c.self.view_is
    (DrainsOne-store_buffer old new u.parts p (omega (arith, c.waiting.ensures.kept.processors)) waits exact c.self.invariant after_it)
