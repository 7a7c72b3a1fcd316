use Rattle.std.proofs.Common.{◌≡◌, ◌∙◌, sym, ap, refl, subst, true, [], ◌∷◌, ◌++◌}
use Rattle.unit_core.specs.declared.steps.Step.TheVariants.{DrainAt}
use Rattle.unit_core.specs.Machine.{State, buffer_of}
use Rattle.unit_core.specs.Units.{DrainsOne, waiting_of}
use Rattle.unit_core.proofs.DrainedSteps.{reserved-pushed}
use Rattle.unit_kinds.specs.Buffer.{StoreBufferValue}
use Rattle.unit_kinds.specs.Internal.Partial.{PartialBuffersValue}
use Rattle.unit_kinds.specs.Partial.{DrainsNext, IsNextAddress, partial_unit}
use Rattle.unit_kinds.proofs.PartialFacts.{DrainsOne-partial, IsPartialUnit-append, IsRunFrom-drains, waiting-state}
use Rattle.unit_kinds.proofs.partial.PartialOrderUnitMemoryUnit.drain.Goals as goal

pub returns-then-waiting-eq0-clause-drained : goal.returns-then-waiting-eq0-clause-drained
returns-then-waiting-eq0-clause-drained c =
    let u = c.self.inside in
    let old : StoreBufferValue = record { steps = u.history.steps; first = u.history.first; capacity = u.parts.capacity } in
    (sym (ap (λ w. waiting_of (partial_unit w) c.args.p) c.self.view_is) ∙ waiting-state old u.parts.state c.args.p c.self.invariant ∙ sym c.waiting.ensures.is ∙ c.if-waiting-eq0.true, refl)

pub invariant_of-self-2 : goal.invariant_of-self-2
invariant_of-self-2 c =
    let u = c.self.inside in
    let p = c.args.p in
    let step = DrainAt p c.drain_next-a.result in
    let steps = reserved-pushed u.history.steps _ _ _ c.in_ok-reserve.ensures.steps c.push_reserved.ensures.steps in
    let first = c.push_reserved.ensures.first ∙ c.in_ok-reserve.ensures.first in
    rw (steps, first, ap (λ (b : PartialBuffersValue). b.state) c.drain_next-a.ensures.drained)
    (IsPartialUnit-append u.history.steps (step ∷ []) u.history.first u.parts.state c.self.invariant
    (IsRunFrom-drains u.history.steps (step ∷ []) u.history.first u.parts.state p c.requires.processor c.self.invariant (record { a = c.drain_next-a.result; is = refl; next_address = c.drain_next-a.ensures.is }, tt)))

pub returns-clause-exact : goal.returns-clause-exact
returns-clause-exact c =
    let u = c.self.inside in
    let p = c.args.p in
    let step = DrainAt p c.drain_next-a.result in
    let old : StoreBufferValue = record { steps = u.history.steps; first = u.history.first; capacity = u.parts.capacity } in
    let new : StoreBufferValue = record { steps = c.push_reserved.new.self.steps; first = c.push_reserved.new.self.first; capacity = c.drain_next-a.new.self.capacity } in
    let steps = reserved-pushed u.history.steps _ _ _ c.in_ok-reserve.ensures.steps c.push_reserved.ensures.steps in
    let first = c.push_reserved.ensures.first ∙ c.in_ok-reserve.ensures.first in
    let capacity = ap (λ (b : PartialBuffersValue). b.capacity) c.drain_next-a.ensures.drained in
    let exact : new ≡ record old { steps = old.steps ++ step ∷ [] } = λ i. record { steps = steps i; first = first i; capacity = capacity i } in
    subst (λ w. DrainsNext w new p true) c.self.view_is
    (step, record { a = c.drain_next-a.result; is = refl; next_address = subst (λ (s : State). IsNextAddress (buffer_of s p) c.drain_next-a.result) (sym c.self.invariant.state) c.drain_next-a.ensures.is }, exact)

pub returns-clause-drained : goal.returns-clause-drained
returns-clause-drained c =
    let u = c.self.inside in
    let p = c.args.p in
    let a = c.drain_next-a.result in
    let old : StoreBufferValue = record { steps = u.history.steps; first = u.history.first; capacity = u.parts.capacity } in
    let new : StoreBufferValue = record { steps = c.push_reserved.new.self.steps; first = c.push_reserved.new.self.first; capacity = c.drain_next-a.new.self.capacity } in
    let steps = reserved-pushed u.history.steps _ _ _ c.in_ok-reserve.ensures.steps c.push_reserved.ensures.steps in
    let first = c.push_reserved.ensures.first ∙ c.in_ok-reserve.ensures.first in
    let capacity = ap (λ (b : PartialBuffersValue). b.capacity) c.drain_next-a.ensures.drained in
    let exact : new ≡ record old { steps = old.steps ++ DrainAt p a ∷ [] } = λ i. record { steps = steps i; first = first i; capacity = capacity i } in
    subst (λ w. DrainsOne (partial_unit w) (partial_unit new) p) c.self.view_is
    (DrainsOne-partial old new u.parts.state c.drain_next-a.new.self.state p a c.drain_next-a.ensures.is c.drain_next-a.ensures.fewer exact c.self.invariant (invariant_of-self-2 c))
