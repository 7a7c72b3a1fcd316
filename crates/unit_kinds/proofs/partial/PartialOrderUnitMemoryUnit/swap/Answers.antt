use Rattle.std.proofs.Common.{◌≡◌, ◌∙◌, sym, ap, refl, subst, [], length, set, slice_index, arith}
use Rattle.std.proofs.lemmas.List.{nil_from_length}
use Rattle.unit_core.specs.declared.steps.Step.TheVariants.{Swap}
use Rattle.unit_core.specs.Machine.{after, buffer_of}
use Rattle.unit_core.specs.Units.{waiting_of}
use Rattle.unit_kinds.specs.Buffer.{StoreBufferValue}
use Rattle.unit_kinds.specs.Internal.Partial.{PartialBuffersValue}
use Rattle.unit_kinds.specs.Partial.{DrainsAndTakes, partial_unit}
use Rattle.unit_kinds.proofs.PartialFacts.{DrainsAndTakes-made, IsPartialUnit-drains_and, Takes-drains_and, steps-drains_and, waiting-state}
use Rattle.unit_kinds.proofs.partial.PartialOrderUnitMemoryUnit.swap.Goals as goal

pub invariant_of-self-2 : goal.invariant_of-self-2
invariant_of-self-2 c =
    let u = c.self.inside in
    let p = c.args.p in
    let d = c.drain_times.ensures.drains in
    let steps = steps-drains_and u.history.steps _ _ _ d.drains (Swap p c.args.a c.word-r.result c.args.v) c.in_ok-reserve.ensures.steps d.steps c.push_reserved.ensures.steps in
    let first = c.push_reserved.ensures.first ∙ d.first ∙ c.in_ok-reserve.ensures.first in
    let state = ap (λ (b : PartialBuffersValue). b.state) d.taken in
    let none : buffer_of (after u.parts.state d.drains) p ≡ [] =
    nil_from_length (buffer_of (after u.parts.state d.drains) p) (omega (arith, ap (λ s. length (buffer_of s p)) state, c.drain_times.ensures.fewer, c.waiting-waiting.ensures.is)) in
    let read : c.word-r.result ≡ slice_index (after u.parts.state d.drains).memory c.args.a = c.word-r.ensures ∙ ap (λ s. slice_index s.memory c.args.a) state in
    let after_it = c.write.ensures ∙ ap (λ (b : PartialBuffersValue). record b { state = record b.state { memory = set b.state.memory c.args.a c.args.v } }) d.taken in
    rw (steps, first, ap (λ (b : PartialBuffersValue). b.state) after_it) (IsPartialUnit-drains_and u.history.steps d.drains u.history.first u.parts.state p (Swap p c.args.a c.word-r.result c.args.v) c.requires.processor c.self.invariant d.are (c.requires.processor, c.requires.address, none, read))

pub returns-clause-exact : goal.returns-clause-exact
returns-clause-exact c =
    let u = c.self.inside in
    let p = c.args.p in
    let d = c.drain_times.ensures.drains in
    let old : StoreBufferValue = record { steps = u.history.steps; first = u.history.first; capacity = u.parts.capacity } in
    let new : StoreBufferValue = record { steps = c.push_reserved.new.self.steps; first = c.push_reserved.new.self.first; capacity = c.write.new.self.capacity } in
    let steps = steps-drains_and u.history.steps _ _ _ d.drains (Swap p c.args.a c.word-r.result c.args.v) c.in_ok-reserve.ensures.steps d.steps c.push_reserved.ensures.steps in
    let first = c.push_reserved.ensures.first ∙ d.first ∙ c.in_ok-reserve.ensures.first in
    let count : length d.drains ≡ waiting_of (partial_unit old) p = d.as_many ∙ c.waiting-waiting.ensures.is ∙ sym (waiting-state old u.parts.state p c.self.invariant) in
    subst (λ w. DrainsAndTakes w new p (waiting_of (partial_unit w) p) (Swap p c.args.a c.word-r.result c.args.v)) c.self.view_is
    (DrainsAndTakes-made old new u.parts.state p (waiting_of (partial_unit old) p) (Swap p c.args.a c.word-r.result c.args.v) d.drains c.self.invariant count d.are steps first (ap (λ (b : PartialBuffersValue). b.capacity) c.write.ensures ∙ ap (λ (b : PartialBuffersValue). b.capacity) d.taken))

pub returns-clause-taken : goal.returns-clause-taken
returns-clause-taken c = Takes-drains_and c.args.self.now _ c.args.p _ (Swap c.args.p c.args.a c.word-r.result c.args.v) refl (returns-clause-exact c)
