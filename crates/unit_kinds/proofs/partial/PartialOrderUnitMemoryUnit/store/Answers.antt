use Rattle.std.proofs.Common.{◌≡◌, ◌∙◌, sym, ap, refl, subst, ◌==◌, ◌≤◌, cond, length}
use Rattle.unit_core.specs.declared.steps.Step.TheVariants.{Store}
use Rattle.unit_core.specs.Machine.{buffer_of, next}
use Rattle.unit_kinds.specs.Buffer.{StoreBufferValue, drains_for_store}
use Rattle.unit_kinds.specs.Internal.Partial.{PartialBuffersValue}
use Rattle.unit_kinds.specs.Partial.{DrainsAndTakes}
use Rattle.unit_kinds.proofs.BufferFacts.{drains-enough, from_bool-cond}
use Rattle.unit_kinds.proofs.PartialFacts.{DrainsAndTakes-made, room-after, IsPartialUnit-drains_and, Takes-drains_and, steps-drains_and, waiting-state}
use Rattle.unit_kinds.proofs.partial.PartialOrderUnitMemoryUnit.store.Goals as goal

pub invariant_of-self-2 : goal.invariant_of-self-2
invariant_of-self-2 c =
    let u = c.self.inside in
    let p = c.args.p in
    let d = c.drain_times.ensures.drains in
    let steps = steps-drains_and u.history.steps _ _ _ d.drains (Store p c.args.a c.args.v) c.in_ok-reserve.ensures.steps d.steps c.push_reserved.ensures.steps in
    let first = c.push_reserved.ensures.first ∙ d.first ∙ c.in_ok-reserve.ensures.first in
    let state = ap (λ (b : PartialBuffersValue). b.state) d.taken in
    let after_it = c.enter.ensures ∙ ap (λ (b : PartialBuffersValue). record b { state = next b.state (Store p c.args.a c.args.v) }) d.taken in
    rw (steps, first, ap (λ (b : PartialBuffersValue). b.state) after_it) (IsPartialUnit-drains_and u.history.steps d.drains u.history.first u.parts.state p (Store p c.args.a c.args.v) c.requires.processor c.self.invariant d.are (c.requires.processor, c.requires.address))

pub returns-clause-exact : goal.returns-clause-exact
returns-clause-exact c =
    let u = c.self.inside in
    let p = c.args.p in
    let d = c.drain_times.ensures.drains in
    let old : StoreBufferValue = record { steps = u.history.steps; first = u.history.first; capacity = u.parts.capacity } in
    let new : StoreBufferValue = record { steps = c.push_reserved.new.self.steps; first = c.push_reserved.new.self.first; capacity = c.enter.new.self.capacity } in
    let steps = steps-drains_and u.history.steps _ _ _ d.drains (Store p c.args.a c.args.v) c.in_ok-reserve.ensures.steps d.steps c.push_reserved.ensures.steps in
    let first = c.push_reserved.ensures.first ∙ d.first ∙ c.in_ok-reserve.ensures.first in
    let count : length d.drains ≡ drains_for_store old p =
    d.as_many ∙ c.from-drains.ensures ∙ from_bool-cond c.is_full.result ∙ ap (λ b. cond b 1 0) c.is_full.ensures.is
    ∙ ap (λ n. cond (n == u.parts.capacity) 1 0) (sym (waiting-state old u.parts.state p c.self.invariant)) in
    subst (λ w. DrainsAndTakes w new p (drains_for_store w p) (Store p c.args.a c.args.v)) c.self.view_is
    (DrainsAndTakes-made old new u.parts.state p (drains_for_store old p) (Store p c.args.a c.args.v) d.drains c.self.invariant count d.are steps first
    (ap (λ (b : PartialBuffersValue). b.capacity) c.enter.ensures ∙ ap (λ (b : PartialBuffersValue). b.capacity) d.taken))

pub returns-clause-taken : goal.returns-clause-taken
returns-clause-taken c = Takes-drains_and c.args.self.now _ c.args.p _ (Store c.args.p c.args.a c.args.v) refl (returns-clause-exact c)

pub drain_times-requires-clause-enough : goal.drain_times-requires-clause-enough
drain_times-requires-clause-enough c =
    let p = c.args.p in
    let waiting = buffer_of c.self.inside.parts.state p in
    let drains = c.from-drains.ensures ∙ from_bool-cond c.is_full.result ∙ ap (λ b. cond b 1 0) c.is_full.ensures.is in
    subst (λ n. n ≤ length waiting) (sym drains) (drains-enough (length waiting) c.self.inside.parts.capacity c.is_full.ensures.least)

pub enter-requires-clause-room : goal.enter-requires-clause-room
enter-requires-clause-room c =
    let u = c.self.inside in
    let drains = c.from-drains.ensures ∙ from_bool-cond c.is_full.result ∙ ap (λ b. cond b 1 0) c.is_full.ensures.is in
    let capacity : c.drain_times.new.parts.capacity ≡ u.parts.capacity = ap (λ (b : PartialBuffersValue). b.capacity) c.drain_times.ensures.drains.taken in
    rw capacity (room-after (length (buffer_of u.parts.state c.args.p)) u.parts.capacity c.from-drains.result (length (buffer_of c.drain_times.new.parts.state c.args.p))
    c.is_full.ensures.least c.is_full.ensures.kept drains c.drain_times.ensures.fewer)
