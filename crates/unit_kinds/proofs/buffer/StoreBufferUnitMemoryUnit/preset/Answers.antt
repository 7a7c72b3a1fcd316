use Rattle.std.proofs.Common.{◌≡◌, ◌∙◌, ap, true, [], set}
use Rattle.tso_ops.specs.declared.settings.Order.TheVariants.{Tso}
use Rattle.store_buffers.specs.Buffers.{BuffersValue}
use Rattle.unit_core.specs.Units.{UnitValue}
use Rattle.unit_kinds.specs.Buffer.{store_buffer_design, store_buffer_unit, waiting_after}
use Rattle.unit_kinds.proofs.BufferFacts.{waiting-preset}
use Rattle.unit_kinds.proofs.buffer.StoreBufferUnitMemoryUnit.preset.Goals as goal

pub returns : goal.returns
returns c =
    let u = c.self.inside in
    let none : u.history.steps ≡ [] = ap (λ w. w.steps) c.self.view_is ∙ c.requires.untouched in
    let made : UnitValue = record { design = store_buffer_design u.parts.capacity; steps = u.history.steps; lawful = true; order = Tso; first = set u.history.first c.args.a c.args.v; waiting = waiting_after (set u.history.first c.args.a c.args.v) u.history.steps } in
    let same : made ≡ record made { waiting = waiting_after u.history.first u.history.steps } = ap (λ ws. record made { waiting = ws }) (waiting-preset u.history.steps u.history.first c.args.a c.args.v none) in
    let capacity : c.write.new.self.capacity ≡ u.parts.capacity = ap (λ (b : BuffersValue). b.capacity) c.write.ensures in
    rw c.preset.ensures
    (ap (λ k. record made { design = store_buffer_design k }) capacity ∙ same ∙ ap (λ w. record (store_buffer_unit w) { first = set w.first c.args.a c.args.v }) c.self.view_is)
