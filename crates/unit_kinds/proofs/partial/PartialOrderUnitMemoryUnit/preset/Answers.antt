use Rattle.std.proofs.Common.{◌≡◌, ◌∙◌, ap, true, [], set}
use Rattle.tso_ops.specs.declared.settings.Order.TheVariants.{Pso}
use Rattle.unit_core.specs.Units.{UnitValue}
use Rattle.unit_kinds.specs.Buffer.{waiting_after}
use Rattle.unit_kinds.specs.Internal.Partial.{PartialBuffersValue}
use Rattle.unit_kinds.specs.Partial.{partial_design, partial_unit}
use Rattle.unit_kinds.proofs.BufferFacts.{waiting-preset}
use Rattle.unit_kinds.proofs.partial.PartialOrderUnitMemoryUnit.preset.Goals as goal

pub returns : goal.returns
returns c =
    let u = c.self.inside in
    let none : u.history.steps ≡ [] = ap (λ w. w.steps) c.self.view_is ∙ c.requires.untouched in
    let made : UnitValue = record { design = partial_design u.parts.capacity; steps = u.history.steps; lawful = true; order = Pso; first = set u.history.first c.args.a c.args.v; waiting = waiting_after (set u.history.first c.args.a c.args.v) u.history.steps } in
    let same : made ≡ record made { waiting = waiting_after u.history.first u.history.steps } = ap (λ ws. record made { waiting = ws }) (waiting-preset u.history.steps u.history.first c.args.a c.args.v none) in
    let capacity : c.write.new.self.capacity ≡ u.parts.capacity = ap (λ (b : PartialBuffersValue). b.capacity) c.write.ensures in
    rw c.preset.ensures
    (ap (λ k. record made { design = partial_design k }) capacity ∙ same ∙ ap (λ w. record (partial_unit w) { first = set w.first c.args.a c.args.v }) c.self.view_is)
