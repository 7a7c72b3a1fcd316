use Rattle.std.proofs.Common.{◌∙◌, sym, ap}
use Rattle.unit_core.specs.Units.{waiting_of}
use Rattle.unit_kinds.specs.Buffer.{store_buffer_unit}
use Rattle.unit_kinds.proofs.BufferFacts.{waiting-parts}
use Rattle.unit_kinds.proofs.buffer.StoreBufferUnitMemoryUnit.waiting.Goals as goal

pub returns : goal.returns
returns c =
    let u = c.self.inside in
    c.waiting.ensures.is ∙ sym (waiting-parts u.history.steps u.history.first u.parts c.args.p c.self.invariant) ∙ ap (λ u. waiting_of (store_buffer_unit u) c.args.p) c.self.view_is
