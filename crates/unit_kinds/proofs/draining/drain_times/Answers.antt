use Rattle.std.proofs.Common.{◌∙◌, sym, ap}
use Rattle.store_buffers.specs.Buffers.{oldest_drained}
use Rattle.unit_kinds.proofs.DrainingFacts.{drained_times-more}
use Rattle.unit_kinds.proofs.draining.drain_times.Goals as goal

pub loop-done-preserved : goal.loop-done-preserved
loop-done-preserved c =
    c.drain_oldest.ensures.drained ∙ ap (λ parts. oldest_drained parts c.args.p) c.loop-done.invariant ∙ sym (drained_times-more c.loop-done._done c.args.parts.now c.args.p)
