use Rattle.std.proofs.Common.{◌∙◌, ◌+◌, sym, ap, take, arith}
use Rattle.final_states.specs.Internal.Words.{stbars_among}
use Rattle.std.proofs.lemmas.List.{length-take}
use Rattle.final_states.proofs.BufferScans.{sum-more, sum-most}
use Rattle.final_states.proofs.buffers.count_stbars.Goals as goal

pub loop-i-preserved : goal.loop-i-preserved
loop-i-preserved c =
    ap (λ n. n + c.stbars_of-count.result) c.loop-i.invariant ∙ ap (λ n. stbars_among (take c.loop-i.i c.args.ops.now) + n) c.stbars_of-count.ensures.is ∙ sym (sum-more c.args.ops.now c.loop-i.i _ c.loop-i-test.true)

pub overflow_add-count : goal.overflow_add-count
overflow_add-count c =
    omega (arith, c.loop-i.invariant, sum-most (take c.loop-i.i c.args.ops.now), length-take c.loop-i.i c.args.ops.now, c.stbars_of-count.ensures.most)
