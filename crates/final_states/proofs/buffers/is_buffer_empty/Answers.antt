use Rattle.std.proofs.Common.{◌∙◌, sym, ap, not, arith}
use Rattle.final_states.specs.Internal.Words.{is_empty, waiting}
use Rattle.std.specs.List.{zip}
use Rattle.final_states.proofs.BufferScans.{cells-all, empty-more, not-empty}
use Rattle.final_states.proofs.buffers.is_buffer_empty.Goals as goal

pub loop-i-preserved : goal.loop-i-preserved
loop-i-preserved c =
    empty-more c.args.ops.now c.args.marks.now c.loop-i.i _ c.loop-i-test.true c.requires c.loop-i.invariant
    ∙ ap not (sym c.is_waiting.ensures ∙ c.if-is_waiting.false)

pub returns-then-is_waiting : goal.returns-then-is_waiting
returns-then-is_waiting c =
    sym (not-empty (zip c.args.ops.now c.args.marks.now) _
    (empty-more c.args.ops.now c.args.marks.now c.loop-i.i _ c.loop-i-test.true c.requires c.loop-i.invariant ∙ ap not (sym c.is_waiting.ensures ∙ c.if-is_waiting.true)))

pub returns : goal.returns
returns c = sym (ap (λ cells. is_empty (waiting 0 cells)) (sym (cells-all c.args.ops.now c.args.marks.now c.loop-i.i (omega arith))) ∙ c.loop-i.invariant)
