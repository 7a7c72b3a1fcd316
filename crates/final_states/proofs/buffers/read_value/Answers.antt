use Rattle.std.proofs.Common.{◌∙◌, sym, ap, get_or, arith}
use Rattle.tso_ops.specs.declared.ops.Op.TheVariants.{Ld}
use Rattle.unit_core.specs.Machine.{newest}
use Rattle.final_states.specs.Internal.Words.{read_after, waiting}
use Rattle.final_states.proofs.BufferScans.{cells-all, read-more}
use Rattle.final_states.proofs.buffers.read_value.Goals as goal

pub loop-i-preserved : goal.loop-i-preserved
loop-i-preserved c =
    c.read_past-newest.ensures ∙ ap (read_after (get_or c.args.ops.now c.loop-i.i (Ld 0)) (get_or c.args.marks.now c.loop-i.i 0) c.args.a) c.loop-i.invariant
    ∙ sym (read-more c.args.ops.now c.args.marks.now c.loop-i.i (Ld 0) c.args.a c.args.value c.loop-i-test.true c.requires)

pub returns : goal.returns
returns c = c.loop-i.invariant ∙ ap (λ cells. newest (waiting 0 cells) c.args.a c.args.value) (cells-all c.args.ops.now c.args.marks.now c.loop-i.i (omega arith))
