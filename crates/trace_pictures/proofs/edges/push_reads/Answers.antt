use Rattle.std.proofs.Common.{string_bytes}
use Rattle.trace_explanation.proofs.TextFacts.{numbers-grown}
use Rattle.trace_pictures.specs.Edges.{read_edge}
use Rattle.trace_pictures.proofs.edges.push_reads.Goals as goal

pub loop-n-preserved : goal.loop-n-preserved
loop-n-preserved c =
    numbers-grown (read_edge c.args.trace.now c.args.drawn.now c.args.shown.now) c.loop-n.n (string_bytes c.args.text.now) (string_bytes c.loop-n.text) (string_bytes c.push_read.new.text) c.loop-n.invariant
    c.in_ok-push_read.ensures
