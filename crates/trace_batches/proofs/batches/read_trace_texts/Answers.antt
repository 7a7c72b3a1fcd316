use Rattle.std.proofs.Common.{rules, take}
use Rattle.trace_batches.specs.Internal.Progress.{printing_by}
use Rattle.trace_batches.proofs.BatchFacts.{stands_at_start, stands_given, stands_later, stands_left}
use Rattle.trace_batches.proofs.batches.read_trace_texts.Goals as goal

pub returns-in_err-buffer-clause-left : goal.returns-in_err-buffer-clause-left
returns-in_err-buffer-clause-left g c =
    let start = stands_at_start (printing_by c.args.judging.now) c.args.judging.now.kept (g.R.Read.remaining c.args.reader.now) (g.W.Write.contents c.args.writer.now) (g.E.Write.contents c.args.errors.now) c.new.result c.new-2.result c.new.ensures.limit c.new.ensures.at c.new-2.ensures in
    let left = stands_left _ _ _ _ _ _ _ _ _ _ start in
    search (rules, left)

pub loop-init : goal.loop-init
loop-init g c = stands_at_start _ _ _ _ _ _ _ c.new.ensures.limit c.new.ensures.at c.new-2.ensures

pub returns-in_err-count-clause-left : goal.returns-in_err-count-clause-left
returns-in_err-count-clause-left g c =
    let left = stands_left _ _ _ _ _ _ _ _ _ _ c.loop.invariant in
    search (rules, left)

pub returns-then-count-eq0-clause-stands : goal.returns-then-count-eq0-clause-stands
returns-then-count-eq0-clause-stands g c = stands_later _ _ _ _ _ _ _ _ _ _ _ c.read_some.new.chunk _ c.if-count-eq0.true c.loop.invariant c.in_ok-count.ensures.taken

pub loop-preserved : goal.loop-preserved
loop-preserved g c =
    c.in_ok-tell_chunk.ensures.stands _ (g.R.Read.remaining c.read_some.new.reader) _ _
    (stands_given _ _ _ _ (g.R.Read.remaining c.read_some.new.reader) _ _ _ _ _ _ (take c.in_ok-count.count c.read_some.new.chunk) c.loop.invariant c.in_ok-count.ensures.taken)

pub returns-in_err-tell_chunk-clause-left : goal.returns-in_err-tell_chunk-clause-left
returns-in_err-tell_chunk-clause-left g c =
    let given = stands_given _ _ _ _ (g.R.Read.remaining c.read_some.new.reader) _ _ _ _ _ _ (take c.in_ok-count.count c.read_some.new.chunk) c.loop.invariant c.in_ok-count.ensures.taken in
    let left = c.in_err-tell_chunk.ensures.left _ (g.R.Read.remaining c.read_some.new.reader) _ _ given in
    search (rules, left)
