use Rattle.std.proofs.Common.{rules}
use Rattle.trace_batches.specs.Internal.Progress.{printing_by}
use Rattle.tso_ops.specs.Values.{rows}
use Rattle.trace_batches.proofs.JobFacts.{wrote_before, wrote_none}
use Rattle.trace_batches.proofs.batches.tell.Goals as goal

pub returns-in_err-jobs-clause-some : goal.returns-in_err-jobs-clause-some
returns-in_err-jobs-clause-some g c =
    let contents = g.W.Write.contents c.args.writer.now in
    let notes = g.E.Write.contents c.args.errors.now in
    let some = wrote_before (printing_by c.args.judging.now) c.args.judging.now.kept c.args.tally.now c.args.tally.now (rows c.args.pieces.items) 0 contents contents notes notes
    (wrote_none (printing_by c.args.judging.now) c.args.judging.now.kept c.args.tally.now contents notes) in
    search (rules, some)
