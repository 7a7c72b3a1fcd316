use Rattle.std.proofs.Common.{ℕ, List, take}
use Rattle.trace_batches.specs.Batches.{asked}
use Rattle.trace_batches.specs.Internal.Progress.{AreJudged, WroteAll, printing_by}
use Rattle.trace_batches.proofs.batches.write_jobs.Given as goal

abbrev pub invariant-loop-job : goal.invariant-loop-job
invariant-loop-job g l =
    (pieces : List (List ℕ)) → AreJudged (asked l.judging.options.printing) pieces l.jobs → WroteAll (printing_by l.judging) l.judging.kept l.fn.tally l.tally (take l.job-index pieces) (g.W.Write.contents l.fn.writer) (g.W.Write.contents l.writer)
    (g.E.Write.contents l.fn.errors) (g.E.Write.contents l.errors)
