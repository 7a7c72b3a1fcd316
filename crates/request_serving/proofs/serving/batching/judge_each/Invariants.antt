use Rattle.std.proofs.Common.{take}
use Rattle.request_serving.specs.Internal.Batching.{files_in}
use Rattle.request_serving.proofs.BatchingFacts.{AreJudged}
use Rattle.request_serving.proofs.serving.batching.judge_each.Given as goal

abbrev pub invariant-loop-i : goal.invariant-loop-i
invariant-loop-i g l =
    AreJudged g.R.Read.remaining l.several (g.R.Read.remaining l.fn.reader) (g.O.Environment.bytes l.fn.files) l.request.printing l.batch (g.W.Write.contents l.fn.writer) (g.W.Write.contents l.writer)
    (g.E.Write.contents l.fn.errors) (g.E.Write.contents l.errors) (g.O.Environment.opened l.fn.files) (g.O.Environment.opened l.files) l.fn.reader l.reader (g.O.Environment.bytes l.files)
    (files_in (take l.i l.request.texts.items))
