use Rattle.std.proofs.Common.{◌+◌, ◌*◌, arith}
use Rattle.std.specs.Int.{trailing_zeros, w64}
use Rattle.tso_rules.specs.Internal.MarkedRows.{IsOtherSource}
use Rattle.bitsets.proofs.WordFacts.{drop_less}
use Rattle.bitsets.proofs.MarkFacts.{Passed-step, Passed-end, marks_as}
use Rattle.tso_rules.proofs.OptionFacts.{some_as}
use Rattle.tso_rules.proofs.sources.mark_sources.Goals as goal

pub loop-left-smaller : goal.loop-left-smaller
loop-left-smaller c = drop_less c.loop-left.left (omega arith)

pub loop-left-preserved : goal.loop-left-preserved
loop-left-preserved c =
    let By = IsOtherSource c.args.trace.now c.args.u in
    Passed-step c.args.marks.now.items c.loop-left.marks.items c.mark_if_some.new.marks.items c.args.j c.args.word c.loop-left.left By c.loop-left.invariant (omega arith) (omega arith)
    (marks_as c.loop-left.marks.items c.mark_if_some.new.marks.items _ _ c.in_ok-mark_if_some.ensures
    (some_as c.other_source.result (By (64 * c.args.j + trailing_zeros w64 c.loop-left.left)) c.other_source.ensures.is c.other_source.ensures.all))

pub returns : goal.returns
returns c =
    Passed-end c.args.marks.now.items c.loop-left.marks.items c.args.j c.args.word c.loop-left.left (IsOtherSource c.args.trace.now c.args.u) (omega arith)
    c.loop-left.invariant
