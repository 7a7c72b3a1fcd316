use Rattle.std.proofs.Common.{rules}
use Rattle.trace_batches.proofs.BatchFacts.{all_taken, last_left, last_told, stands_left}
use Rattle.trace_batches.proofs.batches.judge_trace_texts.Goals as goal

pub returns-in_err-pieces-clause-left : goal.returns-in_err-pieces-clause-left
returns-in_err-pieces-clause-left g c =
    let left = stands_left _ _ _ _ _ _ _ _ _ _ c.in_ok-splitter.ensures.stands in
    search (rules, left)

pub returns-in_err-tell-clause-left : goal.returns-in_err-tell-clause-left
returns-in_err-tell-clause-left g c =
    let left = last_left _ _ _ _ _ _ _ _ _ _ _ _ c.in_ok-pieces.pieces.items c.in_ok-splitter.ensures.stands c.in_ok-splitter.ensures.end c.in_ok-pieces.ensures c.in_err-tell.ensures.some in
    search (rules, left)

pub returns-clause-told : goal.returns-clause-told
returns-clause-told g c = last_told _ _ _ _ _ _ _ _ _ _ _ _ _ c.in_ok-pieces.pieces.items c.in_ok-splitter.ensures.stands c.in_ok-splitter.ensures.end c.in_ok-pieces.ensures c.in_ok-tell.ensures.whole

pub returns-clause-taken : goal.returns-clause-taken
returns-clause-taken g c = all_taken _ _ _ _ _ _ _ _ _ _ c.in_ok-splitter.ensures.stands c.in_ok-splitter.ensures.end
