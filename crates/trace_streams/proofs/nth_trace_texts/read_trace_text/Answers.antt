use Rattle.std.proofs.Common.{subst, take}
use Rattle.trace_streams.specs.Internal.Searches.{Finds}
use Rattle.trace_streams.proofs.NthFacts.{before_later, before_more, before_start, bytes_taken, end_read, trace_text_read, whole_taken}
use Rattle.trace_streams.proofs.nth_trace_texts.read_trace_text.Goals as goal

pub loop-init : goal.loop-init
loop-init g c = before_start c.args.number (g.R.Read.remaining c.args.reader.now) _ c.new.ensures.limit c.new.ensures.at c.saturating_sub.ensures

pub returns-then-count-eq0-clause-piece : goal.returns-then-count-eq0-clause-piece
returns-then-count-eq0-clause-piece g c =
    let at = before_later _ _ _ (g.R.Read.remaining c.read_some.new.reader) _ c.read_some.new.chunk _ c.if-count-eq0.true c.loop.invariant c.in_ok-count.ensures.taken in
    end_read _ _ _ _ at (c.in_ok-count.ensures.end c.if-count-eq0.true) c.last.result c.last.ensures.last c.last.ensures.none

pub returns-then-count-eq0-clause-taken : goal.returns-then-count-eq0-clause-taken
returns-then-count-eq0-clause-taken g c =
    let at = before_later _ _ _ (g.R.Read.remaining c.read_some.new.reader) _ c.read_some.new.chunk _ c.if-count-eq0.true c.loop.invariant c.in_ok-count.ensures.taken in
    (at.bytes, at.taken)

pub returns-then-count-eq0-clause-all : goal.returns-then-count-eq0-clause-all
returns-then-count-eq0-clause-all g c = λ none.
    let at = before_later _ _ _ (g.R.Read.remaining c.read_some.new.reader) _ c.read_some.new.chunk _ c.if-count-eq0.true c.loop.invariant c.in_ok-count.ensures.taken in
    whole_taken _ _ _ _ at (c.in_ok-count.ensures.end c.if-count-eq0.true)

pub returns-in-Some-clause-piece : goal.returns-in-Some-clause-piece
returns-in-Some-clause-piece g c =
    trace_text_read _ _ _ (g.R.Read.remaining c.read_some.new.reader) c.loop.search c.take.new.self c.loop.invariant (take c.in_ok-count.count c.read_some.new.chunk) c.in_ok-count.ensures.taken c.in-Some.piece
    (λ bytes at. subst (Finds c.loop.search c.take.new.self bytes (take c.in_ok-count.count c.read_some.new.chunk)) c.in-Some.is (c.in_ok-piece.ensures bytes at))

pub returns-in-Some-clause-taken : goal.returns-in-Some-clause-taken
returns-in-Some-clause-taken g c =
    bytes_taken _ _ _ (g.R.Read.remaining c.read_some.new.reader) c.loop.search c.take.new.self c.loop.invariant (take c.in_ok-count.count c.read_some.new.chunk) c.in_ok-count.ensures.taken

pub loop-preserved : goal.loop-preserved
loop-preserved g c =
    before_more _ _ _ (g.R.Read.remaining c.read_some.new.reader) c.loop.search c.take.new.self c.loop.invariant (take c.in_ok-count.count c.read_some.new.chunk) c.in_ok-count.ensures.taken
    (λ bytes at. subst (Finds c.loop.search c.take.new.self bytes (take c.in_ok-count.count c.read_some.new.chunk)) c.in-None.is (c.in_ok-piece.ensures bytes at))
