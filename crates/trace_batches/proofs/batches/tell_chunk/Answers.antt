use Rattle.std.proofs.Common.{◌+◌, ◌-◌, ℕ, List, Option, drop, length, rules, subst, take, arith}
use Rattle.std.specs.Io.KnownBytes.{Consumes, prepend_known}
use Rattle.std.proofs.lemmas.List.{drop-drop, length-drop, take_rest}
use Rattle.std.specs.Global.{Vec}
use Rattle.trace_streams.specs.StreamSplitters.{StreamSplitterValue, Cuts, IsAt}
use Rattle.trace_batches.specs.Internal.Progress.{HasWrittenSoFar, printing_by}
use Rattle.trace_batches.proofs.BatchFacts.{chunk_left, chunk_told, front_taken, stands_left}
use Rattle.trace_batches.proofs.batches.tell_chunk.Goals as goal

-- the next bytes of the chunk, after those up to a place
next_taken : (chunk : List ℕ) (from count : ℕ) (now : Option (List ℕ)) → Consumes (prepend_known (drop from chunk) now) (prepend_known (drop (from + count) chunk) now) (take count (drop from chunk))
next_taken chunk from count now =
    subst (λ d. Consumes (prepend_known (drop from chunk) now) (prepend_known d now) (take count (drop from chunk))) (drop-drop count from chunk) (front_taken (drop from chunk) count now)

-- what was cut of the rest of the chunk
cuts_rest : (splitter after : StreamSplitterValue) (chunk : List ℕ) (from count : ℕ) (pieces : List (Vec ℕ)) →
    ((bytes : List ℕ) → IsAt splitter bytes → Cuts splitter after bytes (take count (take (length chunk - from) (drop from chunk))) pieces) →
    (bytes : List ℕ) → IsAt splitter bytes → Cuts splitter after bytes (take count (drop from chunk)) pieces
cuts_rest splitter after chunk from count pieces cuts bytes at = subst (λ d. Cuts splitter after bytes (take count d) pieces) (take_rest chunk from) (cuts bytes at)

pub returns-in_err-pieces-clause-left : goal.returns-in_err-pieces-clause-left
returns-in_err-pieces-clause-left g c =
    let left = λ (remaining now old before : Option (List ℕ)) (s : HasWrittenSoFar (printing_by c.args.judging.now) c.args.judging.now.kept remaining (prepend_known c.args.chunk.now now) old (g.W.Write.contents c.args.writer.now) before
    (g.E.Write.contents c.args.errors.now) c.args.progress.now.splitter c.args.progress.now.tally).
    stands_left _ _ _ _ _ _ _ _ _ _ (c.loop-from.invariant.stands remaining now old before s) in
    search (rules, left)

pub returns-in_err-tell-clause-left : goal.returns-in_err-tell-clause-left
returns-in_err-tell-clause-left g c =
    let chunk = c.args.chunk.now in
    let from = c.loop-from.from in
    let count = c.in_ok-pieces.count in
    let left = λ (remaining now old before : Option (List ℕ)) (s : HasWrittenSoFar (printing_by c.args.judging.now) c.args.judging.now.kept remaining (prepend_known c.args.chunk.now now) old (g.W.Write.contents c.args.writer.now) before
    (g.E.Write.contents c.args.errors.now) c.args.progress.now.splitter c.args.progress.now.tally).
    chunk_left _ _ _ _ (prepend_known (drop (from + count) chunk) now) _ _ _ _ _ _ _ _ _ (take count (drop from chunk)) c.in_ok-pieces.pieces.items (c.loop-from.invariant.stands remaining now old before s)
    (next_taken chunk from count now) (cuts_rest c.loop-from.progress.splitter c.cut.new.self chunk from count c.in_ok-pieces.pieces.items c.in_ok-pieces.ensures.cut) c.in_err-tell.ensures.some in
    search (rules, left)

pub loop-from-preserved : goal.loop-from-preserved
loop-from-preserved g c = record {
  within = (let more = c.in_ok-pieces.ensures.within in let rest = length-drop c.loop-from.from c.args.chunk.now in let so_far = c.loop-from.invariant.within in omega (arith, more, rest, so_far));
  stands = λ remaining now old before s.
      let chunk = c.args.chunk.now in
      let from = c.loop-from.from in
      let count = c.in_ok-pieces.count in
      chunk_told (printing_by c.args.judging.now) c.args.judging.now.kept remaining (prepend_known (drop from chunk) now) (prepend_known (drop (from + count) chunk) now) old (g.W.Write.contents c.loop-from.writer)
      (g.W.Write.contents c.tell.new.writer) before (g.E.Write.contents c.loop-from.errors) (g.E.Write.contents c.tell.new.errors) c.loop-from.progress.splitter c.cut.new.self c.loop-from.progress.tally c.tell.new.tally (take count (drop from chunk)) c.in_ok-pieces.pieces.items
      (c.loop-from.invariant.stands remaining now old before s) (next_taken chunk from count now) (cuts_rest c.loop-from.progress.splitter c.cut.new.self chunk from count c.in_ok-pieces.pieces.items c.in_ok-pieces.ensures.cut) c.in_ok-tell.ensures.whole;
}
