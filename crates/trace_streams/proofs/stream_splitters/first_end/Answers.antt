use Rattle.std.proofs.Common.{Bor, ◌∙◌, ◌+◌, ◌++◌, List, ℕ, ap, arith, drop, subst, sym, take}
use Rattle.std.proofs.lemmas.Bool.{both_ways}
use Rattle.trace_streams.specs.StreamSplitters.{part_at}
use Rattle.trace_streams.specs.TraceTexts.{EndsWithin}
use Rattle.trace_streams.proofs.StreamSplitterFacts.{at_line_end, at_trace_text_end, line_begins, part_later, within_line}
use Rattle.trace_streams.proofs.stream_splitters.first_end.Goals as goal
use Rattle.trace_streams.proofs.stream_splitters.first_end.Goals.{then-chunk-i-eq-LINE_END+else-is_end_line, else-chunk-i-eq-LINE_END}

pub returns-then-is_end_line-clause-found : goal.returns-then-is_end_line-clause-found
returns-then-is_end_line-clause-found c = λ bytes part ends line.
    let now = c.loop-i.invariant in
    at_trace_text_end bytes (part_at c.loop-i.start part) c.args.chunk.now c.loop-i.start c.loop-i.i now.reached c.loop-i-test.true (now.within bytes part ends line) c.loop-i.before.now (now.before part line)
    c.if-chunk-i-eq-LINE_END.true (c.is_end_line.ensures.0 c.if-is_end_line.true)

pub loop-i-preserved : goal.loop-i-preserved
loop-i-preserved c =
    let chunk = c.args.chunk.now in
    let start = c.loop-i.start in
    let i = c.loop-i.i in
    let now = c.loop-i.invariant in
    elim c.if-chunk-i-eq-LINE_END.branch [
      | then-chunk-i-eq-LINE_END+else-is_end_line w ↦
          record {
            reached = (let is = w.start-is in omega (arith, is));
            before = λ part line. ap (λ (b : Bor (List ℕ)). b.now) w.before-is ∙ ap (take 4) (sym (part_later (i + 1) part (omega arith))) ∙ ap (λ s. take 4 (part_at s part)) (sym w.start-is);
            within = λ bytes part ends line.
                subst (λ s. EndsWithin (bytes ++ take (i + 1) chunk) (part_at s part ++ drop s (take (i + 1) chunk))) (sym w.start-is)
                (line_begins bytes part chunk i
                (at_line_end bytes (part_at start part) chunk start i now.reached c.loop-i-test.true (now.within bytes part ends line) c.loop-i.before.now (now.before part line) w.if-chunk-i-eq-LINE_END.true
                (λ end. both_ways _ w.if-is_end_line.false (w.is_end_line.ensures.1 end))));
          }
      | else-chunk-i-eq-LINE_END w ↦
          record {
            reached = (let is = w.start-is in let so_far = now.reached in omega (arith, is, so_far));
            before = λ part line. ap (λ (b : Bor (List ℕ)). b.now) w.before-is ∙ now.before part line ∙ ap (λ s. take 4 (part_at s part)) (sym w.start-is);
            within = λ bytes part ends line.
                subst (λ s. EndsWithin (bytes ++ take (i + 1) chunk) (part_at s part ++ drop s (take (i + 1) chunk))) (sym w.start-is)
                (within_line bytes (part_at start part) chunk start i now.reached c.loop-i-test.true (now.within bytes part ends line) w.if-chunk-i-eq-LINE_END.false);
          }
    ]
