use Rattle.std.proofs.Common.{◌≡◌, ◌∙◌, ◌++◌, [], ℕ, ap, arith, drop, length, subst, sym, take}
use Rattle.std.specs.Global.{Vec}
use Rattle.std.proofs.lemmas.List.{take_all, take_rest}
use Rattle.trace_streams.specs.StreamSplitters.{IsAt, StreamSplitterValue, part_at}
use Rattle.trace_streams.specs.TraceTexts.{EndsWithin}
use Rattle.trace_streams.proofs.StreamSplitterFacts.{part_first, part_later}
use Rattle.trace_streams.proofs.TraceTextFacts.{ends_at_start}
use Rattle.trace_streams.proofs.stream_splitters.StreamSplitter.take_trace_text.Goals as goal
use Rattle.trace_streams.proofs.stream_splitters.StreamSplitter.take_trace_text.Goals.{then-start-gt0, else-start-gt0}

pub returns-in_ok-extend_within-in-TraceTextEnd-clause-piece : goal.returns-in_ok-extend_within-in-TraceTextEnd-clause-piece
returns-in_ok-extend_within-in-TraceTextEnd-clause-piece c = λ bytes at.
    let before = subst (λ v. IsAt v bytes) (sym c.self.view_is) at in
    let kept = c.in_ok-extend_within-in-TraceTextEnd.ensures bytes before.kept in
    let empty = ap (λ (v : Vec ℕ). v.items) c.replace-piece.ensures.after ∙ c.new.ensures.items in (
      c.in-TraceTextEnd.ensures.found bytes before.part before.ends (c.as_slice.ensures.value ∙ before.line),
      ap (λ (v : Vec ℕ). v.items) c.replace-piece.ensures.value ∙ kept ∙ ap (λ (v : StreamSplitterValue). take v.limit (bytes ++ take c.in-TraceTextEnd.end c.args.chunk.now)) c.self.view_is,
      record { part = []; ends = ends_at_start; kept = empty ∙ sym (take_all c.self.inside.limit [] (omega arith)); line = c.clear.ensures.items },
    )

pub returns-in_ok-extend_within-in-LastLine-2-clause-piece : goal.returns-in_ok-extend_within-in-LastLine-2-clause-piece
returns-in_ok-extend_within-in-LastLine-2-clause-piece c = λ bytes at.
    let before = subst (λ v. IsAt v bytes) (sym c.self.view_is) at in
    let chunk = c.args.chunk.now in
    let start = c.in-LastLine.start in
    let all = ap (λ t. bytes ++ t) (sym (take_all (length chunk) chunk (omega arith))) in
    let kept = c.in_ok-extend_within-in-LastLine.ensures bytes before.kept in
    let now : c.if-start-gt0.self-inside.kept.items ≡ take c.if-start-gt0.self-inside.limit (bytes ++ chunk) = elim c.if-start-gt0.branch [
      | then-start-gt0 w ↦ rw w.self-inside-is kept
      | else-start-gt0 w ↦ rw w.self-inside-is kept
    ] in
    let part : c.if-start-gt0.self-inside.line.items ≡ take 4 (part_at start before.part) = elim c.if-start-gt0.branch [
      | then-start-gt0 w ↦ rw w.self-inside-is (w.clear-then-start-gt0.ensures.items ∙ ap (take 4) (sym (part_later start before.part w.if-start-gt0.true)))
      | else-start-gt0 w ↦ rw w.self-inside-is (before.line ∙ ap (take 4) (sym (part_first start before.part w.if-start-gt0.false)))
    ] in
    record {
      part = part_at start before.part ++ drop start chunk;
      ends = subst (λ t. EndsWithin t (part_at start before.part ++ drop start chunk)) all (c.in-LastLine.ensures.found bytes before.part before.ends (c.as_slice.ensures.value ∙ before.line));
      kept = now ∙ ap (take c.if-start-gt0.self-inside.limit) all;
      line = c.in_ok-extend_within-in-LastLine-2.ensures (part_at start before.part) part ∙ ap (λ t. take 4 (part_at start before.part ++ t)) (take_rest chunk start);
    }
