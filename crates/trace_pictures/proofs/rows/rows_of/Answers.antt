use Rattle.std.proofs.Common.{◌≡◌, ◌∙◌, [], ◌∷◌, ◌++◌, ap, cond, get_or, slice_get, sym}
use Rattle.std.specs.Prelude.{◌&&◌}
use Rattle.std.proofs.lemmas.Option.{slice_get-get_or}
use Rattle.line_text.specs.Lines.{is_empty}
use Rattle.tso_ops.specs.declared.ops.Outcome.TheVariants.{Ld, Mb, Sb}
use Rattle.tso_ops.specs.Events.{outcomes_at}
use Rattle.trace_pictures.specs.declared.rows.Row.TheVariants.{Barrier}
use Rattle.trace_pictures.specs.Rows.{event_rows, gap_rows, shows_barriers, without_rows}
use Rattle.trace_pictures.proofs.RowFacts.{At, empty-is, left-most, left-more, rows-more, word-more}
use Rattle.trace_pictures.proofs.rows.rows_of.Goals as goal

pub loop-place-preserved : goal.loop-place-preserved
loop-place-preserved c =
    let t = c.args.placed.now in
    let drawn = c.args.drawn.now in
    let p = c.args.p in
    let i = c.loop-place.place in
    let same : c.ops-ops.result.now ≡ outcomes_at t p = c.ops-ops.ensures ∙ ap (λ s. outcomes_at s p) c.trace.ensures in
    let o = get_or c.ops-ops.result.now i (Ld 0 0) in
    let events = c.in_ok-here.here.items in
    let here = c.push_barrier.new.rows.items in
    let left = c.loop-place.left_out in
    let found = slice_get-get_or c.ops-ops.result.now i (Ld 0 0) c.loop-place-test.true in
    let new = c.is_new_barrier-new.ensures (without_rows (event_rows t drawn p) (outcomes_at t p) i) c.loop-place.invariant.2 c.loop-place.invariant.3 in
    let at : At t drawn p i events here o = record {
      events_are = c.in_ok-here.ensures;
      operation = ap (λ ops. slice_get ops i) (sym same) ∙ found;
      rows =
          c.in_ok-push_barrier.ensures ∙ ap (λ b. events ++ cond (b && c.is_new_barrier-new.result) (Barrier i o ∷ []) []) c.shows_barriers-shows.ensures
          ∙ ap (λ b. events ++ cond (shows_barriers t drawn p i && b) (Barrier i o ∷ []) []) new;
    } in
    let no_events = c.is_empty-no_events.ensures ∙ empty-is events c.in_ok-here.here.len c.in_ok-here.here.ok.0 in
    let no_rows = c.is_empty.ensures ∙ empty-is here c.push_barrier.new.rows.len c.push_barrier.new.rows.ok.0 in
    let counted = rw no_rows at c.left_out_after-left_out.ensures in (
      rows-more t drawn p i events here o at left c.loop-place.rows.items c.push_after_gap.new.rows.items c.loop-place.invariant.0 c.loop-place.invariant.1
          (c.in_ok-push_after_gap.ensures ∙ ap (λ h. c.loop-place.rows.items ++ cond (is_empty h) [] (gap_rows i left ++ h)) c.deref.ensures.value),
      left-more t drawn p i events here o at left _ c.loop-place.invariant.1 counted,
      word-more t drawn p i events here o Mb at c.loop-place.barriers.membar _ c.loop-place.invariant.2 (rw no_events at c.barriers_after-barriers.ensures.membar),
      word-more t drawn p i events here o Sb at c.loop-place.barriers.stbar _ c.loop-place.invariant.3 (rw no_events at c.barriers_after-barriers.ensures.stbar),
      left-most (is_empty here) left i _ o c.loop-place.invariant.4 counted,
    )
