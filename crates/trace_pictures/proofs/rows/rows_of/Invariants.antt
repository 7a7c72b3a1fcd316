use Rattle.std.proofs.Common.{◌≡◌, ◌≤◌}
use Rattle.std.specs.List.{flat_map, range_with_len}
use Rattle.tso_ops.specs.declared.ops.Outcome.TheVariants.{Mb, Sb}
use Rattle.tso_ops.specs.Events.{outcomes_at}
use Rattle.trace_pictures.specs.Rows.{event_rows, has_word, left_out, rows_after_gap, without_rows}
use Rattle.trace_pictures.proofs.rows.rows_of.Given as goal

abbrev pub invariant-loop-place : goal.invariant-loop-place
invariant-loop-place l =
    (l.rows.items ≡ flat_map (rows_after_gap l.placed l.drawn l.p) (range_with_len 0 l.place)) × (l.left_out ≡ left_out l.placed l.drawn l.p l.place)
    × (l.barriers.membar ≡ has_word Mb (without_rows (event_rows l.placed l.drawn l.p) (outcomes_at l.placed l.p) l.place))
    × (l.barriers.stbar ≡ has_word Sb (without_rows (event_rows l.placed l.drawn l.p) (outcomes_at l.placed l.p) l.place)) × (l.left_out ≤ l.place)
