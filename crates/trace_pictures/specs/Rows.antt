-- The rows of a processor: its drawn events, barriers between them, and how many operations are left out.
use Rattle.std.specs.Prelude.{ℕ, zero, suc, ◌==◌, ◌&&◌, ◌||◌, Bool, false, not, nat_lt, List, [], ◌∷◌, ◌++◌, length, map, cond, slice_get}
use Rattle.std.specs.Option.{option_map_or, option_to_list}
use Rattle.std.specs.List.{count_by, filter, flat_map, list_any, range_with_len}
use Rattle.std.specs.Str.{bytes_eq}
use Rattle.line_text.specs.Lines.{is_empty}
use Rattle.tso_ops.specs.declared.ops.Outcome.{Outcome}
use Rattle.tso_ops.specs.Values.{TraceValue, op_of}
use Rattle.tso_ops.specs.Events.{event_total, outcomes_at}
use Rattle.tso_ops.specs.Limits.{barrier_count}
use Rattle.tso_ops.specs.Operations.{operation_at}
use Rattle.trace_explanation.specs.Names.{outcome_text}
use Rattle.trace_pictures.specs.declared.rows.Row.{Row}
use Rattle.trace_pictures.specs.declared.rows.Row.TheVariants.{Event, Barrier, Gap}

-- ---- the rows of an operation

-- event n is one of processor p, at a place that passes the test
abbrev pub stands : TraceValue → ℕ → (ℕ → Bool) → ℕ → Bool
stands t p test n = option_map_or (λ o. o.proc == p && test o.place) (operation_at t n) false

-- the rows of the drawn events that the operation at place i of processor p gives
abbrev pub event_rows : TraceValue → List ℕ → ℕ → ℕ → List Row
event_rows t drawn p i = map Event (filter (stands t p (λ place. place == i)) drawn)

-- where all events are drawn, barriers are too; else those with a drawn event of their processor before them and another after them
abbrev pub shows_barriers : TraceValue → List ℕ → ℕ → ℕ → Bool
shows_barriers t drawn p i =
    (length drawn == event_total t) || (list_any (stands t p (λ place. nat_lt place i)) drawn && list_any (stands t p (λ place. nat_lt i place)) drawn)

-- of the first `count` of these operations, those after the last one that has rows
abbrev pub without_rows : (ℕ → List Row) → List Outcome → ℕ → List Outcome
without_rows rows ops zero = []
without_rows rows ops (suc i) = cond (is_empty (rows i)) (without_rows rows ops i ++ option_to_list (slice_get ops i)) []

-- the word of an operation is that of one of these
abbrev pub has_word : Outcome → List Outcome → Bool
has_word o others = list_any (λ other. bytes_eq (outcome_text other) (outcome_text o)) others

-- the operation is a barrier, of another word than each of these
abbrev pub is_new_barrier : List Outcome → Outcome → Bool
is_new_barrier others o = barrier_count (op_of o) == 1 && not (has_word o others)

-- the row of an operation at place i that is a barrier: it is shown, and is the first of its word since the last drawn event
abbrev pub barrier_rows : TraceValue → List ℕ → ℕ → ℕ → Outcome → List Row
barrier_rows t drawn p i o =
    cond (shows_barriers t drawn p i && is_new_barrier (without_rows (event_rows t drawn p) (outcomes_at t p) i) o) (Barrier i o ∷ []) []

-- the rows of the operation at place i
abbrev pub rows_at : TraceValue → List ℕ → ℕ → ℕ → List Row
rows_at t drawn p i = event_rows t drawn p i ++ option_map_or (barrier_rows t drawn p i) (slice_get (outcomes_at t p) i) []

-- ---- all rows

-- the row that says how many operations are left out before place i: none where none are
abbrev pub gap_rows : ℕ → ℕ → List Row
gap_rows i zero = []
gap_rows i (suc k) = Gap i (suc k) ∷ []

-- how many loads, stores and swaps stand before place i and after the last row there
abbrev pub left_out : TraceValue → List ℕ → ℕ → ℕ → ℕ
left_out t drawn p i = count_by (λ o. barrier_count (op_of o) == 0) (without_rows (rows_at t drawn p) (outcomes_at t p) i)

-- the rows at place i, after what is left out before it
abbrev pub rows_after_gap : TraceValue → List ℕ → ℕ → ℕ → List Row
rows_after_gap t drawn p i = cond (is_empty (rows_at t drawn p i)) [] (gap_rows i (left_out t drawn p i) ++ rows_at t drawn p i)

-- the rows of processor p, with what is left out after the last
unfoldable pub rows_of : TraceValue → List ℕ → ℕ → List Row
rows_of t drawn p =
    flat_map (rows_after_gap t drawn p) (range_with_len 0 (length (outcomes_at t p))) ++ gap_rows (length (outcomes_at t p)) (left_out t drawn p (length (outcomes_at t p)))
