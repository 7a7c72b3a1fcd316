-- Lemmas on the rows of a processor.
use Rattle.std.proofs.Common.{◌≡◌, sym, ap, refl, ◌∙◌, ℕ, ◌+◌, ◌<◌, ◌≤◌, Bool, true, false, cond, eqb, List, [], ◌∷◌, ◌++◌, length, Some, slice_get, arith, add-one}
use Rattle.std.specs.Prelude.{◌==◌, ◌&&◌, ◌||◌}
use Rattle.std.specs.Str.{bytes_eq}
use Rattle.std.specs.Option.{option_map_or}
use Rattle.std.specs.List.{count_by, flat_map, list_any, range_with_len, sum_by}
use Rattle.std.proofs.Math.Bool.{or-false}
use Rattle.std.proofs.lemmas.Bool.Decides.{nat_tests}
use Rattle.std.proofs.lemmas.List.{append-nil}
use Rattle.std.proofs.lemmas.List.Concat.{flat_map-append}
use Rattle.std.proofs.lemmas.List.Folds.{list_any-append}
use Rattle.std.proofs.lemmas.List.Sums.{sum_by-append}
use Rattle.line_text.specs.Lines.{is_empty}
use Rattle.tso_ops.specs.declared.ops.Outcome.{Outcome}
use Rattle.tso_ops.specs.Values.{TraceValue, op_of}
use Rattle.tso_ops.specs.Events.{outcomes_at}
use Rattle.tso_ops.specs.Limits.{barrier_count}
use Rattle.trace_explanation.specs.Names.{outcome_text}
use Rattle.trace_explanation.proofs.SearchFacts.{places_more}
use Rattle.trace_pictures.specs.declared.rows.Row.{Row}
use Rattle.trace_pictures.specs.declared.rows.Row.TheVariants.{Barrier}
use Rattle.trace_pictures.specs.Rows.{barrier_rows, event_rows, gap_rows, has_word, is_new_barrier, left_out, rows_after_gap, rows_at, shows_barriers, without_rows}

-- a list is empty exactly where its length is 0
pub empty-is : {X : Type 0} (xs : List X) (n : ℕ) → n ≡ length xs → eqb n 0 ≡ is_empty xs
empty-is [] n count = ap (λ m. eqb m 0) count
empty-is (x ∷ xs) n count = let above : 0 < n = omega (arith, count) in grind (arith, nat_tests)

-- one more operation
abbrev one_more : ℕ → Outcome → ℕ
one_more left o = left + cond (barrier_count (op_of o) == 0) 1 0

counted : (empty : Bool) (o : Outcome) (ops : List Outcome) →
    count_by (λ x. barrier_count (op_of x) == 0) (cond empty (ops ++ o ∷ []) []) ≡ cond empty (one_more (count_by (λ x. barrier_count (op_of x) == 0) ops) o) 0
counted true o ops =
    let count : Outcome → ℕ = λ x. cond (barrier_count (op_of x) == 0) 1 0 in
    let one : sum_by count (o ∷ []) ≡ count o = omega arith in
    sum_by-append count ops (o ∷ []) ∙ ap (λ n. sum_by count ops + n) one
counted false o ops = refl

one-most : (b : Bool) → cond b 1 0 ≤ 1
one-most true = omega arith
one-most false = omega arith

-- no more operations are left out than there are
pub left-most : (empty : Bool) (left i new : ℕ) (o : Outcome) → left ≤ i → new ≡ cond empty (one_more left o) 0 → new ≤ i + 1
left-most true left i new o most is = let one = one-most (barrier_count (op_of o) == 0) in omega (arith, most, is, one)
left-most false left i new o most is = omega (arith, is)

-- those without rows, after one more operation
without-more : (rows : ℕ → List Row) (ops : List Outcome) (i : ℕ) (o : Outcome) → slice_get ops i ≡ Some o → without_rows rows ops (i + 1) ≡ cond (is_empty (rows i)) (without_rows rows ops i ++ o ∷ []) []
without-more rows ops i o at = ap (without_rows rows ops) (add-one i) ∙ rw at refl

word-cond : (b o : Outcome) (ops : List Outcome) (empty : Bool) → has_word b (cond empty (ops ++ o ∷ []) []) ≡ cond empty (has_word b ops || bytes_eq (outcome_text o) (outcome_text b)) false
word-cond b o ops true =
    let same : Outcome → Bool = λ x. bytes_eq (outcome_text x) (outcome_text b) in
    list_any-append same ops (o ∷ []) ∙ ap (λ x. list_any same ops || x) (or-false (same o))
word-cond b o ops false = refl

module _ (t : TraceValue) (drawn : List ℕ) (p i : ℕ) where
  -- what a step of the walk over the operations knows
  pub record At (events here : List Row) (o : Outcome) : Type 0 where
    pub events_are : events ≡ event_rows t drawn p i
    pub operation : slice_get (outcomes_at t p) i ≡ Some o
    pub rows : here ≡ events ++ cond (shows_barriers t drawn p i && is_new_barrier (without_rows (event_rows t drawn p) (outcomes_at t p) i) o) (Barrier i o ∷ []) []

  here-is : (events here : List Row) (o : Outcome) → At events here o → here ≡ rows_at t drawn p i
  here-is events here o at =
      let before = without_rows (event_rows t drawn p) (outcomes_at t p) i in
      at.rows ∙ ap (λ e. e ++ cond (shows_barriers t drawn p i && is_new_barrier before o) (Barrier i o ∷ []) []) at.events_are
      ∙ ap (λ x. event_rows t drawn p i ++ option_map_or (barrier_rows t drawn p i) x []) (sym at.operation)

  pub rows-more : (events here : List Row) (o : Outcome) → At events here o → (left : ℕ) (old new : List Row) →
      old ≡ flat_map (rows_after_gap t drawn p) (range_with_len 0 i) → left ≡ left_out t drawn p i → new ≡ old ++ cond (is_empty here) [] (gap_rows i left ++ here) →
      new ≡ flat_map (rows_after_gap t drawn p) (range_with_len 0 (i + 1))
  rows-more events here o at left old new before out added =
      let all = rows_after_gap t drawn p in
      added ∙ ap (λ r. r ++ cond (is_empty here) [] (gap_rows i left ++ here)) before
      ∙ ap (λ l. flat_map all (range_with_len 0 i) ++ cond (is_empty here) [] (gap_rows i l ++ here)) out
      ∙ ap (λ h. flat_map all (range_with_len 0 i) ++ cond (is_empty h) [] (gap_rows i (left_out t drawn p i) ++ h)) (here-is events here o at)
      ∙ ap (λ r. flat_map all (range_with_len 0 i) ++ r) (sym (append-nil (all i)))
      ∙ sym (flat_map-append all (range_with_len 0 i) (i ∷ [])) ∙ ap (flat_map all) (sym (places_more i))

  pub left-more : (events here : List Row) (o : Outcome) → At events here o → (left new : ℕ) → left ≡ left_out t drawn p i →
      new ≡ cond (is_empty here) (one_more left o) 0 → new ≡ left_out t drawn p (i + 1)
  left-more events here o at left new out is =
      let before = without_rows (rows_at t drawn p) (outcomes_at t p) i in
      is ∙ ap (λ h. cond (is_empty h) (one_more left o) 0) (here-is events here o at) ∙ ap (λ l. cond (is_empty (rows_at t drawn p i)) (one_more l o) 0) out
      ∙ sym (counted (is_empty (rows_at t drawn p i)) o before)
      ∙ ap (count_by (λ x. barrier_count (op_of x) == 0)) (sym (without-more (rows_at t drawn p) (outcomes_at t p) i o at.operation))

  pub word-more : (events here : List Row) (o b : Outcome) → At events here o → (old new : Bool) → old ≡ has_word b (without_rows (event_rows t drawn p) (outcomes_at t p) i) →
      new ≡ cond (is_empty events) (old || bytes_eq (outcome_text o) (outcome_text b)) false → new ≡ has_word b (without_rows (event_rows t drawn p) (outcomes_at t p) (i + 1))
  word-more events here o b at old new before is =
      let ops = without_rows (event_rows t drawn p) (outcomes_at t p) i in
      is ∙ ap (λ e. cond (is_empty e) (old || bytes_eq (outcome_text o) (outcome_text b)) false) at.events_are
      ∙ ap (λ x. cond (is_empty (event_rows t drawn p i)) (x || bytes_eq (outcome_text o) (outcome_text b)) false) before ∙ sym (word-cond b o ops (is_empty (event_rows t drawn p i)))
      ∙ ap (has_word b) (sym (without-more (event_rows t drawn p) (outcomes_at t p) i o at.operation))
