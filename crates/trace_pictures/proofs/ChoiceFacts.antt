-- Lemmas on how many events are drawn, and that all are where they are few.
use Rattle.std.proofs.Common.{◌≡◌, ℕ, zero, suc, ◌+◌, ◌<◌, ◌≤◌, Bool, true, false, cond, eqb, List, [], ◌∷◌, ◌++◌, length, refl, arith, length-append}
use Rattle.std.specs.Prelude.{Option, ◌&&◌, ◌||◌, nat_le, not}
use Rattle.std.specs.List.{fold, range_with_len}
use Rattle.std.proofs.lemmas.Bool.Decides.{nat_tests}
use Rattle.std.proofs.lemmas.List.FromFn.{length-range_with_len}
use Rattle.tso_ops.specs.Values.{TraceValue}
use Rattle.tso_ops.specs.Events.{event_total}
use Rattle.tso_cert.specs.declared.steps.Certificate.{Certificate}
use Rattle.trace_explanation.specs.Names.{event_numbers}
use Rattle.trace_explanation.specs.Steps.{is_among}
use Rattle.trace_pictures.specs.Choice.{drawn_events, wanted, whole_at, with_whole}

within : (n : ℕ) → nat_le n 100 ≡ true → n ≤ 100
within n fits = grind (arith, nat_tests, fits)

added_most : (fresh fits : Bool) (drawn whole : List ℕ) → nat_le (length drawn + length whole) 100 ≡ fits → length drawn ≤ 100 → length (cond (fresh && fits) (drawn ++ whole) drawn) ≤ 100
added_most true true drawn whole is most =
    let all = within (length drawn + length whole) is in
    let count = length-append drawn whole in
    omega (arith, all, count)
added_most true false drawn whole is most = most
added_most false fits drawn whole is most = most

whole_most : (t : TraceValue) (drawn : List ℕ) (n : ℕ) → length drawn ≤ 100 → length (with_whole t drawn n) ≤ 100
unfolding with_whole
whole_most t drawn n most =
    let whole = whole_at t n in
    added_most (not (is_among n drawn)) (nat_le (length drawn + length whole) 100) drawn whole refl most

wholes_most : (t : TraceValue) (drawn numbers : List ℕ) → length drawn ≤ 100 → length (fold (with_whole t) drawn numbers) ≤ 100
wholes_most t drawn [] most = most
wholes_most t drawn (n ∷ more) most = wholes_most t (with_whole t drawn n) more (whole_most t drawn n most)

either_most : (all : Bool) (t : TraceValue) (c : Option Certificate) → nat_le (event_total t) 100 ≡ all → length (cond all (event_numbers t) (fold (with_whole t) [] (wanted t c))) ≤ 100
either_most true t c is = let count = length-range_with_len 1 (event_total t) in let few = within (event_total t) is in omega (arith, count, few)
either_most false t c is = wholes_most t [] (wanted t c) (omega arith)

pub drawn_most : (t : TraceValue) (c : Option Certificate) → length (drawn_events t c) ≤ 100
unfolding drawn_events
drawn_most t c = either_most (nat_le (event_total t) 100) t c refl

-- ---- all events

-- each number of a range is among its numbers
among_range : (first count n : ℕ) → first ≤ n → n < first + count → is_among n (range_with_len first count) ≡ true
among_range first zero n above below = absurd (omega (arith, above, below))
among_range first (suc count) n above below = by_test (eqb first n) refl (λ later. among_range (first + 1) count n (omega arith) (omega arith))
  where
    by_test : (b : Bool) → eqb first n ≡ b → (first < n → is_among n (range_with_len (first + 1) count) ≡ true) → (b || is_among n (range_with_len (first + 1) count)) ≡ true
    by_test true same rest = refl
    by_test false other rest = rest (grind (arith, nat_tests, above))

pub all_drawn : (t : TraceValue) (c : Option Certificate) (n : ℕ) → event_total t ≤ 100 → 0 < n → n ≤ event_total t → is_among n (drawn_events t c) ≡ true
unfolding drawn_events
all_drawn t c n few above most = let test : nat_le (event_total t) 100 ≡ true = grind (arith, nat_tests) in rw test (among_range 1 (event_total t) n (omega arith) (omega arith))
