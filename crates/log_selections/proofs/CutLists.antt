-- The events of what is cut out of the lists of a log's processors.
use Rattle.std.proofs.Common.{◌≡◌, ℕ, suc, ◌+◌, ◌≤◌, List, [], ◌∷◌, ◌++◌, map, Some, slice_get, refl, sym, ap, subst, ◌∙◌, arith}
use Rattle.std.proofs.lemmas.Bool.{false≢true}
use Rattle.std.proofs.lemmas.List.Sums.{sum_by-cons}
use Rattle.tso_ops.specs.declared.ops.Outcome.{Outcome}
use Rattle.tso_ops.specs.declared.ops.Outcome.TheVariants.{Ld, St, Sw, Mb, Sb}
use Rattle.tso_ops.specs.declared.events.Event.{Event}
use Rattle.tso_ops.specs.Values.{op_of}
use Rattle.tso_ops.specs.Limits.{event_count, total_events}
use Rattle.tso_ops.specs.Events.{events_from, events_of_lists}
use Rattle.log_selections.specs.Cuts.{IsKept, nothing, load, store, swap, membar, stbar, swap_load, swap_store, IsCutFrom, ended, operation, AreCutFrom, no_more, left_out, processor}
use Rattle.log_selections.proofs.CutEvents.{IsEventFrom, AreEventsFrom, none, skip, take, next}

-- how many barriers or STBARs stand after the operation, with so many before it
abbrev bars_after : Outcome → ℕ → ℕ
bars_after Mb bars = suc bars
bars_after _ bars = bars

abbrev stbars_after : Outcome → ℕ → ℕ
stbars_after Sb stbars = suc stbars
stbars_after _ stbars = stbars

after_up : (x : Outcome) (bars stbars : ℕ) → (bars ≤ bars_after x bars) × (stbars ≤ stbars_after x stbars)
after_up Mb bars stbars = (omega arith, omega arith)
after_up x bars stbars = (omega arith, omega arith)

-- as many more where more stand before it
after_more : (x : Outcome) (bars more log_bars : ℕ) → log_bars ≡ bars + more →
    (bars_after x log_bars ≡ bars + bars_after x more) × (stbars_after x log_bars ≡ bars + stbars_after x more)
after_more Mb bars more log_bars is = (omega arith, is)
after_more Sb bars more log_bars is = (is, omega arith)
after_more x bars more log_bars is = (is, is)

-- the number after one more operation and more of them
number_after : (n : ℕ) (x : Outcome) (xs : List Outcome) → n + total_events (map op_of (x ∷ xs)) ≡ (n + event_count (op_of x)) + total_events (map op_of xs)
number_after n x xs = omega (arith, sum_by-cons event_count (op_of x) (map op_of xs))

-- events of one kind and of addresses of this name
from_same : (addresses : List ℕ) (a b : ℕ) → slice_get addresses b ≡ Some a → (d e : Event) → e.load ≡ d.load → d.a ≡ a → e.a ≡ b → IsEventFrom addresses d e
from_same addresses a b at d e kind a_d a_e = record {
  load = kind;
  address = ap (slice_get addresses) a_e ∙ at ∙ ap (λ x. Some x) (sym a_d);
}

module _ (addresses : List ℕ) (p q : ℕ) where
  at_number : (m n bars stbars : ℕ) (ds es : List Event) (origins : List ℕ) → m ≡ n → AreEventsFrom addresses p q m bars stbars ds es origins
      → AreEventsFrom addresses p q n bars stbars ds es origins
  at_number m n bars stbars ds es origins same events = subst (λ x. AreEventsFrom addresses p q x bars stbars ds es origins) same events

  -- with the events prepended of an operation of the log that is left out, of its processor r
  without_operation : (x : Outcome) (r n bars stbars log_bars log_stbars : ℕ) (xs : List Outcome) (ds es : List Event) (origins : List ℕ)
      → AreEventsFrom addresses p q (n + event_count (op_of x)) bars stbars (events_from r (bars_after x log_bars) (stbars_after x log_stbars) xs ++ ds) es origins
      → AreEventsFrom addresses p q n bars stbars (events_from r log_bars log_stbars (x ∷ xs) ++ ds) es origins
  without_operation (Ld a r) of n bars stbars log_bars log_stbars xs ds es origins rest =
      skip p q n bars stbars _ _ es origins (at_number (n + 1) (suc n) bars stbars _ es origins (omega arith) rest)
  without_operation (St a v) of n bars stbars log_bars log_stbars xs ds es origins rest =
      skip p q n bars stbars _ _ es origins (at_number (n + 1) (suc n) bars stbars _ es origins (omega arith) rest)
  without_operation (Sw a r v) of n bars stbars log_bars log_stbars xs ds es origins rest =
      skip p q n bars stbars _ _ es origins
      (skip p q (suc n) bars stbars _ _ es origins (at_number (n + 2) (suc (suc n)) bars stbars _ es origins (omega arith) rest))
  without_operation Mb of n bars stbars log_bars log_stbars xs ds es origins rest = at_number (n + 0) n bars stbars _ es origins (omega arith) rest
  without_operation Sb of n bars stbars log_bars log_stbars xs ds es origins rest = at_number (n + 0) n bars stbars _ es origins (omega arith) rest

  -- and of a whole processor
  without_processor : (xs : List Outcome) (r n bars stbars log_bars log_stbars : ℕ) (ds es : List Event) (origins : List ℕ)
      → AreEventsFrom addresses p q (n + total_events (map op_of xs)) bars stbars ds es origins
      → AreEventsFrom addresses p q n bars stbars (events_from r log_bars log_stbars xs ++ ds) es origins
  without_processor [] r n bars stbars log_bars log_stbars ds es origins rest = at_number (n + 0) n bars stbars ds es origins (omega arith) rest
  without_processor (x ∷ xs) r n bars stbars log_bars log_stbars ds es origins rest =
      without_operation x r n bars stbars log_bars log_stbars xs ds es origins
      (without_processor xs r (n + event_count (op_of x)) bars stbars (bars_after x log_bars) (stbars_after x log_stbars) ds es origins
      (at_number _ _ bars stbars ds es origins (number_after n x xs) rest))

module _ (addresses : List ℕ) (p q : ℕ) where
  -- These events are of processors from p and from q on, so they stand after those of any processors before.
  AreLater : ℕ → List Event → List Event → List ℕ → Type 0
  AreLater n ds es origins = (before before_log bars stbars : ℕ) → before ≤ p → before_log ≤ q → AreEventsFrom addresses before before_log n bars stbars ds es origins

  later_at : (m n : ℕ) (ds es : List Event) (origins : List ℕ) → m ≡ n → AreLater m ds es origins → AreLater n ds es origins
  later_at m n ds es origins same later = subst (λ x. AreLater x ds es origins) same later

-- what is cut out of the log's processor q is the trace's processor p
module _ (addresses : List ℕ) (p q : ℕ) where
  -- Barriers of the log stand before, `more` more than of the trace, and `most` more STBARs; at least so many are left out from here on.
  abbrev AreMore : ℕ → ℕ → ℕ → ℕ → ℕ → ℕ → ℕ → ℕ → Type 0
  AreMore bars stbars log_bars log_stbars more most low low_st = (low ≤ more) × (low_st ≤ most) × (log_bars ≡ bars + more) × (log_stbars ≡ stbars + most)

  -- the events of operations and of those of the log that they are cut out of, wherever barriers stand before
  AreRest : ℕ → List Outcome → List Outcome → List Event → List Event → List ℕ → Type 0
  AreRest n xs ys ds es origins = (bars stbars log_bars log_stbars more most low low_st : ℕ) → AreMore bars stbars log_bars log_stbars more most low low_st
      → AreEventsFrom addresses (suc p) (suc q) n low low_st (events_from q log_bars log_stbars xs ++ ds) (events_from p bars stbars ys ++ es) origins

  -- the same with the same barriers left out
  rest_at : (m n : ℕ) (xs ys : List Outcome) (ds es : List Event) (origins : List ℕ) → m ≡ n → AreRest m xs ys ds es origins
      → (bars stbars log_bars log_stbars more most : ℕ) → log_bars ≡ bars + more → log_stbars ≡ stbars + most
      → AreEventsFrom addresses (suc p) (suc q) n more most (events_from q log_bars log_stbars xs ++ ds) (events_from p bars stbars ys ++ es) origins
  unfolding AreRest
  rest_at m n xs ys ds es origins same rest bars stbars log_bars log_stbars more most is is_st =
      at_number addresses (suc p) (suc q) m n more most _ _ origins same (rest bars stbars log_bars log_stbars more most more most (omega arith, omega arith, is, is_st))

  -- with what is kept of one operation prepended
  kept_events : (n : ℕ) (x : Outcome) (kept : List Outcome) (here : List ℕ) → IsKept addresses n x kept here
      → (xs ys : List Outcome) (ds es : List Event) (origins after : List ℕ) → AreRest (n + event_count (op_of x)) xs ys ds es (origins ++ after)
      → AreRest n (x ∷ xs) (kept ++ ys) ds es ((here ++ origins) ++ after)
  unfolding AreRest
  kept_events n x kept here (nothing n1 x1) xs ys ds es origins after rest bars stbars log_bars log_stbars more most low low_st (up, up_st, is, is_st) =
      let grown = after_up x1 more most in
      without_operation addresses (suc p) (suc q) x1 q n1 low low_st log_bars log_stbars xs ds (events_from p bars stbars ys ++ es) (origins ++ after)
      (rest bars stbars (bars_after x1 log_bars) (stbars_after x1 log_stbars) (bars_after x1 more) (stbars_after x1 most) low low_st
      (omega (arith, up, grown.0), omega (arith, up_st, grown.1), (after_more x1 bars more log_bars is).0, (after_more x1 stbars most log_stbars is_st).1))
  kept_events n x kept here (load n1 a b r v at) xs ys ds es origins after rest bars stbars log_bars log_stbars more most low low_st (up, up_st, is, is_st) =
      take (suc p) (suc q) n1 low low_st more most _ _ _ _ (origins ++ after) (from_same addresses a b at _ _ refl refl refl) refl refl up up_st is is_st
      (λ is_load is_swap. absurd (false≢true is_swap))
      (rest_at (n1 + 1) (suc n1) xs ys ds es (origins ++ after) (omega arith) rest bars stbars log_bars log_stbars more most is is_st)
  kept_events n x kept here (store n1 a b v w at) xs ys ds es origins after rest bars stbars log_bars log_stbars more most low low_st (up, up_st, is, is_st) =
      take (suc p) (suc q) n1 low low_st more most _ _ _ _ (origins ++ after) (from_same addresses a b at _ _ refl refl refl) refl refl up up_st is is_st
      (λ is_load is_swap. absurd (false≢true is_swap))
      (rest_at (n1 + 1) (suc n1) xs ys ds es (origins ++ after) (omega arith) rest bars stbars log_bars log_stbars more most is is_st)
  kept_events n x kept here (swap n1 a b r v r2 v2 at) xs ys ds es origins after rest bars stbars log_bars log_stbars more most low low_st (up, up_st, is, is_st) =
      take (suc p) (suc q) n1 low low_st more most _ _ _ _ (suc n1 ∷ origins ++ after) (from_same addresses a b at _ _ refl refl refl) refl refl up up_st is is_st
      (λ is_load is_swap. (refl, refl))
      (take (suc p) (suc q) (suc n1) more most more most _ _ _ _ (origins ++ after) (from_same addresses a b at _ _ refl refl refl) refl refl (omega arith) (omega arith) is is_st
      (λ is_load is_swap. absurd (false≢true is_load))
      (rest_at (n1 + 2) (suc (suc n1)) xs ys ds es (origins ++ after) (omega arith) rest bars stbars log_bars log_stbars more most is is_st))
  kept_events n x kept here (membar n1) xs ys ds es origins after rest bars stbars log_bars log_stbars more most low low_st (up, up_st, is, is_st) =
      at_number addresses (suc p) (suc q) (n1 + 0) n1 low low_st _ _ (origins ++ after) (omega arith)
      (rest (suc bars) stbars (suc log_bars) log_stbars more most low low_st (up, up_st, omega (arith, is), is_st))
  kept_events n x kept here (stbar n1) xs ys ds es origins after rest bars stbars log_bars log_stbars more most low low_st (up, up_st, is, is_st) =
      at_number addresses (suc p) (suc q) (n1 + 0) n1 low low_st _ _ (origins ++ after) (omega arith)
      (rest bars (suc stbars) log_bars (suc log_stbars) more most low low_st (up, up_st, is, omega (arith, is_st)))
  kept_events n x kept here (swap_load n1 a b r v r2 at) xs ys ds es origins after rest bars stbars log_bars log_stbars more most low low_st (up, up_st, is, is_st) =
      take (suc p) (suc q) n1 low low_st more most _ _ _ _ (origins ++ after) (from_same addresses a b at _ _ refl refl refl) refl refl up up_st is is_st
      (λ is_load is_swap. absurd (false≢true is_swap))
      (skip (suc p) (suc q) (suc n1) more most _ _ _ (origins ++ after)
      (rest_at (n1 + 2) (suc (suc n1)) xs ys ds es (origins ++ after) (omega arith) rest bars stbars log_bars log_stbars more most is is_st))
  kept_events n x kept here (swap_store n1 a b r v v2 at) xs ys ds es origins after rest bars stbars log_bars log_stbars more most low low_st (up, up_st, is, is_st) =
      skip (suc p) (suc q) n1 low low_st _ _ _ (suc n1 ∷ origins ++ after)
      (take (suc p) (suc q) (suc n1) low low_st more most _ _ _ _ (origins ++ after) (from_same addresses a b at _ _ refl refl refl) refl refl up up_st is is_st
      (λ is_load is_swap. absurd (false≢true is_load))
      (rest_at (n1 + 2) (suc (suc n1)) xs ys ds es (origins ++ after) (omega arith) rest bars stbars log_bars log_stbars more most is is_st))

  -- the events of what is cut out of a processor's operations, with those of later processors after them
  processor_events : (n : ℕ) (xs ys : List Outcome) (origins : List ℕ) → IsCutFrom addresses n xs ys origins → (ds es : List Event) (after : List ℕ)
      → AreLater addresses (suc p) (suc q) (n + total_events (map op_of xs)) ds es after → AreRest n xs ys ds es (origins ++ after)
  unfolding AreRest AreLater
  processor_events n xs ys origins (ended n1) ds es after later = λ bars stbars log_bars log_stbars more most low low_st are.
      at_number addresses (suc p) (suc q) (n1 + 0) n1 low low_st ds es after (omega arith) (later (suc p) (suc q) low low_st (omega arith) (omega arith))
  processor_events n xs ys origins (operation n1 x kept here xs1 ys1 origins1 is_kept cut) ds es after later =
      kept_events n1 x kept here is_kept xs1 ys1 ds es origins1 after
      (processor_events (n1 + event_count (op_of x)) xs1 ys1 origins1 cut ds es after
      (later_at addresses (suc p) (suc q) _ _ ds es after (number_after n1 x xs1) later))

-- the events of what is cut out of these processors' lists, of which the log's first is its processor q and the trace's is p
cut_of_lists : (addresses : List ℕ) (n : ℕ) (logs lists : List (List Outcome)) (origins : List ℕ) → AreCutFrom addresses n logs lists origins → (p q : ℕ)
    → AreLater addresses p q n (events_of_lists q logs) (events_of_lists p lists) origins
unfolding AreRest AreLater
cut_of_lists addresses n logs lists origins (no_more n1) p q = λ before before_log bars stbars up up_log. none before before_log n1 bars stbars
cut_of_lists addresses n logs lists origins (left_out n1 xs logs1 lists1 origins1 others) p q = λ before before_log bars stbars up up_log.
    without_processor addresses before before_log xs q n1 bars stbars 0 0 (events_of_lists (suc q) logs1) (events_of_lists p lists1) origins1
    (cut_of_lists addresses (n1 + total_events (map op_of xs)) logs1 lists1 origins1 others p (suc q) before before_log bars stbars up (omega (arith, up_log)))
cut_of_lists addresses n logs lists origins (processor n1 xs ys here logs1 lists1 origins1 cut others) p q = λ before before_log bars stbars up up_log.
    next before before_log (suc p) (suc q) n1 bars stbars _ _ (here ++ origins1) (omega (arith, up)) (omega (arith, up_log))
    (processor_events addresses p q n1 xs ys here cut (events_of_lists (suc q) logs1) (events_of_lists (suc p) lists1) origins1
    (cut_of_lists addresses (n1 + total_events (map op_of xs)) logs1 lists1 origins1 others (suc p) (suc q))
    0 0 0 0 0 0 0 0 (omega arith, omega arith, omega arith, omega arith))

-- the events of a trace that is cut out of a log
pub cut_events : (addresses : List ℕ) (logs lists : List (List Outcome)) (origins : List ℕ) → AreCutFrom addresses 1 logs lists origins
    → AreEventsFrom addresses 0 0 1 0 0 (events_of_lists 0 logs) (events_of_lists 0 lists) origins
unfolding AreLater
cut_events addresses logs lists origins cut = cut_of_lists addresses 1 logs lists origins cut 0 0 0 0 0 0 (omega arith) (omega arith)
