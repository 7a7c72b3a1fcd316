-- The events of a log without one of its loads.
use Rattle.std.proofs.Common.{◌≡◌, ◌∙◌, ℕ, suc, ◌+◌, ◌-◌, true, false, IsTrue, IsFalse, List, ◌∷◌, ◌++◌, length, Some, inl, inr, refl, sym, ap, subst, arith}
use Rattle.std.proofs.lemmas.Bool.{cases_lt, cases_order, false≢true}
use Rattle.tso_ops.specs.declared.ops.Outcome.{Outcome}
use Rattle.tso_ops.specs.declared.ops.Outcome.TheVariants.{Ld}
use Rattle.tso_ops.specs.declared.events.Event.{Event}
use Rattle.tso_ops.specs.Settings.{SettingValue}
use Rattle.tso_ops.specs.Values.{TraceValue, trace_of_lists}
use Rattle.tso_ops.specs.Events.{events_of_lists, events_of, event_at, IsLoad, IsStore, IsSwapLoad}
use Rattle.tso_ops.proofs.NumberFacts.{event_unique, load_is_no_store}
use Rattle.tso_ops.proofs.SwapFacts.{IsSwapLoad-store}
use Rattle.log_thinning.proofs.EventLists.{lists_around, events_done, events_left, events_around, event_at-done, event_at-left, bars_over, stbars_over}
use Rattle.log_thinning.proofs.RepeatOrders.{IsDropped}
use Rattle.log_thinning.proofs.Skips.{skip, skip-below, skip-above}
use Rattle.log_thinning.proofs.Without.{IsWithout}

-- Number l of the log is a load and no swap's; the trace has all events but l.
pub record IsDroppedAt (log t : TraceValue) (l : ℕ) (load : Event) : Type 0 where
  pub setting : t.setting ≡ log.setting
  pub is_load : IsTrue load.load
  pub is_no_swap : IsFalse load.swap
  pub at : event_at log l ≡ Some load
  pub same : (n : ℕ) → event_at t n ≡ event_at log (skip l n)

module _ (log t : TraceValue) (l : ℕ) (load : Event) (is : IsDroppedAt log t l load) where
  -- an event of the trace is one of the log
  there : (n : ℕ) (e : Event) → event_at t n ≡ Some e → event_at log (skip l n) ≡ Some e
  there n e at = sym (is.same n) ∙ at

  -- number l is a load
  load_l : IsLoad log l
  load_l = (load, is.at, is.is_load)

  -- the store of a swap of the trace is the next number in both
  swap_there : (n : ℕ) → IsSwapLoad log (skip l n) → skip l (suc n) ≡ suc (skip l n)
  swap_there n swap = elim (cases_order (suc n) l) [
    | inl last ↦ absurd (load_is_no_store log l load_l (subst (IsStore log) (ap suc (skip-below l n (omega (arith, last))) ∙ last) (IsSwapLoad-store log (skip l n) swap)))
    | inr (inl below) ↦ skip-below l (suc n) below ∙ ap suc (sym (skip-below l n (omega (arith, below))))
    | inr (inr above) ↦ skip-above l (suc n) (omega (arith, above)) ∙ ap suc (sym (skip-above l n (omega (arith, above))))
  ]

  -- the trace is the log without it
  without_load : IsWithout log t l
  without_load = record {
    setting = is.setting;
    twin = λ n event. record {
      d = event.0;
      e = event.0;
      d_at = event.1;
      e_at = there n event.0 event.1;
      proc = refl;
      load = refl;
      a = refl;
      value = refl;
      stbars = refl;
    };
    kept = λ n event. (event.0, is.same n ∙ event.1);
    swap = λ n swap.
        let swap_of_log : IsSwapLoad log (skip l n) = (swap.0, there n swap.0 swap.1, swap.2, swap.3) in
        (swap_of_log, swap_there n swap_of_log);
  }

  -- what dropping the load needs
  pub dropped_of_events : IsDropped log t l
  dropped_of_events = record {
    without = without_load;
    load = load_l;
    unswapped = λ swap. false≢true (sym is.is_no_swap ∙ ap (λ (x : Event). x.swap) (event_unique log l load swap.0 is.at swap.1) ∙ swap.3);
    barriers_there = λ u v fewer. (fewer.0, fewer.1, there u fewer.0 fewer.2, there v fewer.1 fewer.3, fewer.4);
    barriers_here = λ u v fewer. (fewer.0, fewer.1, is.same u ∙ fewer.2, is.same v ∙ fewer.3, fewer.4);
    swap_here = λ n swap. ((swap.0, is.same n ∙ swap.1, swap.2, swap.3), swap_there n swap);
  }

-- ---- from lists

-- the traces with a load of some processor and without it
abbrev pub with_load : SettingValue → List (List Outcome) → List Outcome → ℕ → ℕ → List Outcome → List (List Outcome) → TraceValue
with_load setting lists done a r rest after = trace_of_lists setting (lists_around lists done (Ld a r ∷ rest) after)

-- the same without it
abbrev pub without_it : SettingValue → List (List Outcome) → List Outcome → List Outcome → List (List Outcome) → TraceValue
without_it setting lists done rest after = trace_of_lists setting (lists_around lists done rest after)

-- a load behind what is done
abbrev pub load_behind : List (List Outcome) → List Outcome → ℕ → ℕ → Event
load_behind lists done a r = record { proc = length lists; load = true; swap = false; a = a; value = r; bars = bars_over 0 done; stbars = stbars_over 0 done }

-- and its number
abbrev pub number_behind : List (List Outcome) → List Outcome → ℕ
number_behind lists done = suc (length (events_done lists done))

module _ (setting : SettingValue) (lists : List (List Outcome)) (done : List Outcome) (a r : ℕ) (rest : List Outcome) (after : List (List Outcome)) where
  -- the events behind it
  unfoldable pub later_events : List Event
  later_events = events_left lists done rest ++ events_of_lists (suc (length lists)) after

  -- the events of the log
  pub log_events : events_of (with_load setting lists done a r rest after) ≡ events_done lists done ++ load_behind lists done a r ∷ later_events
  unfolding events_of later_events
  log_events = events_around lists done (Ld a r ∷ rest) after

  -- and of the trace
  trace_events : events_of (without_it setting lists done rest after) ≡ events_done lists done ++ later_events
  unfolding events_of later_events
  trace_events = events_around lists done rest after

  -- they are the same but for the load
  same_events : (n : ℕ) → event_at (without_it setting lists done rest after) n ≡ event_at (with_load setting lists done a r rest after) (skip (number_behind lists done) n)
  same_events n = elim (cases_lt n (number_behind lists done)) [
    | inl below ↦ (
        event_at-done (without_it setting lists done rest after) (with_load setting lists done a r rest after) (events_done lists done) _ _ trace_events log_events n below
        ∙ ap (event_at (with_load setting lists done a r rest after)) (sym (skip-below (number_behind lists done) n below))
        )
    | inr above ↦ (
        let j = n - number_behind lists done in
        let here : n ≡ suc (length (events_done lists done) + j) = omega (arith, above) in
        let next : suc n ≡ suc (length (events_done lists done) + suc j) = omega (arith, above) in
        ap (event_at (without_it setting lists done rest after)) here
        ∙ event_at-left (without_it setting lists done rest after) (events_done lists done) later_events trace_events j
        ∙ sym (event_at-left (with_load setting lists done a r rest after) (events_done lists done) (load_behind lists done a r ∷ later_events) log_events (suc j))
        ∙ ap (event_at (with_load setting lists done a r rest after)) (sym next)
        ∙ ap (event_at (with_load setting lists done a r rest after)) (sym (skip-above (number_behind lists done) n above))
        )
  ]

  -- the load is one that can be dropped
  pub dropped_at : IsDroppedAt (with_load setting lists done a r rest after) (without_it setting lists done rest after) (number_behind lists done) (load_behind lists done a r)
  dropped_at = record {
    setting = refl;
    is_load = refl;
    is_no_swap = refl;
    at =
        let none : suc (length (events_done lists done)) ≡ suc (length (events_done lists done) + 0) = omega arith in
        ap (event_at (with_load setting lists done a r rest after)) none ∙ event_at-left (with_load setting lists done a r rest after) (events_done lists done) _ log_events 0;
    same = same_events;
  }
