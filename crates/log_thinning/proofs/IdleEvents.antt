-- The events of a log with one idle swap read as a barrier and a load.
use Rattle.std.proofs.Common.{◌≡◌, ◌≢◌, ◌⊎◌, ◌∙◌, ℕ, suc, ◌+◌, ◌-◌, ◌<◌, ◌≤◌, true, false, IsTrue, List, ◌∷◌, ◌++◌, length, map, Option, Some, None, slice_get, inl, inr, refl, sym, ap, subst, arith}
use Rattle.std.specs.Option.{option_map}
use Rattle.std.proofs.lemmas.Bool.{cases_eq, cases_lt, cases_order, false≢true}
use Rattle.std.proofs.lemmas.List.{map-append}
use Rattle.std.proofs.lemmas.Option.{none-some, slice_get-map}
use Rattle.tso_ops.specs.declared.ops.Outcome.{Outcome}
use Rattle.tso_ops.specs.declared.ops.Outcome.TheVariants.{Ld, Sw, Mb}
use Rattle.tso_ops.specs.declared.events.Event.{Event}
use Rattle.tso_ops.specs.declared.settings.Order.TheVariants.{Tso}
use Rattle.tso_ops.specs.Settings.{SettingValue}
use Rattle.tso_ops.specs.Values.{TraceValue, trace_of_lists}
use Rattle.tso_ops.specs.Events.{events_from, events_of_lists, events_of, event_at, IsEvent, IsSwapLoad, Earlier, HasFewerBarriersBefore}
use Rattle.tso_ops.proofs.NumberFacts.{event_unique}
use Rattle.tso_ops.proofs.ProcessorFacts.{bars_ascend}
use Rattle.log_thinning.proofs.BarrierEvents.{with_barrier, with_barrier-own, with_barrier-other, barrier_own, barrier_later}
use Rattle.log_thinning.proofs.EventLists.{lists_around, events_done, events_left, events_around, event_at-done, event_at-left, bars_over, stbars_over}
use Rattle.log_thinning.proofs.IdleForward.{IsIdleRead}
use Rattle.log_thinning.proofs.Skips.{skip, skip-below, skip-above}
use Rattle.log_thinning.proofs.Without.{IsWithout}

-- ---- the events by their numbers

-- Number w of the log is a swap's load, and of the trace a load behind one barrier more. The swap's store isn't there.
record IsReadAt (log t : TraceValue) (w : ℕ) : Type 0 where
  setting : t.setting ≡ log.setting
  load : Event
  is_load : IsTrue load.load
  is_swap : IsTrue load.swap
  load_at : event_at log w ≡ Some load
  store_at : event_at log (suc w) ≡ Some (record load { load = false })
  read_at : event_at t w ≡ Some (record load { swap = false; bars = suc load.bars })
  before : (n : ℕ) → n < w → event_at t n ≡ event_at log n
  behind : (n : ℕ) → w < n → event_at t n ≡ option_map (with_barrier load.proc) (event_at log (suc n))

-- an idle swap of some processor, and what is read of it
abbrev pub with_swap : SettingValue → List (List Outcome) → List Outcome → ℕ → ℕ → List Outcome → List (List Outcome) → TraceValue
with_swap setting lists done a v rest after = trace_of_lists setting (lists_around lists done (Sw a v v ∷ rest) after)

-- the trace with what is read of it
abbrev pub with_read : SettingValue → List (List Outcome) → List Outcome → ℕ → ℕ → List Outcome → List (List Outcome) → TraceValue
with_read setting lists done a v rest after = trace_of_lists setting (lists_around lists done (Mb ∷ Ld a v ∷ rest) after)

module _ (setting : SettingValue) (lists : List (List Outcome)) (done : List Outcome) (a v : ℕ) (rest : List Outcome) (after : List (List Outcome)) where
  -- the log
  log : TraceValue
  log = with_swap setting lists done a v rest after

  -- the trace
  t : TraceValue
  t = with_read setting lists done a v rest after

  -- the events behind the swap
  later : List Event
  later = events_left lists done rest ++ events_of_lists (suc (length lists)) after

  -- the load of the swap
  swap_load : Event
  swap_load = record { proc = length lists; load = true; swap = true; a = a; value = v; bars = bars_over 0 done; stbars = stbars_over 0 done }

  -- the events of the log
  log_events : events_of log ≡ events_done lists done ++ swap_load ∷ record swap_load { load = false } ∷ later
  unfolding events_of log later swap_load
  log_events = events_around lists done (Sw a v v ∷ rest) after

  -- those of the trace
  trace_events : events_of t ≡ events_done lists done ++ record swap_load { swap = false; bars = suc swap_load.bars } ∷ map (with_barrier (length lists)) later
  unfolding events_of t later swap_load
  trace_events =
      let own = barrier_own (length lists) (bars_over 0 done) (stbars_over 0 done) rest in
      let others = barrier_later (length lists) (suc (length lists)) after (omega arith) in
      let changed = map-append (with_barrier (length lists)) (events_left lists done rest) (events_of_lists (suc (length lists)) after)
      ∙ ap (λ es. es ++ map (with_barrier (length lists)) (events_of_lists (suc (length lists)) after)) own
      ∙ ap (λ es. events_from (length lists) (suc (bars_over 0 done)) (stbars_over 0 done) rest ++ es) others in
      events_around lists done (Mb ∷ Ld a v ∷ rest) after
      ∙ ap (λ es. events_done lists done ++ record swap_load { swap = false; bars = suc swap_load.bars } ∷ es) (sym changed)

  -- the number of the swap's load
  pub number : ℕ
  number = suc (length (events_done lists done))

  -- they are as they have to be
  read_at : IsReadAt log t number
  unfolding number log t swap_load
  read_at = record {
    setting = setting_same;
    load = swap_load;
    is_load = kind.0;
    is_swap = kind.1;
    load_at = at (suc (length (events_done lists done))) 0 (omega arith) log _ log_events;
    store_at = at (suc (suc (length (events_done lists done)))) 1 (omega arith) log _ log_events;
    read_at = at (suc (length (events_done lists done))) 0 (omega arith) t _ trace_events;
    before = λ n below. event_at-done t log (events_done lists done) _ _ trace_events log_events n below;
    behind = λ n above.
        let k = n - suc (suc (length (events_done lists done))) in
        at n (suc k) (omega (arith, above)) t _ trace_events
        ∙ slice_get-map (with_barrier (length lists)) later k
        ∙ ap (option_map (with_barrier (length lists))) (sym (at (suc n) (suc (suc k)) (omega (arith, above)) log _ log_events))
        ∙ ap (λ q. option_map (with_barrier q) (event_at log (suc n))) kind.2;
  }
    where
      setting_same : t.setting ≡ log.setting
      setting_same = refl

      kind : IsTrue swap_load.load × IsTrue swap_load.swap × (length lists ≡ swap_load.proc)
      kind = (refl, refl, refl)

      at : (n k : ℕ) → n ≡ suc (length (events_done lists done) + k) → (s : TraceValue) (es : List Event) → events_of s ≡ events_done lists done ++ es → event_at s n ≡ slice_get es k
      at n k same s es is = ap (event_at s) same ∙ event_at-left s (events_done lists done) es is k

-- ---- an event of the trace and the log's that it comes from

-- what a changed event comes from
changed_from : (f : Event → Event) (o : Option Event) (e : Event) → option_map f o ≡ Some e → (d : Event) × (o ≡ Some d)
changed_from f None e at = absurd (none-some e at)
changed_from f (Some d) e at = (d, refl)

-- Event n of the trace is the log's event d, but for barriers and a swap that is none.
record IsChanged (t : TraceValue) (w p n : ℕ) (d : Event) : Type 0 where
  e : Event
  at : event_at t n ≡ Some e
  proc : d.proc ≡ e.proc
  load : d.load ≡ e.load
  a : d.a ≡ e.a
  value : d.value ≡ e.value
  stbars : d.stbars ≡ e.stbars
  swap : n ≢ w → d.swap ≡ e.swap
  bars : ((e.bars ≡ d.bars) × ((n < w) ⊎ (d.proc ≡ p → ⊥))) ⊎ ((e.bars ≡ suc d.bars) × (w ≤ n) × (d.proc ≡ p))

module _ (log t : TraceValue) (w : ℕ) (is : IsReadAt log t w) where
  -- the event of the trace of one of the log's
  changed : (n : ℕ) (d : Event) → event_at log (skip (suc w) n) ≡ Some d → IsChanged t w is.load.proc n d
  changed n d at = elim (cases_order n w) [
    | inl same ↦ (
        let here : skip (suc w) n ≡ w = skip-below (suc w) n (omega (arith, same)) ∙ same in
        let one : is.load ≡ d = event_unique log w is.load d is.load_at (subst (λ k. event_at log k ≡ Some d) here at) in
        subst (IsChanged t w is.load.proc n) one
        (record {
          e = record is.load { swap = false; bars = suc is.load.bars };
          at = ap (event_at t) same ∙ is.read_at;
          proc = refl;
          load = refl;
          a = refl;
          value = refl;
          stbars = refl;
          swap = λ other. absurd (other same);
          bars = inr (refl, omega (arith, same), refl);
        })
        )
    | inr (inl below) ↦ record {
      e = d;
      at = is.before n below ∙ ap (event_at log) (sym (skip-below (suc w) n (omega (arith, below)))) ∙ at;
      proc = refl;
      load = refl;
      a = refl;
      value = refl;
      stbars = refl;
      swap = λ other. refl;
      bars = inl (refl, inl below);
    }
    | inr (inr above) ↦ behind above (cases_eq d.proc is.load.proc)
  ]
    where
      found : w < n → event_at t n ≡ Some (with_barrier is.load.proc d)
      found above = is.behind n above ∙ ap (λ k. option_map (with_barrier is.load.proc) (event_at log k)) (sym (skip-above (suc w) n (omega (arith, above)))) ∙ ap (option_map (with_barrier is.load.proc)) at

      behind : w < n → (d.proc ≡ is.load.proc) ⊎ (d.proc ≡ is.load.proc → ⊥) → IsChanged t w is.load.proc n d
      behind above (inl own) = record {
        e = record d { bars = suc d.bars };
        at = found above ∙ ap (λ x. Some x) (with_barrier-own is.load.proc d own);
        proc = refl;
        load = refl;
        a = refl;
        value = refl;
        stbars = refl;
        swap = λ other. refl;
        bars = inr (refl, omega (arith, above), own);
      }
      behind above (inr other) = record {
        e = d;
        at = found above ∙ ap (λ x. Some x) (with_barrier-other is.load.proc d other);
        proc = refl;
        load = refl;
        a = refl;
        value = refl;
        stbars = refl;
        swap = λ unlike. refl;
        bars = inl (refl, inr other);
      }

  -- the log's event of one of the trace
  comes_from : (n : ℕ) → IsEvent t n → (d : Event) × (event_at log (skip (suc w) n) ≡ Some d)
  comes_from n event = elim (cases_order n w) [
    | inl same ↦ (is.load, ap (event_at log) (skip-below (suc w) n (omega (arith, same)) ∙ same) ∙ is.load_at)
    | inr (inl below) ↦ (event.0, ap (event_at log) (skip-below (suc w) n (omega (arith, below))) ∙ sym (is.before n below) ∙ event.1)
    | inr (inr above) ↦ (
        let from = changed_from (with_barrier is.load.proc) (event_at log (suc n)) event.0 (sym (is.behind n above) ∙ event.1) in
        (from.0, ap (event_at log) (skip-above (suc w) n (omega (arith, above))) ∙ from.1)
        )
  ]

  -- the trace is the log without the swap's store
  unswapped : IsSwapLoad t w → ⊥
  unswapped swap = let one = event_unique t w swap.0 _ swap.1 is.read_at in false≢true (sym (ap (λ (x : Event). x.swap) one) ∙ swap.3)

  -- the store of another swap is the next number in both
  next_skipped : (l : ℕ) → l ≢ w → skip (suc w) (suc l) ≡ suc (skip (suc w) l)
  next_skipped l other = elim (cases_lt l w) [
    | inl below ↦ skip-below (suc w) (suc l) (omega (arith, below)) ∙ ap suc (sym (skip-below (suc w) l (omega (arith, below))))
    | inr above ↦ skip-above (suc w) (suc l) (omega (arith, above, other)) ∙ ap suc (sym (skip-above (suc w) l (omega (arith, above, other))))
  ]

  -- it has all other events
  without_store : IsWithout log t (suc w)
  without_store = record {
    setting = is.setting;
    twin = λ n event.
        let from = comes_from n event in
        let there = changed n from.0 from.1 in
        record {
          d = there.e;
          e = from.0;
          d_at = there.at;
          e_at = from.1;
          proc = sym there.proc;
          load = sym there.load;
          a = sym there.a;
          value = sym there.value;
          stbars = sym there.stbars;
        };
    kept = λ n event. let there = changed n event.0 event.1 in (there.e, there.at);
    swap = λ l swap.
        let other : l ≢ w = λ same. unswapped (subst (IsSwapLoad t) same swap) in
        let from = comes_from l (swap.0, swap.1) in
        let there = changed l from.0 from.1 in
        let one = event_unique t l there.e swap.0 there.at swap.1 in
        ((from.0, from.1, there.load ∙ ap (λ (x : Event). x.load) one ∙ swap.2, there.swap other ∙ ap (λ (x : Event). x.swap) one ∙ swap.3), next_skipped l other);
  }

  -- ---- barriers

  -- the barrier stands between the load and what is before it
  barrier_before : (u : ℕ) → Earlier t u w → HasFewerBarriersBefore t u w
  barrier_before u (d, e, at_d, at_e, same, less) =
      let at_log : event_at log u ≡ Some d = sym (is.before u less) ∙ at_d in
      let one : e ≡ record is.load { swap = false; bars = suc is.load.bars } = event_unique t w e _ at_e is.read_at in
      let own : d.proc ≡ is.load.proc = same ∙ ap (λ (x : Event). x.proc) one in
      let low = bars_ascend log u w d is.load at_log is.load_at own less in
      let bars : e.bars ≡ suc is.load.bars = ap (λ (x : Event). x.bars) one in
      (d, e, at_d, at_e, omega (arith, low, bars))

  -- between two events stands a barrier of the log, or the load
  barrier_between : (u v : ℕ) → Earlier t u v → HasFewerBarriersBefore t u v →
      HasFewerBarriersBefore log (skip (suc w) u) (skip (suc w) v) ⊎ (Earlier t u w × ((v ≡ w) ⊎ Earlier t w v))
  barrier_between u v (d, e, at_d, at_e, same, less) (d', e', at_d', at_e', fewer) = by_bars first.bars second.bars
    where
      from_u : (x : Event) × (event_at log (skip (suc w) u) ≡ Some x)
      from_u = comes_from u (d, at_d)

      from_v : (x : Event) × (event_at log (skip (suc w) v) ≡ Some x)
      from_v = comes_from v (e, at_e)

      first : IsChanged t w is.load.proc u from_u.0
      first = changed u from_u.0 from_u.1

      second : IsChanged t w is.load.proc v from_v.0
      second = changed v from_v.0 from_v.1

      own : from_u.0.proc ≡ from_v.0.proc
      own = first.proc ∙ ap (λ (x : Event). x.proc) (event_unique t u first.e d first.at at_d) ∙ same ∙ ap (λ (x : Event). x.proc) (event_unique t v e second.e at_e second.at) ∙ sym second.proc

      less_bars : first.e.bars < second.e.bars
      less_bars =
          let one : first.e.bars ≡ d'.bars = ap (λ (x : Event). x.bars) (event_unique t u first.e d' first.at at_d') in
          let other : second.e.bars ≡ e'.bars = ap (λ (x : Event). x.bars) (event_unique t v second.e e' second.at at_e') in
          omega (arith, one, other, fewer)

      there : from_u.0.bars < from_v.0.bars → HasFewerBarriersBefore log (skip (suc w) u) (skip (suc w) v)
      there low = (from_u.0, from_v.0, from_u.1, from_v.1, low)

      by_bars : ((first.e.bars ≡ from_u.0.bars) × ((u < w) ⊎ (from_u.0.proc ≡ is.load.proc → ⊥))) ⊎ ((first.e.bars ≡ suc from_u.0.bars) × (w ≤ u) × (from_u.0.proc ≡ is.load.proc)) →
          ((second.e.bars ≡ from_v.0.bars) × ((v < w) ⊎ (from_v.0.proc ≡ is.load.proc → ⊥))) ⊎ ((second.e.bars ≡ suc from_v.0.bars) × (w ≤ v) × (from_v.0.proc ≡ is.load.proc)) →
          HasFewerBarriersBefore log (skip (suc w) u) (skip (suc w) v) ⊎ (Earlier t u w × ((v ≡ w) ⊎ Earlier t w v))
      by_bars (inl (same_u, _)) (inl (same_v, _)) = inl (there (let low = less_bars in omega (arith, low, same_u, same_v)))
      by_bars (inr (more_u, _, _)) (inl (same_v, _)) = inl (there (let low = less_bars in omega (arith, low, more_u, same_v)))
      by_bars (inr (more_u, _, _)) (inr (more_v, _, _)) = inl (there (let low = less_bars in omega (arith, low, more_u, more_v)))
      by_bars (inl (same_u, side)) (inr (more_v, high, own_v)) = elim side [
        | inr other ↦ absurd (other (own ∙ own_v))
        | inl low ↦ (
            let read = record is.load { swap = false; bars = suc is.load.bars } in
            let proc_u : d.proc ≡ is.load.proc = ap (λ (x : Event). x.proc) (event_unique t u d first.e at_d first.at) ∙ sym first.proc ∙ own ∙ own_v in
            inr ((d, read, at_d, is.read_at, proc_u, low), after)
            )
      ]
        where
          after : (v ≡ w) ⊎ Earlier t w v
          after = elim (cases_eq v w) [
            | inl one ↦ inl one
            | inr other ↦ inr (
              record is.load { swap = false; bars = suc is.load.bars },
              e,
              is.read_at,
              at_e,
              sym own_v ∙ second.proc ∙ ap (λ (x : Event). x.proc) (event_unique t v second.e e second.at at_e),
              omega (arith, high, other),
            )
          ]

  -- a barrier of the log is one of the trace
  barrier_kept : (u v : ℕ) → Earlier t u v → HasFewerBarriersBefore log (skip (suc w) u) (skip (suc w) v) → HasFewerBarriersBefore t u v
  barrier_kept u v (d, e, at_d, at_e, same, less) (x, y, at_x, at_y, fewer) = by_bars first.bars second.bars
    where
      first : IsChanged t w is.load.proc u x
      first = changed u x at_x

      second : IsChanged t w is.load.proc v y
      second = changed v y at_y

      own : x.proc ≡ y.proc
      own = first.proc ∙ ap (λ (z : Event). z.proc) (event_unique t u first.e d first.at at_d) ∙ same ∙ ap (λ (z : Event). z.proc) (event_unique t v e second.e at_e second.at) ∙ sym second.proc

      here : first.e.bars < second.e.bars → HasFewerBarriersBefore t u v
      here low = (first.e, second.e, first.at, second.at, low)

      by_bars : ((first.e.bars ≡ x.bars) × ((u < w) ⊎ (x.proc ≡ is.load.proc → ⊥))) ⊎ ((first.e.bars ≡ suc x.bars) × (w ≤ u) × (x.proc ≡ is.load.proc)) →
          ((second.e.bars ≡ y.bars) × ((v < w) ⊎ (y.proc ≡ is.load.proc → ⊥))) ⊎ ((second.e.bars ≡ suc y.bars) × (w ≤ v) × (y.proc ≡ is.load.proc)) → HasFewerBarriersBefore t u v
      by_bars (inl (same_u, _)) (inl (same_v, _)) = here (omega (arith, fewer, same_u, same_v))
      by_bars (inl (same_u, _)) (inr (more_v, _, _)) = here (omega (arith, fewer, same_u, more_v))
      by_bars (inr (more_u, _, _)) (inr (more_v, _, _)) = here (omega (arith, fewer, more_u, more_v))
      by_bars (inr (more_u, high, own_u)) (inl (same_v, side)) = elim side [
        | inl low ↦ absurd (omega (arith, high, low, less))
        | inr other ↦ absurd (other (sym own ∙ own_u))
      ]

  -- what idle reads need
  idle_read : log.setting.order ≡ Tso → IsIdleRead log t w
  idle_read tso = record {
    without = without_store;
    tso = tso;
    swap = (is.load, is.load_at, is.is_load, is.is_swap);
    address = (record is.load { load = false }, is.load, is.store_at, is.load_at, refl);
    value = (record is.load { load = false }, is.load, is.store_at, is.load_at, refl);
    load = (record is.load { swap = false; bars = suc is.load.bars }, is.read_at, is.is_load);
    unswapped = unswapped;
    other_swap = λ l other swap.
        let there = changed l swap.0 swap.1 in
        ((there.e, there.at, sym there.load ∙ swap.2, sym (there.swap other) ∙ swap.3), next_skipped l other);
    barrier = barrier_before;
    barriers = barrier_between;
    barriers_back = barrier_kept;
  }

-- what is read of an idle swap of some processor
pub idle_read_at : (setting : SettingValue) (lists : List (List Outcome)) (done : List Outcome) (a v : ℕ) (rest : List Outcome) (after : List (List Outcome)) → setting.order ≡ Tso →
    IsIdleRead (with_swap setting lists done a v rest after) (with_read setting lists done a v rest after) (number setting lists done a v rest after)
unfolding log t
idle_read_at setting lists done a v rest after tso =
    idle_read (with_swap setting lists done a v rest after) (with_read setting lists done a v rest after) (number setting lists done a v rest after)
    (read_at setting lists done a v rest after) tso
