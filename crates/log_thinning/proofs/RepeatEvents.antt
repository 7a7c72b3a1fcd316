-- The events of a log with a load that repeats the last one.
use Rattle.std.proofs.Common.{◌≡◌, ◌≢◌, ◌⊎◌, ◌∙◌, ℕ, zero, suc, ◌+◌, ◌-◌, ◌<◌, true, false, IsFalse, List, [], ◌∷◌, ◌++◌, length, Some, slice_get, inl, inr, refl, sym, ap, subst, append_assoc, arith}
use Rattle.std.specs.List.{AllByRecursion}
use Rattle.std.proofs.lemmas.Bool.{cases_order}
use Rattle.std.proofs.lemmas.List.{length-append}
use Rattle.std.proofs.lemmas.Option.{same_Some}
use Rattle.tso_ops.specs.declared.ops.Outcome.{Outcome}
use Rattle.tso_ops.specs.declared.ops.Outcome.TheVariants.{Ld, St, Sw, Mb, Sb}
use Rattle.tso_ops.specs.declared.events.Event.{Event}
use Rattle.tso_ops.specs.Settings.{SettingValue}
use Rattle.tso_ops.specs.Values.{TraceValue}
use Rattle.tso_ops.specs.Events.{events_from, events_of_lists, events_of, event_at, IsStore, Earlier}
use Rattle.tso_ops.proofs.NumberFacts.{event_unique, load_is_no_store}
use Rattle.tso_ops.proofs.ProcessorFacts.{bars_ascend}
use Rattle.log_thinning.proofs.DroppedEvents.{IsDroppedAt, dropped_of_events, with_load, without_it, load_behind, number_behind, later_events, log_events, dropped_at}
use Rattle.log_thinning.proofs.EventLists.{events_done, events_from-append, event_at-left, bars_over, stbars_over}
use Rattle.log_thinning.proofs.RepeatFits.{IsRepeat}

-- ---- from the events by their numbers

-- Number l of the log is a load like number k, between which stand only stores to other addresses.
record IsRepeatAt (log t : TraceValue) (k l : ℕ) (load : Event) : Type 0 where
  dropped : IsDroppedAt log t l load
  below : k < l
  at_k : event_at log k ≡ Some load
  between : (n : ℕ) (d : Event) → k < n → n < l → event_at log n ≡ Some d → IsFalse d.load × (d.a ≢ load.a)

module _ (log t : TraceValue) (k l : ℕ) (load : Event) (is : IsRepeatAt log t k l load) where
  -- an event of the processor before l stands before k, is k, or is a store to another address
  side : (u : ℕ) → Earlier log u l → Earlier log u k ⊎ ((u ≡ k) ⊎ ((k < u) × (d : Event) × (event_at log u ≡ Some d) × (d.proc ≡ load.proc) × IsFalse d.load × (d.a ≢ load.a)))
  side u (d, e, at_d, at_e, own, less) =
      let proc : d.proc ≡ load.proc = own ∙ ap (λ (x : Event). x.proc) (event_unique log l e load at_e is.dropped.at) in
      elim (cases_order u k) [
        | inl same ↦ inr (inl same)
        | inr (inl before) ↦ inl (d, load, at_d, is.at_k, proc, before)
        | inr (inr behind) ↦ (let other = is.between u d behind less at_d in inr (inr (behind, d, at_d, proc, other.0, other.1)))
      ]

  -- what repeating needs
  repeat_of_events : IsRepeat log t k l
  repeat_of_events = record {
    dropped = dropped_of_events log t l load is.dropped;
    kept = (load, is.at_k, is.dropped.is_load);
    earlier = (load, load, is.at_k, is.dropped.at, refl, is.below);
    address = (load, load, is.at_k, is.dropped.at, refl);
    value = (load, load, is.at_k, is.dropped.at, refl);
    loads = λ u is_load earlier. elim (side u earlier) [
      | inl before ↦ inr before
      | inr (inl same) ↦ inl same
      | inr (inr (behind, d, at, own, store, other)) ↦ absurd (load_is_no_store log u is_load (d, at, store))
    ];
    stores = λ u store address earlier. elim (side u earlier) [
      | inl before ↦ before
      | inr (inl same) ↦ absurd (load_is_no_store log k (load, is.at_k, is.dropped.is_load) (subst (IsStore log) same store))
      | inr (inr (behind, d, at, own, kind, other)) ↦
          absurd (other (ap (λ (x : Event). x.a) (event_unique log u d address.0 at address.2) ∙ address.4 ∙ ap (λ (x : Event). x.a) (event_unique log l address.1 load address.3 is.dropped.at)))
    ];
    barrier = λ u store earlier fewer. elim (side u earlier) [
      | inl before ↦ (
          let bars : fewer.1.bars ≡ load.bars = ap (λ (x : Event). x.bars) (event_unique log l fewer.1 load fewer.3 is.dropped.at) in
          let less = fewer.4 in
          (before, (fewer.0, load, fewer.2, is.at_k, omega (arith, bars, less)))
          )
      | inr (inl same) ↦ absurd (load_is_no_store log k (load, is.at_k, is.dropped.is_load) (subst (IsStore log) same store))
      | inr (inr (behind, d, at, own, kind, other)) ↦ (
          let up = bars_ascend log k u load d is.at_k at (sym own) behind in
          let first : fewer.0.bars ≡ d.bars = ap (λ (x : Event). x.bars) (event_unique log u fewer.0 d fewer.2 at) in
          let second : fewer.1.bars ≡ load.bars = ap (λ (x : Event). x.bars) (event_unique log l fewer.1 load fewer.3 is.dropped.at) in
          let less = fewer.4 in
          absurd (omega (arith, up, first, second, less))
          )
    ];
  }

-- ---- from lists

-- the operation is a store to another address
abbrev pub StoresElsewhere : ℕ → Outcome → Type 0
StoresElsewhere a (St b v) = b ≢ a
StoresElsewhere a (Ld b r) = ⊥
StoresElsewhere a (Sw b r v) = ⊥
StoresElsewhere a Mb = ⊥
StoresElsewhere a Sb = ⊥

-- such stores are no barriers
bars-stores : (a bars stbars : ℕ) (ops : List Outcome) → AllByRecursion (StoresElsewhere a) ops → (bars_over bars ops ≡ bars) × (stbars_over stbars ops ≡ stbars)
bars-stores a bars stbars [] all = (refl, refl)
bars-stores a bars stbars (St b v ∷ ops) all = bars-stores a bars stbars ops all.1
bars-stores a bars stbars (Ld b r ∷ ops) all = absurd all.0
bars-stores a bars stbars (Sw b r v ∷ ops) all = absurd all.0
bars-stores a bars stbars (Mb ∷ ops) all = absurd all.0
bars-stores a bars stbars (Sb ∷ ops) all = absurd all.0

-- their events are stores to other addresses
events-stores : (a p bars stbars : ℕ) (ops : List Outcome) → AllByRecursion (StoresElsewhere a) ops → (k : ℕ) (d : Event) →
    slice_get (events_from p bars stbars ops) k ≡ Some d → IsFalse d.load × (d.a ≢ a)
events-stores a p bars stbars [] all k d at = absurd cc
events-stores a p bars stbars (St b v ∷ ops) all zero d at =
    let same = same_Some _ d at in (ap (λ (x : Event). x.load) (sym same), λ is. all.0 (ap (λ (x : Event). x.a) same ∙ is))
events-stores a p bars stbars (St b v ∷ ops) all (suc k) d at = events-stores a p bars stbars ops all.1 k d at
events-stores a p bars stbars (Ld b r ∷ ops) all k d at = absurd all.0
events-stores a p bars stbars (Sw b r v ∷ ops) all k d at = absurd all.0
events-stores a p bars stbars (Mb ∷ ops) all k d at = absurd all.0
events-stores a p bars stbars (Sb ∷ ops) all k d at = absurd all.0

-- barriers over two parts
bars-append : (bars stbars : ℕ) (xs ys : List Outcome) → (bars_over bars (xs ++ ys) ≡ bars_over (bars_over bars xs) ys) × (stbars_over stbars (xs ++ ys) ≡ stbars_over (stbars_over stbars xs) ys)
bars-append bars stbars [] ys = (refl, refl)
bars-append bars stbars (Ld a r ∷ xs) ys = bars-append bars stbars xs ys
bars-append bars stbars (St a v ∷ xs) ys = bars-append bars stbars xs ys
bars-append bars stbars (Sw a r v ∷ xs) ys = bars-append bars stbars xs ys
bars-append bars stbars (Mb ∷ xs) ys = bars-append (suc bars) stbars xs ys
bars-append bars stbars (Sb ∷ xs) ys = bars-append bars (suc stbars) xs ys

-- a load of some processor that repeats the last one, and the log without it
module _ (setting : SettingValue) (lists : List (List Outcome)) (done : List Outcome) (a r : ℕ) (stores : List Outcome) (elsewhere : AllByRecursion (StoresElsewhere a) stores)
    (rest : List Outcome) (after : List (List Outcome)) where
  -- the log, and what is done before the second load
  abbrev all_done : List Outcome
  all_done = done ++ Ld a r ∷ stores

  -- the log
  abbrev log : TraceValue
  log = with_load setting lists (done ++ Ld a r ∷ stores) a r rest after

  -- both loads have one event, since no barrier stands between
  same_load : load_behind lists all_done a r ≡ load_behind lists done a r
  same_load =
      let parts = bars-append 0 0 done (Ld a r ∷ stores) in
      let none = bars-stores a (bars_over 0 done) (stbars_over 0 done) stores elsewhere in
      let load : ℕ → ℕ → Event = λ bars stbars. record { proc = length lists; load = true; swap = false; a = a; value = r; bars = bars; stbars = stbars } in
      ap (λ n. load n (stbars_over 0 (done ++ Ld a r ∷ stores))) (parts.0 ∙ none.0) ∙ ap (load (bars_over 0 done)) (parts.1 ∙ none.1)

  -- the events of the stores between
  between_events : List Event
  between_events = events_from (length lists) (bars_over 0 done) (stbars_over 0 done) stores

  -- the events before the second load
  done_events : events_done lists all_done ≡ events_done lists done ++ load_behind lists done a r ∷ between_events
  unfolding events_done between_events
  done_events =
      ap (λ es. events_of_lists 0 lists ++ es) (events_from-append (length lists) 0 0 done (Ld a r ∷ stores))
      ∙ sym (append_assoc (events_of_lists 0 lists) (events_from (length lists) 0 0 done) _)

  -- the events from the first load on
  from_first : List Event
  from_first = load_behind lists done a r ∷ (between_events ++ load_behind lists all_done a r ∷ later_events setting lists all_done a r rest after)

  -- and those of the log
  log_events_from : events_of log ≡ events_done lists done ++ from_first
  unfolding from_first
  log_events_from =
      log_events setting lists all_done a r rest after
      ∙ ap (λ es. es ++ load_behind lists all_done a r ∷ later_events setting lists all_done a r rest after) done_events
      ∙ append_assoc (events_done lists done) (load_behind lists done a r ∷ between_events) _

  -- how many are before the second load
  count : length (events_done lists all_done) ≡ length (events_done lists done) + suc (length between_events)
  count = ap length done_events ∙ length-append (events_done lists done) (load_behind lists done a r ∷ between_events)

  -- between the two are stores to other addresses
  between_at : (n : ℕ) (d : Event) → number_behind lists done < n → n < number_behind lists all_done → event_at log n ≡ Some d → IsFalse d.load × (d.a ≢ a)
  unfolding from_first between_events
  between_at n d above below at =
      let j = n - suc (suc (length (events_done lists done))) in
      let here : n ≡ suc (length (events_done lists done) + suc j) = omega (arith, above) in
      let inside : j < length between_events = omega (arith, above, below, count) in
      let found = sym (event_at-left log (events_done lists done) from_first log_events_from (suc j)) ∙ ap (event_at log) (sym here) ∙ at in
      events-stores a (length lists) (bars_over 0 done) (stbars_over 0 done) stores elsewhere j d (within between_events _ j d inside found)
    where
      within : (xs ys : List Event) (j : ℕ) (d : Event) → j < length xs → slice_get (xs ++ ys) j ≡ Some d → slice_get xs j ≡ Some d
      within [] ys j d inside at = absurd (omega (arith, inside))
      within (x ∷ xs) ys zero d inside at = at
      within (x ∷ xs) ys (suc j) d inside at = within xs ys j d (omega (arith, inside)) at

  -- the second load repeats the first
  repeat_at : IsRepeatAt log (without_it setting lists all_done rest after) (number_behind lists done) (number_behind lists all_done) (load_behind lists done a r)
  unfolding from_first
  repeat_at = record {
    dropped = subst (IsDroppedAt log (without_it setting lists all_done rest after) (number_behind lists all_done)) same_load (dropped_at setting lists all_done a r rest after);
    below = omega (arith, count);
    at_k =
        let none : suc (length (events_done lists done)) ≡ suc (length (events_done lists done) + 0) = omega arith in
        ap (event_at log) none ∙ event_at-left log (events_done lists done) from_first log_events_from 0;
    between = between_at;
  }

  -- it can be dropped
  pub repeat_of_lists : IsRepeat log (without_it setting lists all_done rest after) (number_behind lists done) (number_behind lists all_done)
  repeat_of_lists = repeat_of_events log (without_it setting lists all_done rest after) (number_behind lists done) (number_behind lists all_done) (load_behind lists done a r) repeat_at
