-- The events of a log with a load that the next one repeats.
use Rattle.std.proofs.Common.{◌≡◌, ◌∙◌, ℕ, suc, ◌+◌, ◌≤◌, true, List, [], ◌∷◌, ◌++◌, length, Some, slice_get, refl, sym, ap, arith}
use Rattle.tso_ops.specs.declared.ops.Outcome.{Outcome}
use Rattle.tso_ops.specs.declared.ops.Outcome.TheVariants.{Ld, St, Sw, Mb, Sb}
use Rattle.tso_ops.specs.declared.events.Event.{Event}
use Rattle.tso_ops.specs.Settings.{SettingValue}
use Rattle.tso_ops.specs.Values.{TraceValue}
use Rattle.tso_ops.specs.Events.{events_from, events_of_lists, event_at}
use Rattle.tso_ops.proofs.NumberFacts.{event_unique}
use Rattle.log_thinning.proofs.DroppedEvents.{IsDroppedAt, dropped_of_events, with_load, without_it, load_behind, number_behind, later_events, log_events, dropped_at}
use Rattle.log_thinning.proofs.EventLists.{events_done, event_at-left, bars_over, stbars_over}
use Rattle.log_thinning.proofs.RepeatFits.{IsRepeatedNext}

-- The operations begin with barriers and then a load of this address and this value.
abbrev pub NextIs : ℕ → ℕ → List Outcome → Type 0
NextIs a r [] = ⊥
NextIs a r (Ld b q ∷ ops) = (b ≡ a) × (q ≡ r)
NextIs a r (St b v ∷ ops) = ⊥
NextIs a r (Sw b q v ∷ ops) = ⊥
NextIs a r (Mb ∷ ops) = NextIs a r ops
NextIs a r (Sb ∷ ops) = NextIs a r ops

-- The event is that load's, behind no fewer barriers than these.
record IsNextLoad (p a r bars : ℕ) (e : Event) : Type 0 where
  proc : e.proc ≡ p
  load : e.load ≡ true
  address : e.a ≡ a
  value : e.value ≡ r
  more : bars ≤ e.bars

-- it is the first of the events of such operations
next_event : (p a r bars stbars : ℕ) (ops : List Outcome) (rest : List Event) → NextIs a r ops →
    (e : Event) × (slice_get (events_from p bars stbars ops ++ rest) 0 ≡ Some e) × IsNextLoad p a r bars e
next_event p a r bars stbars [] rest is = absurd is
next_event p a r bars stbars (Ld b q ∷ ops) rest is = (_, refl, record { proc = refl; load = refl; address = is.0; value = is.1; more = omega arith })
next_event p a r bars stbars (St b v ∷ ops) rest is = absurd is
next_event p a r bars stbars (Sw b q v ∷ ops) rest is = absurd is
next_event p a r bars stbars (Mb ∷ ops) rest is =
    let found = next_event p a r (suc bars) stbars ops rest is in
    (found.0, found.1, record { proc = found.2.proc; load = found.2.load; address = found.2.address; value = found.2.value; more = let up = found.2.more in omega (arith, up) })
next_event p a r bars stbars (Sb ∷ ops) rest is = next_event p a r bars (suc stbars) ops rest is

-- a load of some processor that the next one repeats, and the log without it
module _ (setting : SettingValue) (lists : List (List Outcome)) (done : List Outcome) (a r : ℕ) (rest : List Outcome) (after : List (List Outcome)) (is : NextIs a r rest) where
  -- the log
  abbrev log : TraceValue
  log = with_load setting lists done a r rest after

  -- the number of the load
  abbrev number : ℕ
  number = number_behind lists done

  -- the next load
  found : (e : Event) × (slice_get (later_events setting lists done a r rest after) 0 ≡ Some e) × IsNextLoad (length lists) a r (bars_over 0 done) e
  unfolding later_events
  found = next_event (length lists) a r (bars_over 0 done) (stbars_over 0 done) rest (events_of_lists (suc (length lists)) after) is

  -- it has the next number
  at_next : event_at log (suc number) ≡ Some found.0
  at_next =
      let next : suc number ≡ suc (length (events_done lists done) + 1) = omega arith in
      ap (event_at log) next ∙ event_at-left log (events_done lists done) _ (log_events setting lists done a r rest after) 1 ∙ found.1

  -- the load can be dropped
  at_load : IsDroppedAt log (without_it setting lists done rest after) number (load_behind lists done a r)
  at_load = dropped_at setting lists done a r rest after

  -- the next load repeats it
  pub repeated_of_lists : IsRepeatedNext log (without_it setting lists done rest after) number
  repeated_of_lists =
      let load = load_behind lists done a r in
      let next = found.2 in
      record {
        dropped = dropped_of_events log (without_it setting lists done rest after) number load at_load;
        kept = (found.0, at_next, next.load);
        earlier = (load, found.0, at_load.at, at_next, sym next.proc, omega arith);
        address = (found.0, load, at_next, at_load.at, next.address);
        value = (found.0, load, at_next, at_load.at, next.value);
        barrier = λ u earlier fewer.
            let bars : fewer.1.bars ≡ load.bars = ap (λ (x : Event). x.bars) (event_unique log number fewer.1 load fewer.3 at_load.at) in
            let less = fewer.4 in
            let up = next.more in
            (fewer.0, found.0, fewer.2, at_next, omega (arith, bars, less, up));
      }
