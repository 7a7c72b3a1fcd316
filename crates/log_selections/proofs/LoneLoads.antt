-- A load of what nothing wrote, by itself, is a trace, and nothing wrote what it read.
use Rattle.std.proofs.Common.{◌≡◌, ◌∙◌, ℕ, zero, suc, ◌<◌, ◌^◌, true, false, List, [], ◌∷◌, ◌++◌, Some, refl, sym, nat_eq, arith}
use Rattle.std.specs.List.{All, list_any}
use Rattle.std.proofs.lemmas.List.Elements.{All-cons, All-nil}
use Rattle.std.proofs.lemmas.Option.{none-some, same_Some}
use Rattle.tso_ops.specs.declared.events.Event.{Event}
use Rattle.tso_ops.specs.declared.ops.Op.TheVariants.{Ld as OpLd}
use Rattle.tso_ops.specs.declared.ops.Outcome.TheVariants.{Ld}
use Rattle.tso_ops.specs.declared.settings.Order.{Order}
use Rattle.tso_ops.specs.declared.settings.Order.TheVariants.{Tso, Pso}
use Rattle.tso_ops.specs.Limits.{IsTrace, KeepsEntries, KeepsLimits, is_stbar_in_tso}
use Rattle.tso_ops.specs.Settings.{setting_of_first}
use Rattle.tso_ops.specs.Values.{ReadFits}
use Rattle.tso_ops.specs.Events.{HasSource, IsUnwritten, event_at, events_of}
use Rattle.log_selections.proofs.SourceFacts.{distinct-none}
use Rattle.log_selections.specs.Unwritten.{lone_load}

-- ---- its limits

one : {X : Type 0} (P : X → Type 0) (x : X) → P x → All P (x ∷ [])
one P x holds = All-cons P x [] holds (All-nil P)

no_stbar : (order : Order) → is_stbar_in_tso order (OpLd 0) ≡ false
no_stbar Tso = refl
no_stbar Pso = refl

no_entries : KeepsEntries []
no_entries = record { addresses = All-nil (λ entry. entry.0 < 256); ascending = λ before entry after is. absurd (none before entry after is); non_zero = All-nil (λ entry. 0 < entry.1); fits = All-nil (λ entry. entry.1 < 2 ^ 64) }
  where
    none : (before : List (ℕ × ℕ)) (entry : ℕ × ℕ) (after : List (ℕ × ℕ)) → [] ≡ before ++ entry ∷ after → ⊥
    none [] entry after is = cc
    none (x ∷ before) entry after is = cc

limits : (order : Order) → KeepsLimits (setting_of_first order []) (OpLd 0 ∷ [])
limits order = record {
  events = omega arith;
  barriers = omega arith;
  addresses = one (λ a. a < 256) 0 (omega arith);
  non_zero = All-nil (λ v. 0 < v);
  distinct = distinct-none;
  fits = All-nil (λ v. v < 2 ^ 64);
  apart = All-nil (λ v. list_any (nat_eq v) [] ≡ false);
  stbars = one (λ op. is_stbar_in_tso order op ≡ false) (OpLd 0) (no_stbar order);
}

pub lone_is_trace : (order : Order) → IsTrace (lone_load order)
lone_is_trace order = record {
  program = record { processors = omega arith; version_one = λ is. absurd cc; entries = no_entries; limits = limits order };
  reads = one ReadFits (Ld 0 1) (omega arith);
}

-- ---- its load

-- its one event
abbrev load_event : Event
load_event = record { proc = 0; load = true; swap = false; a = 0; value = 1; bars = 0; stbars = 0 }

is_first : (order : Order) → event_at (lone_load order) 1 ≡ Some load_event
unfolding event_at events_of
is_first order = refl

-- a later number has no event
none_later : (order : Order) (k : ℕ) (e : Event) → event_at (lone_load order) (suc (suc k)) ≡ Some e → ⊥
unfolding event_at events_of
none_later order k e at = none-some e at

no_source : (order : Order) (s : ℕ) → HasSource (lone_load order) 1 s → ⊥
no_source order zero (load, (e, at, is)) = let same : load_event ≡ e = same_Some load_event e (sym (is_first order) ∙ at) in cc
no_source order (suc zero) (load, (e, at, store), address, value) = let same : load_event ≡ e = same_Some load_event e (sym (is_first order) ∙ at) in cc
no_source order (suc (suc k)) (load, (e, at, store), address, value) = none_later order k e at

pub lone_unwritten : (order : Order) → IsUnwritten (lone_load order) 1
lone_unwritten order = ((load_event, is_first order, refl), no_source order)
