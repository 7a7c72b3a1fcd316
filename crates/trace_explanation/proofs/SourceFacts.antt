-- Lemmas on what loads read.
use Rattle.std.proofs.Common.{◌≡◌, sym, ap, subst, refl, ◌∙◌, ℕ, zero, suc, ◌≤◌, Bool, true, false, cond, eqb, Option, Some, None, arith}
use Rattle.std.specs.Prelude.{◌&&◌, not, IfSome}
use Rattle.std.specs.Option.{option_map_or}
use Rattle.std.specs.List.{find}
use Rattle.std.proofs.lemmas.Bool.Decides.{nat_tests}
use Rattle.std.proofs.lemmas.Option.{slice_get_within}
use Rattle.tso_ops.specs.declared.events.Event.{Event}
use Rattle.tso_ops.specs.Settings.{first_value}
use Rattle.tso_ops.specs.Values.{TraceValue}
use Rattle.tso_ops.specs.Events.{event_at, event_total, events_of, HasSource}
use Rattle.trace_explanation.specs.Names.{event_numbers, is_store_where, load_source, source_of}
use Rattle.trace_explanation.proofs.SearchFacts.{found-passes, missed-fails}

-- ---- sources

module _ (t : TraceValue) (l : ℕ) where
  -- the store wrote the value of the load to its address
  abbrev wrote : Event → ℕ → Bool
  wrote e = is_store_where t (λ s. eqb s.a e.a && eqb s.value e.value)

  -- where the event at a number wrote it, and where it didn't
  written : (e : Event) (o : Option Event) → option_map_or (λ s. not s.load && (eqb s.a e.a && eqb s.value e.value)) o false ≡ true → (d : Event) × (o ≡ Some d) × (d.load ≡ false) × (d.a ≡ e.a) × (d.value ≡ e.value)
  written e None is = absurd cc
  written e (Some d) is = (d, refl, grind (arith, nat_tests), grind (arith, nat_tests), grind (arith, nat_tests))

  not_written : (e d : Event) → (not d.load && (eqb d.a e.a && eqb d.value e.value)) ≡ false → d.load ≡ false → d.a ≡ e.a → d.value ≡ e.value → ⊥
  not_written e d is store address same = grind (arith, nat_tests)

  -- the event at a number
  at_some : (e : Event) → event_at t l ≡ Some e → source_of t l ≡ cond e.load (load_source t e) None
  unfolding source_of
  at_some e at = rw at refl

  at_none : event_at t l ≡ None → source_of t l ≡ None
  unfolding source_of
  at_none at = rw at refl

  -- the store of a load's value to its address
  stored_source : (e : Event) (k : ℕ) → event_at t l ≡ Some e → e.load ≡ true → find (wrote e) (event_numbers t) ≡ Some k → HasSource t l k
  stored_source e zero at load found = let passed = found-passes (wrote e) (event_total t) zero found in absurd (omega (arith, passed.1))
  stored_source e (suc k) at load found =
      let passed = found-passes (wrote e) (event_total t) (suc k) found in
      let (d, at_d, store, address, value) = written e (event_at t (suc k)) passed.0 in
      ((e, at, load), (d, at_d, store), (d, e, at_d, at, address), (d, e, at_d, at, value))

  -- where the definition of a source finds none, there is none
  missing_tests : (b : Bool) (o : Option ℕ) → cond b (Some 0) o ≡ None → (b ≡ false) × (o ≡ None)
  missing_tests true o is = absurd cc
  missing_tests false o is = (refl, is)

  missing : (e : Event) → event_at t l ≡ Some e → e.load ≡ true → source_of t l ≡ None → (eqb e.value (first_value t.setting.first e.a) ≡ false) × (find (wrote e) (event_numbers t) ≡ None)
  missing e at load none =
      let is : cond e.load (load_source t e) None ≡ None = sym (at_some e at) ∙ none in
      missing_tests (eqb e.value (first_value t.setting.first e.a)) (find (wrote e) (event_numbers t)) (rw load at is)

  same_event : (o : Option Event) (d e : Event) → o ≡ Some d → o ≡ Some e → d ≡ e
  same_event o d e at_d at_e = let same : Some d ≡ Some e = sym at_d ∙ at_e in cc

  within_total : (k : ℕ) (d : Event) → event_at t (suc k) ≡ Some d → suc k ≤ event_total t
  unfolding event_at
  within_total k d at = let within = slice_get_within (events_of t) k d at in omega arith

  no_source : (s : ℕ) → source_of t l ≡ None → HasSource t l s → ⊥
  no_source zero none ((e, at, load), (d, at_d, is_first)) =
      let both = missing e at load none in
      let is : e.value ≡ first_value t.setting.first e.a = subst (λ (x : Event). x.value ≡ first_value t.setting.first x.a) (same_event (event_at t l) d e at_d at) is_first in
      grind (arith, nat_tests)
  no_source (suc k) none ((e, at, load), (d, at_d, store), (d', e', at_d', at_e', address), (d'', e'', at_d'', at_e'', value)) =
      let both = missing e at load none in
      let fails : wrote e (suc k) ≡ false = missed-fails (wrote e) (event_total t) both.1 (suc k) (omega arith) (within_total k d at_d) in
      let same_address : d.a ≡ e.a =
      ap (λ (x : Event). x.a) (same_event (event_at t (suc k)) d d' at_d at_d') ∙ address ∙ ap (λ (x : Event). x.a) (same_event (event_at t l) e' e at_e' at) in
      let same_value : d.value ≡ e.value =
      ap (λ (x : Event). x.value) (same_event (event_at t (suc k)) d d'' at_d at_d'') ∙ value ∙ ap (λ (x : Event). x.value) (same_event (event_at t l) e'' e at_e'' at) in
      not_written e d (rw at_d at fails) store same_address same_value

-- what the definition of a source finds is one
pub source-is : (t : TraceValue) (l : ℕ) → IfSome (source_of t l) (HasSource t l)
source-is t l = by_event (event_at t l) refl
  where
    by_store : (e : Event) → event_at t l ≡ Some e → e.load ≡ true → (found : Option ℕ) → find (wrote t l e) (event_numbers t) ≡ found → IfSome found (HasSource t l)
    by_store e at load None is = tt
    by_store e at load (Some k) is = stored_source t l e k at load is

    by_first : (e : Event) → event_at t l ≡ Some e → e.load ≡ true → (b : Bool) → eqb e.value (first_value t.setting.first e.a) ≡ b → IfSome (cond b (Some 0) (find (wrote t l e) (event_numbers t))) (HasSource t l)
    by_first e at load true is = ((e, at, load), (e, at, grind (arith, nat_tests)))
    by_first e at load false is = by_store e at load _ refl

    by_load : (e : Event) → event_at t l ≡ Some e → (b : Bool) → e.load ≡ b → IfSome (cond b (load_source t e) None) (HasSource t l)
    by_load e at true load = by_first e at load _ refl
    by_load e at false load = tt

    by_event : (o : Option Event) → event_at t l ≡ o → IfSome (source_of t l) (HasSource t l)
    by_event None at = rw (at_none t l at) tt
    by_event (Some e) at = rw (at_some t l e at) (by_load e at e.load refl)

-- the number that is the source of a load, or none, is what the definition finds
pub source-number : (t : TraceValue) (l : ℕ) (found : Option ℕ) → IfSome found (HasSource t l) → ((s : ℕ) → HasSource t l s → found ≡ Some s) → found ≡ source_of t l
source-number t l found sound complete = by_source (source_of t l) refl (source-is t l)
  where
    by_found : (o : Option ℕ) → IfSome o (HasSource t l) → source_of t l ≡ None → o ≡ source_of t l
    by_found None is none = sym none
    by_found (Some s) is none = absurd (no_source t l s none is)

    by_source : (o : Option ℕ) → source_of t l ≡ o → IfSome o (HasSource t l) → found ≡ source_of t l
    by_source None none is = by_found found sound none
    by_source (Some s) none is = complete s is ∙ sym none
