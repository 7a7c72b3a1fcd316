-- Lemmas on a tally: what it has admitted at first, and after one more operation.
use Rattle.std.proofs.Common.{◌≡◌, ◌∙◌, sym, ap, refl, ℕ, nat_lt, ◌+◌, ◌<◌, ◌≤◌, ◌^◌, ◌||◌, Bool, true, false, not, cond, subst, nat_eq, List, [], ◌∷◌, ◌++◌, Option, Some, None, arith, append_assoc, eqb}
use Rattle.std.specs.List.{list_any}
use Rattle.std.specs.Option.{option_to_list, option_map_or}
use Rattle.std.specs.Ordering.{nat_cmp}
use Rattle.std.specs.BTreeSet.{BTreeSet, contains, Updates, IsEmpty}
use Rattle.std.specs.BTreeMap.{is_at}
use Rattle.std.proofs.lemmas.Bool.Decides.{nat_tests}
use Rattle.std.proofs.lemmas.List.{append-nil}
use Rattle.tso_ops.specs.declared.ops.Op.{Op}
use Rattle.tso_ops.specs.declared.limits.Tally.{Tally}
use Rattle.tso_ops.specs.Settings.{SettingValue, values_of, event_limit, barrier_limit}
use Rattle.tso_ops.specs.Limits.{event_count, barrier_count, address_of, stored_by, stored_values, is_stbar_in_tso, has_fault}
use Rattle.tso_ops.specs.Tally.{Admitted}
use Rattle.tso_ops.proofs.LimitFacts.{IsStorable, IsAdmissible, IsFaultless-nil, IsFaultless-push, KeepsLimits-nil, KeepsLimits-push, no_fault, stored_values-push, total_events-push, total_barriers-push}

-- a tally whose set has the first values has admitted nothing
pub Admitted-nil : (setting : SettingValue) (tally : Tally) → tally.version ≡ setting.version → tally.order ≡ setting.order → tally.events ≡ 0 → tally.barriers ≡ 0 →
    ((v : ℕ) → contains nat_cmp tally.stored v ≡ list_any (nat_eq v) (values_of setting.first)) → Admitted setting tally []
Admitted-nil setting tally version order events barriers first = record {
  version = version;
  order = order;
  events = events;
  barriers = barriers;
  stored = λ v. rw append-nil (first v);
  limits = KeepsLimits-nil setting;
  faultless = IsFaultless-nil (has_fault setting);
}

-- an empty set has no value
pub stored-none : (stored : BTreeSet ℕ) → IsEmpty stored → (v : ℕ) → contains nat_cmp stored v ≡ list_any (nat_eq v) []
stored-none stored empty v = ap (list_any _) empty

-- the set has the value that is stored, if there is one, and what it had before
abbrev pub AddsStored : BTreeSet ℕ → BTreeSet ℕ → Option ℕ → Type 0
AddsStored old new None = new ≡ old
AddsStored old new (Some v) = Updates nat_cmp old new v true

-- a number is found by its order where it is found by equality
pub is_at-nat_eq : (s v : ℕ) → is_at (nat_cmp s) v ≡ nat_eq v s
is_at-nat_eq s v = grind (arith, nat_tests)

list_any-push : (v : ℕ) (values : List ℕ) (s : ℕ) → list_any (nat_eq v) (values ++ s ∷ []) ≡ cond (nat_eq v s) true (list_any (nat_eq v) values)
list_any-push v [] s = elim (nat_eq v s) as (λ b. (b || false) ≡ cond b true false) [ true ↦ refl | false ↦ refl ]
list_any-push v (x ∷ values) s =
    let rest = list_any-push v values s in
    rw rest (elim (nat_eq v x) as (λ a. (a || cond (nat_eq v s) true (list_any (nat_eq v) values)) ≡ cond (nat_eq v s) true (a || list_any (nat_eq v) values))
    [ true ↦ elim (nat_eq v s) as (λ b. true ≡ cond b true true) [ true ↦ refl | false ↦ refl ] | false ↦ refl ])

pub stored-push : (old new : BTreeSet ℕ) (values : List ℕ) (stored : Option ℕ) → ((v : ℕ) → contains nat_cmp old v ≡ list_any (nat_eq v) values) →
    AddsStored old new stored → (v : ℕ) → contains nat_cmp new v ≡ list_any (nat_eq v) (values ++ option_to_list stored)
stored-push old new values None had takes v = rw (append-nil, takes) (had v)
stored-push old new values (Some s) had takes v =
    takes.0 v ∙ ap (λ b. cond b true (contains nat_cmp old v)) (is_at-nat_eq s v) ∙ ap (cond (nat_eq v s) true) (had v) ∙ sym (list_any-push v values s)

not_true : (b : Bool) → not b ≡ true → b ≡ false
not_true true e = sym e
not_true false e = refl

-- what the operation stores, if it stores a value, goes into the set and was not there
pub record StoresNew (old new : BTreeSet ℕ) (stored : Option ℕ) : Type 0 where
  pub takes : AddsStored old new stored
  pub non_zero : option_map_or (λ v. eqb v 0) stored false ≡ false
  pub absent : (v : ℕ) → stored ≡ Some v → contains nat_cmp old v ≡ false
  pub fits : (v : ℕ) → stored ≡ Some v → v < 2 ^ 64

-- a value that is stored
pub StoresNew-Some : (old new : BTreeSet ℕ) (stored : Option ℕ) (v : ℕ) (added : Bool) → stored ≡ Some v → Updates nat_cmp old new v true →
    (v ≡ 0 → ⊥) → added ≡ not (contains nat_cmp old v) → added ≡ true → v < 2 ^ 64 → StoresNew old new stored
StoresNew-Some old new stored v added e updates non_zero was new_to_it fits =
    let absent : contains nat_cmp old v ≡ false = not_true (contains nat_cmp old v) (sym was ∙ new_to_it) in
    let zero : option_map_or (λ v. eqb v 0) (Some v) false ≡ false = grind (arith, nat_tests) in
    rw e record {
      takes = updates;
      non_zero = zero;
      absent = λ w same. let v_w : v ≡ w = cc in subst (λ x. contains nat_cmp old x ≡ false) v_w absent;
      fits = λ w same. let v_w : v ≡ w = cc in omega (arith, v_w, fits);
    }

-- no value is stored
pub StoresNew-None : (old : BTreeSet ℕ) (stored : Option ℕ) → stored ≡ None → StoresNew old old stored
StoresNew-None old stored e = rw e record { takes = refl; non_zero = refl; absent = λ v same. absurd cc; fits = λ v same. absurd cc }

storable : (old new : BTreeSet ℕ) (first values : List ℕ) (stored : Option ℕ) → ((v : ℕ) → contains nat_cmp old v ≡ list_any (nat_eq v) (first ++ values)) →
    StoresNew old new stored → IsStorable first values stored
storable old new first values None had stores = record { non_zero = refl; new = refl; fits = stores.fits }
storable old new first values (Some s) had stores = record { non_zero = stores.non_zero; new = sym (had s) ∙ stores.absent s refl; fits = stores.fits }

-- a tally after one more operation
pub Admitted-push : (setting : SettingValue) (old new : Tally) (ops : List Op) (op : Op) → Admitted setting old ops → new.version ≡ old.version → new.order ≡ old.order →
    new.events ≡ old.events + event_count op → new.barriers ≡ old.barriers + barrier_count op →
    option_map_or (nat_lt 255) (address_of op) false ≡ false → is_stbar_in_tso old.order op ≡ false → StoresNew old.stored new.stored (stored_by op) → Admitted setting new (ops ++ op ∷ [])
Admitted-push setting old new ops op was version order events barriers in_range no_stbar stores =
    let first = values_of setting.first in
    let values = stored_values ops in
    let same : new.version ≡ setting.version = version ∙ was.version in
    let few : new.events ≤ event_limit setting.version = subst (λ v. new.events ≤ event_limit v) same new.few_events in
    let few_barriers : new.barriers ≤ barrier_limit setting.version = subst (λ v. new.barriers ≤ barrier_limit v) same new.few_barriers in
    let may : IsAdmissible setting ops op = record {
      few_events = omega (arith, was.events, events, few);
      few_barriers = omega (arith, was.barriers, barriers, few_barriers);
      in_range = in_range;
      storable = storable old.stored new.stored first values (stored_by op) was.stored stores;
      no_stbar = subst (λ o. is_stbar_in_tso o op ≡ false) was.order no_stbar;
    } in
    record {
      version = same;
      order = order ∙ was.order;
      events = rw total_events-push (events ∙ ap (λ n. n + event_count op) was.events);
      barriers = rw total_barriers-push (barriers ∙ ap (λ n. n + barrier_count op) was.barriers);
      stored = λ v. rw (stored_values-push, ← append_assoc) (stored-push old.stored new.stored (first ++ values) (stored_by op) was.stored stores.takes v);
      limits = KeepsLimits-push setting ops op was.limits may;
      faultless = IsFaultless-push (has_fault setting) ops op was.faultless (no_fault setting ops op may);
    }
