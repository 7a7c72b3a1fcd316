-- Lemmas on the limits: what one more operation does to them, and which operation a refusal names.
use Rattle.std.proofs.Common.{◌≡◌, ◌⊎◌, ◌∙◌, sym, ap, refl, inl, inr, ⊎_elim, ℕ, nat_lt, ◌+◌, ◌<◌, ◌≤◌, ◌^◌, ◌||◌, Bool, true, false, nat_eq, List, [], ◌∷◌, ◌++◌, Option, Some, None, All, arith, append_assoc, eqb}
use Rattle.std.specs.List.{flat_map, list_any, IsDistinct}
use Rattle.std.specs.Option.{option_to_list, option_map_or}
use Rattle.std.specs.Cmp.{nat_eq_equiv}
use Rattle.std.proofs.lemmas.Bool.{false≢true}
use Rattle.std.proofs.lemmas.Bool.Decides.{nat_tests}
use Rattle.std.proofs.lemmas.List.{append-nil}
use Rattle.std.proofs.lemmas.List.Concat.{flat_map-append}
use Rattle.std.proofs.lemmas.List.Elements.{All-nil, All-push}
use Rattle.std.proofs.lemmas.List.Folds.{list_any-append}
use Rattle.std.proofs.lemmas.List.Sums.{sum_by-append}
use Rattle.std.proofs.lemmas.Map.Keys.{IsDistinct-push}
use Rattle.tso_ops.specs.declared.ops.Op.{Op}
use Rattle.tso_ops.specs.declared.faults.ValueFault.{ValueFault}
use Rattle.tso_ops.specs.declared.faults.ValueFault.TheVariants.{TooManyProcessors, TooManyEvents, AddressRange, ZeroValue, RepeatedValue, OutOfMemory, StbarInTso, InitOrder}
use Rattle.tso_ops.specs.Settings.{SettingValue, values_of, event_limit, barrier_limit}
use Rattle.tso_ops.specs.Limits.{event_count, barrier_count, address_of, stored_by, total_events, total_barriers, addresses_of, stored_values, KeepsLimits, is_stbar_in_tso, has_fault, IsFirstFault, IsFaultless, IsFaultOf}

-- a prefix of a list with one more element ends before that element or is the whole list
pub split_push : {X : Type 0} → (xs : List X) (x : X) (before : List X) (o : X) (after : List X) → xs ++ x ∷ [] ≡ before ++ o ∷ after →
    ((before ≡ xs) × (o ≡ x)) ⊎ ((rest : List X) × (xs ≡ before ++ o ∷ rest))
split_push [] x [] o after e = inl (refl, cc)
split_push [] x (b ∷ []) o after e = absurd cc
split_push [] x (b ∷ (c ∷ bs)) o after e = absurd cc
split_push (y ∷ ys) x [] o after e = inr (ys, cc)
split_push (y ∷ ys) x (b ∷ bs) o after e =
    let tail : ys ++ x ∷ [] ≡ bs ++ o ∷ after = cc in
    let head : y ≡ b = cc in
    ⊎_elim (λ h. inl (cc, h.1)) (λ h. inr (h.0, cc)) (split_push ys x bs o after tail)

-- no item is faultless
pub IsFaultless-nil : {X : Type 0} (has : List X → X → ValueFault → Bool) → IsFaultless has []
IsFaultless-nil has [] item after why e = absurd cc
IsFaultless-nil has (b ∷ bs) item after why e = absurd cc

-- one more item that has no fault
pub IsFaultless-push : {X : Type 0} (has : List X → X → ValueFault → Bool) → (items : List X) (item : X) → IsFaultless has items → ((why : ValueFault) → has items item why ≡ false) →
    IsFaultless has (items ++ item ∷ [])
IsFaultless-push has items item faultless none before o after why e =
    ⊎_elim (λ h. rw (h.0, h.1) (none why)) (λ h. faultless before o h.0 why h.1) (split_push items item before o after e)

-- items without a fault are refused for none
pub not_refused : {X : Type 0} (has : List X → X → ValueFault → Bool) → (items : List X) (why : ValueFault) → IsFaultless has items → IsFaultOf has items why → ⊥
not_refused has items why faultless fault = false≢true (sym (faultless fault.before fault.item fault.after why fault.parts) ∙ fault.first.fault)

-- a fault stays what it is whatever items follow
pub IsFaultOf-append : {X : Type 0} (has : List X → X → ValueFault → Bool) → (items more : List X) (why : ValueFault) → IsFaultOf has items why → IsFaultOf has (items ++ more) why
IsFaultOf-append has items more why fault =
    let parts : items ++ more ≡ fault.before ++ fault.item ∷ (fault.after ++ more) = rw fault.parts (append_assoc fault.before (fault.item ∷ fault.after) more) in
    record { before = fault.before; item = fault.item; after = fault.after ++ more; parts = parts; faultless = fault.faultless; first = fault.first }

-- the first item that has a fault decides
pub IsFaultOf-next : {X : Type 0} (has : List X → X → ValueFault → Bool) → (items : List X) (item : X) (more : List X) (why : ValueFault) → IsFaultless has items →
    IsFirstFault has items item why → IsFaultOf has (items ++ item ∷ more) why
IsFaultOf-next has items item more why faultless first = record { before = items; item = item; after = more; parts = refl; faultless = faultless; first = first }

-- no operation keeps the limits
pub KeepsLimits-nil : (setting : SettingValue) → KeepsLimits setting []
unfolding IsDistinct
KeepsLimits-nil setting = record {
  events = omega arith;
  barriers = omega arith;
  addresses = All-nil _;
  non_zero = All-nil _;
  distinct = tt;
  fits = All-nil _;
  apart = All-nil _;
  stbars = All-nil _;
}

-- what the operation writes may be written after these first values and stored values
pub record IsStorable (first values : List ℕ) (stored : Option ℕ) : Type 0 where
  pub non_zero : option_map_or (λ v. eqb v 0) stored false ≡ false
  pub new : option_map_or (λ v. list_any (nat_eq v) (first ++ values)) stored false ≡ false
  pub fits : (v : ℕ) → stored ≡ Some v → v < 2 ^ 64

-- the value is in neither list where it isn't in both joined
in_neither : (first values : List ℕ) (v : ℕ) → list_any (nat_eq v) (first ++ values) ≡ false → (list_any (nat_eq v) first ≡ false) × (list_any (nat_eq v) values ≡ false)
in_neither first values v none = neither (list_any (nat_eq v) first) (list_any (nat_eq v) values) (sym (list_any-append (nat_eq v) first values) ∙ none)
  where
    neither : (a b : Bool) → (a || b) ≡ false → (a ≡ false) × (b ≡ false)
    neither true b e = absurd (false≢true (sym e))
    neither false b e = (refl, e)

addresses-push : (xs : List ℕ) (a : Option ℕ) → All (λ a. a < 256) xs → option_map_or (nat_lt 255) a false ≡ false → All (λ a. a < 256) (xs ++ option_to_list a)
addresses-push xs None all in_range = rw append-nil all
addresses-push xs (Some a) all in_range = All-push (λ a. a < 256) xs a all (grind (arith, nat_tests))

-- the stored values with one more, if there is one
record AreStored (first values : List ℕ) : Type 0 where
  non_zero : All (λ v. 0 < v) values
  fits : All (λ v. v < 2 ^ 64) values
  distinct : IsDistinct nat_eq values
  apart : All (λ v. list_any (nat_eq v) first ≡ false) values

values-push : (first xs : List ℕ) (v : Option ℕ) → IsStorable first xs v → AreStored first xs → AreStored first (xs ++ option_to_list v)
values-push first xs None ok are = rw append-nil are
values-push first xs (Some v) ok are =
    let neither = in_neither first xs v ok.new in
    record {
      non_zero = All-push (λ v. 0 < v) xs v are.non_zero (let z = ok.non_zero in grind (arith, nat_tests));
      fits = All-push (λ v. v < 2 ^ 64) xs v are.fits (ok.fits v refl);
      distinct = IsDistinct-push nat_eq_equiv xs v are.distinct neither.1;
      apart = All-push (λ v. list_any (nat_eq v) first ≡ false) xs v are.apart neither.0;
    }

-- what one more operation adds to a list with at most one number for each
flat_map-push : (f : Op → List ℕ) (ops : List Op) (op : Op) → flat_map f (ops ++ op ∷ []) ≡ flat_map f ops ++ f op
flat_map-push f ops op = flat_map-append f ops (op ∷ []) ∙ ap (λ rest. flat_map f ops ++ rest) (append-nil (f op))

pub stored_values-push : (ops : List Op) (op : Op) → stored_values (ops ++ op ∷ []) ≡ stored_values ops ++ option_to_list (stored_by op)
stored_values-push ops op = flat_map-push (λ op. option_to_list (stored_by op)) ops op

pub total_events-push : (ops : List Op) (op : Op) → total_events (ops ++ op ∷ []) ≡ total_events ops + event_count op
total_events-push ops op = omega (arith, sum_by-append event_count ops (op ∷ []))

pub total_barriers-push : (ops : List Op) (op : Op) → total_barriers (ops ++ op ∷ []) ≡ total_barriers ops + barrier_count op
total_barriers-push ops op = omega (arith, sum_by-append barrier_count ops (op ∷ []))

-- the operation breaks no limit of the setting after these
pub record IsAdmissible (setting : SettingValue) (ops : List Op) (op : Op) : Type 0 where
  pub few_events : total_events ops + event_count op ≤ event_limit setting.version
  pub few_barriers : total_barriers ops + barrier_count op ≤ barrier_limit setting.version
  pub in_range : option_map_or (nat_lt 255) (address_of op) false ≡ false
  pub storable : IsStorable (values_of setting.first) (stored_values ops) (stored_by op)
  pub no_stbar : is_stbar_in_tso setting.order op ≡ false

-- one more operation that breaks no limit
pub KeepsLimits-push : (setting : SettingValue) (ops : List Op) (op : Op) → KeepsLimits setting ops → IsAdmissible setting ops op → KeepsLimits setting (ops ++ op ∷ [])
KeepsLimits-push setting ops op limits may =
    let values = values-push (values_of setting.first) (stored_values ops) (stored_by op) may.storable
    (record { non_zero = limits.non_zero; fits = limits.fits; distinct = limits.distinct; apart = limits.apart }) in
    record {
      events = rw total_events-push may.few_events;
      barriers = rw total_barriers-push may.few_barriers;
      addresses = rw (flat_map-push (λ op. option_to_list (address_of op)) ops op) (addresses-push (addresses_of ops) (address_of op) limits.addresses may.in_range);
      non_zero = rw stored_values-push values.non_zero;
      distinct = rw stored_values-push values.distinct;
      fits = rw stored_values-push values.fits;
      apart = rw stored_values-push values.apart;
      stbars = All-push (λ op. is_stbar_in_tso setting.order op ≡ false) ops op limits.stbars may.no_stbar;
    }

-- an operation that breaks no limit has no fault
pub no_fault : (setting : SettingValue) (ops : List Op) (op : Op) → IsAdmissible setting ops op → (why : ValueFault) → has_fault setting ops op why ≡ false
no_fault setting ops op may TooManyProcessors = refl
no_fault setting ops op may TooManyEvents = let few = may.few_events in let few_barriers = may.few_barriers in grind (arith, nat_tests)
no_fault setting ops op may AddressRange = may.in_range
no_fault setting ops op may ZeroValue = may.storable.non_zero
no_fault setting ops op may RepeatedValue = may.storable.new
no_fault setting ops op may OutOfMemory = refl
no_fault setting ops op may StbarInTso = may.no_stbar
no_fault setting ops op may InitOrder = refl
