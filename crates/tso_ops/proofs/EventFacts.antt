-- What the limits of a trace say of its events: their number, addresses and values, and that no two stores share a value.
use Rattle.std.proofs.Common.{◌≡◌, ◌∙◌, ⊎_elim, sym, ap, subst, refl, ℕ, zero, suc, ◌<◌, ◌≤◌, ◌^◌, Bool, true, false, cond, eqb, ◌||◌, inl, inr, All, List, [], ◌∷◌, ◌++◌, length, map, Some, IsFalse, slice_get, arith}
use Rattle.std.specs.List.{flat_map, list_any, IsDistinct, AllByRecursion}
use Rattle.std.proofs.lemmas.Bool.{false≢true, cases_eq, cases_lt}
use Rattle.std.proofs.lemmas.Bool.Decides.{nat_tests}
use Rattle.std.proofs.lemmas.List.{length-append}
use Rattle.std.proofs.lemmas.List.Concat.{flat_map-append}
use Rattle.std.proofs.lemmas.List.Sums.{sum_by-append, sum_by-cons}
use Rattle.std.proofs.lemmas.List.Elements.{recursion_from_All}
use Rattle.std.proofs.lemmas.Map.Keys.{IsDistinct-head, IsDistinct-tail}
use Rattle.tso_ops.specs.declared.ops.Op.{Op}
use Rattle.tso_ops.specs.declared.ops.Outcome.{Outcome}
use Rattle.tso_ops.specs.declared.ops.Outcome.TheVariants.{Ld, St, Sw, Mb, Sb}
use Rattle.tso_ops.specs.declared.events.Event.{Event}
use Rattle.tso_ops.specs.declared.settings.Version.{Version}
use Rattle.tso_ops.specs.declared.settings.Version.TheVariants.{One, Two}
use Rattle.tso_ops.specs.Settings.{event_limit, first_value, values_of}
use Rattle.tso_ops.specs.Values.{TraceValue, op_of, program_of, in_file_order, ReadFits}
use Rattle.tso_ops.specs.Limits.{event_count, total_events, stored_values, addresses_of, IsTrace}
use Rattle.tso_ops.specs.Events.{events_from, events_of_lists, events_of, event_at, event_total, IsStore, HasValue, SameValue}

-- ---- the values that the stores among events write

store_value : Event → List ℕ
store_value e = cond e.load [] (e.value ∷ [])

-- the operations of these lists in file order
abbrev joined : List (List Outcome) → List Op
joined lists = flat_map (λ ops. ops) (map (map op_of) lists)

store_values-from : (p bars stbars : ℕ) (ops : List Outcome) → flat_map store_value (events_from p bars stbars ops) ≡ stored_values (map op_of ops)
unfolding store_value
store_values-from p bars stbars [] = refl
store_values-from p bars stbars (Ld a r ∷ ops) = store_values-from p bars stbars ops
store_values-from p bars stbars (St a v ∷ ops) = ap (λ rest. v ∷ rest) (store_values-from p bars stbars ops)
store_values-from p bars stbars (Sw a r v ∷ ops) = ap (λ rest. v ∷ rest) (store_values-from p bars stbars ops)
store_values-from p bars stbars (Mb ∷ ops) = store_values-from p (suc bars) stbars ops
store_values-from p bars stbars (Sb ∷ ops) = store_values-from p bars (suc stbars) ops

stored_values-append : (xs ys : List Op) → stored_values (xs ++ ys) ≡ stored_values xs ++ stored_values ys
stored_values-append xs ys = flat_map-append _ xs ys

store_values-lists : (p : ℕ) (lists : List (List Outcome)) → flat_map store_value (events_of_lists p lists) ≡ stored_values (joined lists)
store_values-lists p [] = refl
store_values-lists p (ops ∷ lists) =
    flat_map-append store_value (events_from p 0 0 ops) (events_of_lists (suc p) lists)
    ∙ ap (λ prefix. prefix ++ flat_map store_value (events_of_lists (suc p) lists)) (store_values-from p 0 0 ops)
    ∙ ap (λ rest. stored_values (map op_of ops) ++ rest) (store_values-lists (suc p) lists)
    ∙ sym (stored_values-append (map op_of ops) (joined lists))

-- the first of the stored values: that of one event
value_then : (P : ℕ → Type 0) (load : Bool) (v : ℕ) (rest : List ℕ) → AllByRecursion P (cond load [] (v ∷ []) ++ rest) → (load ≡ false → P v) × AllByRecursion P rest
value_then P true v rest all = (λ e. absurd (false≢true (sym e)), all)
value_then P false v rest all = (λ e. all.0, all.1)

value_apart : (load : Bool) (v : ℕ) (rest : List ℕ) → IsDistinct eqb (cond load [] (v ∷ []) ++ rest) →
    (load ≡ false → AllByRecursion (λ y. eqb v y ≡ false) rest) × IsDistinct eqb rest
value_apart true v rest distinct = (λ e. absurd (false≢true (sym e)), distinct)
value_apart false v rest distinct = (λ e. IsDistinct-head eqb v rest distinct, IsDistinct-tail eqb v rest distinct)

-- what holds of each value that is stored holds of the value of a store
store_value-holds : (P : ℕ → Type 0) (events : List Event) (k : ℕ) (e : Event) → slice_get events k ≡ Some e → IsFalse e.load →
    AllByRecursion P (flat_map store_value events) → P e.value
unfolding store_value
store_value-holds P [] k e at store all = absurd cc
store_value-holds P (x ∷ events) zero e at store all =
    let same : x ≡ e = cc in
    let load : x.load ≡ false = ap (λ (y : Event). y.load) same ∙ store in
    subst P (ap (λ (y : Event). y.value) same) ((value_then P x.load x.value (flat_map store_value events) all).0 load)
store_value-holds P (x ∷ events) (suc k) e at store all =
    store_value-holds P events k e at store (value_then P x.load x.value (flat_map store_value events) all).1

-- no two stores have one value
stores_apart : (events : List Event) (j k : ℕ) (d e : Event) → j < k → slice_get events j ≡ Some d → slice_get events k ≡ Some e → IsFalse d.load → IsFalse e.load →
    IsDistinct eqb (flat_map store_value events) → d.value ≡ e.value → ⊥
unfolding store_value
stores_apart [] j k d e before at_j at_k store_j store_k distinct same = absurd cc
stores_apart (x ∷ events) zero zero d e before at_j at_k store_j store_k distinct same = absurd (omega arith)
stores_apart (x ∷ events) zero (suc k) d e before at_j at_k store_j store_k distinct same =
    let is : x ≡ d = cc in
    let load : x.load ≡ false = ap (λ (y : Event). y.load) is ∙ store_j in
    let value : x.value ≡ d.value = ap (λ (y : Event). y.value) is in
    let apart = (value_apart x.load x.value (flat_map store_value events) distinct).0 load in
    let differs = store_value-holds (λ y. eqb x.value y ≡ false) events k e at_k store_k apart in
    grind (arith, nat_tests)
stores_apart (x ∷ events) (suc j) zero d e before at_j at_k store_j store_k distinct same = absurd (omega arith)
stores_apart (x ∷ events) (suc j) (suc k) d e before at_j at_k store_j store_k distinct same =
    stores_apart events j k d e (omega arith) at_j at_k store_j store_k (value_apart x.load x.value (flat_map store_value events) distinct).1 same

-- ---- the number of events, their addresses and values

event_total-from : (p bars stbars : ℕ) (ops : List Outcome) → length (events_from p bars stbars ops) ≡ total_events (map op_of ops)
event_total-from p bars stbars [] = refl
event_total-from p bars stbars (Ld a r ∷ ops) = omega (arith, event_total-from p bars stbars ops, sum_by-cons event_count (op_of (Ld a r)) (map op_of ops))
event_total-from p bars stbars (St a v ∷ ops) = omega (arith, event_total-from p bars stbars ops, sum_by-cons event_count (op_of (St a v)) (map op_of ops))
event_total-from p bars stbars (Sw a r v ∷ ops) = omega (arith, event_total-from p bars stbars ops, sum_by-cons event_count (op_of (Sw a r v)) (map op_of ops))
event_total-from p bars stbars (Mb ∷ ops) = omega (arith, event_total-from p (suc bars) stbars ops, sum_by-cons event_count (op_of Mb) (map op_of ops))
event_total-from p bars stbars (Sb ∷ ops) = omega (arith, event_total-from p bars (suc stbars) ops, sum_by-cons event_count (op_of Sb) (map op_of ops))

event_total-lists : (p : ℕ) (lists : List (List Outcome)) → length (events_of_lists p lists) ≡ total_events (joined lists)
event_total-lists p [] = refl
event_total-lists p (ops ∷ lists) =
    omega (
      arith,
      length-append (events_from p 0 0 ops) (events_of_lists (suc p) lists),
      event_total-from p 0 0 ops,
      event_total-lists (suc p) lists,
      sum_by-append event_count (map op_of ops) (joined lists),
    )

-- the address and the value of an event are in range
abbrev InRange : Event → Type 0
InRange e = (e.a < 256) × (e.value < 2 ^ 64)

each-append : {X : Type 0} (P : X → Type 0) → (xs ys : List X) → AllByRecursion P xs → AllByRecursion P ys → AllByRecursion P (xs ++ ys)
each-append P [] ys prefix back = back
each-append P (x ∷ xs) ys prefix back = (prefix.0, each-append P xs ys prefix.1 back)

each-prefix : {X : Type 0} (P : X → Type 0) → (xs ys : List X) → AllByRecursion P (xs ++ ys) → AllByRecursion P xs × AllByRecursion P ys
each-prefix P [] ys all = (tt, all)
each-prefix P (x ∷ xs) ys all = let rest = each-prefix P xs ys all.1 in ((all.0, rest.0), rest.1)

in_range-from : (p bars stbars : ℕ) (ops : List Outcome) → AllByRecursion (λ a. a < 256) (addresses_of (map op_of ops)) →
    AllByRecursion (λ v. v < 2 ^ 64) (stored_values (map op_of ops)) → AllByRecursion ReadFits ops → AllByRecursion InRange (events_from p bars stbars ops)
in_range-from p bars stbars [] addresses stored reads = tt
in_range-from p bars stbars (Ld a r ∷ ops) addresses stored reads = ((addresses.0, reads.0), in_range-from p bars stbars ops addresses.1 stored reads.1)
in_range-from p bars stbars (St a v ∷ ops) addresses stored reads = ((addresses.0, stored.0), in_range-from p bars stbars ops addresses.1 stored.1 reads.1)
in_range-from p bars stbars (Sw a r v ∷ ops) addresses stored reads =
    ((addresses.0, reads.0), ((addresses.0, stored.0), in_range-from p bars stbars ops addresses.1 stored.1 reads.1))
in_range-from p bars stbars (Mb ∷ ops) addresses stored reads = in_range-from p (suc bars) stbars ops addresses stored reads.1
in_range-from p bars stbars (Sb ∷ ops) addresses stored reads = in_range-from p bars (suc stbars) ops addresses stored reads.1

addresses_of-append : (xs ys : List Op) → addresses_of (xs ++ ys) ≡ addresses_of xs ++ addresses_of ys
addresses_of-append xs ys = flat_map-append _ xs ys

in_range-lists : (p : ℕ) (lists : List (List Outcome)) → AllByRecursion (λ a. a < 256) (addresses_of (joined lists)) →
    AllByRecursion (λ v. v < 2 ^ 64) (stored_values (joined lists)) → AllByRecursion ReadFits (flat_map (λ ops. ops) lists) → AllByRecursion InRange (events_of_lists p lists)
in_range-lists p [] addresses stored reads = tt
in_range-lists p (ops ∷ lists) addresses stored reads =
    let a = each-prefix (λ a. a < 256) (addresses_of (map op_of ops)) (addresses_of (joined lists)) (rw addresses_of-append at addresses) in
    let v = each-prefix (λ v. v < 2 ^ 64) (stored_values (map op_of ops)) (stored_values (joined lists)) (rw stored_values-append at stored) in
    let r = each-prefix ReadFits ops (flat_map (λ ops. ops) lists) reads in
    each-append InRange (events_from p 0 0 ops) (events_of_lists (suc p) lists)
    (in_range-from p 0 0 ops a.0 v.0 r.0) (in_range-lists (suc p) lists a.1 v.1 r.1)

pub each-at : {X : Type 0} (P : X → Type 0) → (xs : List X) (k : ℕ) (x : X) → slice_get xs k ≡ Some x → AllByRecursion P xs → P x
each-at P [] k x at all = absurd cc
each-at P (y ∷ xs) zero x at all = let same : y ≡ x = cc in subst P same all.0
each-at P (y ∷ xs) (suc k) x at all = each-at P xs k x at all.1

-- ---- what a trace's limits say of its events

-- a trace has at most as many events as its version allows
pub event_total-bound : (t : TraceValue) → IsTrace t → event_total t ≤ event_limit t.setting.version
unfolding events_of
event_total-bound t trace = omega (arith, event_total-lists 0 t.lists, trace.program.limits.events)

-- and no version allows more than 8,000
event_limit-most : (v : Version) → event_limit v ≤ 8000
event_limit-most One = omega arith
event_limit-most Two = omega arith

pub event_total-most : (t : TraceValue) → IsTrace t → event_total t ≤ 8000
event_total-most t trace = omega (arith, event_total-bound t trace, event_limit-most t.setting.version)

-- the address of an event is below 256, and its value is a number of 64 bits
pub event_in_range : (t : TraceValue) → IsTrace t → (n : ℕ) (e : Event) → event_at t n ≡ Some e → (e.a < 256) × (e.value < 2 ^ 64)
unfolding events_of event_at
event_in_range t trace zero e at = absurd cc
event_in_range t trace (suc k) e at =
    let limits = trace.program.limits in
    each-at InRange (events_of_lists 0 t.lists) k e at
    (in_range-lists 0 t.lists (recursion_from_All _ _ limits.addresses) (recursion_from_All _ _ limits.fits) (recursion_from_All _ _ trace.reads))

-- what holds of each value that operations write holds of that of a store
stored_value-holds : (P : ℕ → Type 0) (t : TraceValue) → All P (stored_values (in_file_order (program_of t))) → (n value : ℕ) → IsStore t n → HasValue t n value → P value
unfolding events_of event_at
stored_value-holds P t all zero value store has = absurd cc
stored_value-holds P t all (suc k) value (e, at, is_store) (d, at_d, same) =
    let one : d ≡ e = cc in
    let each = recursion_from_All P _ all in
    let value_is : e.value ≡ value = ap (λ (x : Event). x.value) (sym one) ∙ same in
    subst P value_is (store_value-holds P (events_of_lists 0 t.lists) k e at is_store (rw (store_values-lists 0 t.lists) each))

-- no store writes 0
store_value_not_zero : (t : TraceValue) → IsTrace t → (n value : ℕ) → IsStore t n → HasValue t n value → 0 < value
store_value_not_zero t trace = stored_value-holds (λ v. 0 < v) t trace.program.limits.non_zero

-- a value that isn't 0 and isn't among the values of the entries is no first value
not_first : (first : List (ℕ × ℕ)) (v a : ℕ) → 0 < v → list_any (eqb v) (values_of first) ≡ false → v ≡ first_value first a → ⊥
not_first [] v a above none same = omega arith
not_first (entry ∷ rest) v a above none same = elim (cases_eq entry.0 a) [
  | inl here ↦ (
      let test : eqb entry.0 a ≡ true = grind (arith, nat_tests) in
      let value : v ≡ entry.1 = same ∙ ap (λ b. cond b entry.1 (first_value rest a)) test in
      let found : eqb v entry.1 ≡ true = grind (arith, nat_tests) in
      false≢true (sym (or_first (eqb v entry.1) (list_any (eqb v) (values_of rest)) none) ∙ found)
      )
  | inr other ↦ (
      let test : eqb entry.0 a ≡ false = grind (arith, nat_tests) in
      let value : v ≡ first_value rest a = same ∙ ap (λ b. cond b entry.1 (first_value rest a)) test in
      not_first rest v a above (or_rest (eqb v entry.1) (list_any (eqb v) (values_of rest)) none) value
      )
]
  where
    or_first : (a b : Bool) → (a || b) ≡ false → a ≡ false
    or_first true b e = absurd (false≢true (sym e))
    or_first false b e = refl

    or_rest : (a b : Bool) → (a || b) ≡ false → b ≡ false
    or_rest true b e = absurd (false≢true (sym e))
    or_rest false b e = e

-- no store writes a first value of any address
pub store_value_not_first : (t : TraceValue) → IsTrace t → (n a value : ℕ) → IsStore t n → HasValue t n value → value ≡ first_value t.setting.first a → ⊥
store_value_not_first t trace n a value store has =
    not_first t.setting.first value a (store_value_not_zero t trace n value store has)
    (stored_value-holds (λ v. list_any (eqb v) (values_of t.setting.first) ≡ false) t trace.program.limits.apart n value store has)

-- no two stores write one value
pub stores_distinct : (t : TraceValue) → IsTrace t → (m n : ℕ) → IsStore t m → IsStore t n → SameValue t m n → m ≡ n
unfolding events_of event_at
stores_distinct t trace zero n m_store n_store same = absurd cc
stores_distinct t trace (suc j) zero m_store n_store same = absurd cc
stores_distinct t trace (suc j) (suc k) (d, at_j, store_d) (e, at_k, store_e) (d', e', at_d, at_e, same) =
    let events = events_of_lists 0 t.lists in
    let distinct : IsDistinct eqb (flat_map store_value events) = rw (store_values-lists 0 t.lists) trace.program.limits.distinct in
    let d_is : d ≡ d' = cc in
    let e_is : e ≡ e' = cc in
    let values : d.value ≡ e.value = ap (λ (x : Event). x.value) d_is ∙ same ∙ ap (λ (x : Event). x.value) (sym e_is) in
    ⊎_elim (λ before. absurd (stores_apart events j k d e before at_j at_k store_d store_e distinct values))
    (λ not_before. ⊎_elim (λ after. absurd (stores_apart events k j e d after at_k at_j store_e store_d distinct (sym values))) (λ not_after. omega arith) (cases_lt k j))
    (cases_lt j k)
