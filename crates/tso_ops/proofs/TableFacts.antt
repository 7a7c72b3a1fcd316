-- Lemmas on the tables of a trace: its events list by list, the stores by their values, and the sources.
use Rattle.std.proofs.Common.{◌≡◌, ◌⊎◌, ◌∙◌, ⊎_elim, inl, inr, sym, ap, subst, refl, ℕ, zero, suc, ◌+◌, ◌-◌, ◌<◌, ◌≤◌, true, false, cond, eqb, List, [], ◌∷◌, ◌++◌, length, get_or, drop, map, Option, Some, None, slice_get, arith, add-one}
use Rattle.std.specs.Global.{Vec}
use Rattle.std.specs.Ordering.{nat_cmp}
use Rattle.std.specs.BTreeMap.{BTreeMap, get, Updates, IsEmpty}
use Rattle.std.proofs.lemmas.Bool.{false≢true, cases_eq, cases_lt}
use Rattle.std.proofs.lemmas.Bool.Decides.{nat_tests}
use Rattle.std.proofs.lemmas.List.{drop-map, drop_more, drop_all, length-map, length_push}
use Rattle.std.proofs.lemmas.Option.{slice_get_within, slice_get-get_or}
use Rattle.tso_ops.specs.declared.ops.Outcome.{Outcome}
use Rattle.tso_ops.specs.declared.events.Event.{Event}
use Rattle.tso_ops.specs.declared.events.Source.{Source}
use Rattle.tso_ops.specs.declared.events.Source.TheVariants.{Init, Store, Unwritten}
use Rattle.tso_ops.specs.Settings.{first_value}
use Rattle.tso_ops.specs.Values.{TraceValue, rows}
use Rattle.tso_ops.specs.Limits.{IsTrace}
use Rattle.tso_ops.specs.Events.{events_from, events_of_lists, events_of, event_at, IsLoad, HasSource}
use Rattle.tso_ops.specs.Internal.Tables.{IsStoreAt, FindsStore, FindsStores, IsSourceRow, AreSources}
use Rattle.tso_ops.proofs.EventFacts.{stores_distinct, store_value_not_first}
use Rattle.tso_ops.proofs.TallyFacts.{is_at-nat_eq}

-- the events of the lists that are left, list by list
pub events-next : (lists : List (Vec Outcome)) (i : ℕ) (x : Vec Outcome) → i < length lists → x ≡ get_or lists i x →
    events_of_lists i (drop i (rows lists)) ≡ events_from i 0 0 x.items ++ events_of_lists (i + 1) (drop (i + 1) (rows lists))
events-next lists i x within at =
    let items = λ (row : Vec Outcome). row.items in
    let rest : drop i (rows lists) ≡ x.items ∷ drop (i + 1) (rows lists) =
    drop-map items i lists ∙ ap (map items) (drop_more lists i x within) ∙ ap (λ (y : Vec Outcome). y.items ∷ map items (drop (i + 1) lists)) (sym at)
    ∙ ap (λ ys. x.items ∷ ys) (sym (drop-map items (i + 1) lists)) in
    rw (rest, add-one) refl

pub events-all : (lists : List (Vec Outcome)) (i : ℕ) → length lists ≤ i → events_of_lists i (drop i (rows lists)) ≡ []
events-all lists i all = ap (events_of_lists i) (drop_all i (rows lists) (omega (arith, length-map lists (λ (row : Vec Outcome). row.items))))

-- ---- stores by their values

-- the event at a place of the list
pub same_event : (events : List Event) (k : ℕ) (d e : Event) → slice_get events k ≡ Some d → slice_get events k ≡ Some e → d ≡ e
same_event events k d e at_d at_e = let same : Some d ≡ Some e = sym at_d ∙ at_e in cc

pub FindsStores-none : (events : List Event) (stores : BTreeMap ℕ ℕ) → IsEmpty stores → FindsStores events 0 stores
FindsStores-none events stores empty value = rw empty (λ k within store. omega arith)

-- one more event that no look-up of the value finds
FindsStore-kept : (events : List Event) (i value : ℕ) (found : Option ℕ) → (IsStoreAt events i value → ⊥) → FindsStore events i value found → FindsStore events (i + 1) value found
FindsStore-kept events i value None other finds =
    λ k within store. ⊎_elim (λ before. finds k before store) (λ not_before. let same : k ≡ i = omega arith in other (subst (λ j. IsStoreAt events j value) same store)) (cases_lt k i)
FindsStore-kept events i value (Some n) other (k, within, is, store) = (k, omega arith, is, store)

-- one more load
pub FindsStores-load : (events : List Event) (i : ℕ) (e : Event) (stores : BTreeMap ℕ ℕ) → slice_get events i ≡ Some e → e.load ≡ true →
    FindsStores events i stores → FindsStores events (i + 1) stores
FindsStores-load events i e stores at load finds value =
    FindsStore-kept events i value (get nat_cmp stores value)
    (λ (d, at_d, store, same). let one = same_event events i d e at_d at in false≢true (sym store ∙ ap (λ (x : Event). x.load) one ∙ load)) (finds value)

-- one more store, which is put into the map
pub FindsStores-store : (events : List Event) (i : ℕ) (e : Event) (old new : BTreeMap ℕ ℕ) → slice_get events i ≡ Some e → e.load ≡ false →
    Updates nat_cmp old new e.value (Some (i + 1)) → FindsStores events i old → FindsStores events (i + 1) new
FindsStores-store events i e old new at store updates finds value =
    let looked_up : get nat_cmp new value ≡ cond (eqb value e.value) (Some (i + 1)) (get nat_cmp old value) =
    updates.0 value ∙ ap (λ b. cond b (Some (i + 1)) (get nat_cmp old value)) (is_at-nat_eq e.value value) in
    ⊎_elim
    (λ (same : value ≡ e.value). let test : eqb value e.value ≡ true = grind (arith, nat_tests) in
    rw (looked_up, test) (i, omega arith, add-one i, (e, at, store, sym same)))
    (λ (other : value ≡ e.value → ⊥). let test : eqb value e.value ≡ false = grind (arith, nat_tests) in
    rw (looked_up, test) (FindsStore-kept events i value (get nat_cmp old value)
    (λ (d, at_d, is_store, value_is). let one = same_event events i d e at_d at in other (sym value_is ∙ ap (λ (x : Event). x.value) one)) (finds value)))
    (cases_eq value e.value)

-- ---- the sources

-- a place of the list is the event of the next number
pub event_at-suc : (t : TraceValue) (events : List Event) → events_of t ≡ events → (k : ℕ) → event_at t (suc k) ≡ slice_get events k
unfolding event_at
event_at-suc t events is k = ap (λ es. slice_get es k) is

-- a number has one event
same_at : (t : TraceValue) (n : ℕ) (d e : Event) → event_at t n ≡ Some d → event_at t n ≡ Some e → d ≡ e
same_at t n d e at_d at_e = let same : Some d ≡ Some e = sym at_d ∙ at_e in cc

-- a store is no load
pub row_of_store : (t : TraceValue) (n : ℕ) (e : Event) → event_at t n ≡ Some e → e.load ≡ false → IsSourceRow t n None
row_of_store t n e at store (d, at_d, load) =
    let one = same_at t n d e at_d at in false≢true (sym store ∙ ap (λ (x : Event). x.load) (sym one) ∙ load)

-- a load that read the first value of its address
pub row_of_init : (t : TraceValue) (n : ℕ) (e : Event) → event_at t n ≡ Some e → e.load ≡ true → e.value ≡ first_value t.setting.first e.a → IsSourceRow t n (Some Init)
row_of_init t n e at load is_first = ((e, at, load), ((e, at, load), (e, at, is_first)))

-- the first value is that of the trace
pub unlike_first : (t : TraceValue) (first : List (ℕ × ℕ)) (e : Event) → t.setting.first ≡ first → (value : ℕ) → value ≡ first_value first e.a → (e.value ≡ value → ⊥) →
    e.value ≡ first_value t.setting.first e.a → ⊥
unlike_first t first e is value value_is other same = other (same ∙ ap (λ entries. first_value entries e.a) is ∙ sym value_is)

-- a load that read what a store to its address wrote
pub row_of_stored : (t : TraceValue) (events : List Event) → events_of t ≡ events → (n : ℕ) (e : Event) → event_at t n ≡ Some e → e.load ≡ true →
    (s k : ℕ) (d : Event) → s ≡ suc k → IsStoreAt events k e.value → slice_get events k ≡ Some d → d.a ≡ e.a → IsSourceRow t n (Some (Store s))
row_of_stored t events is n e at load s k d s_is (d', at_d', store, value) at_d address =
    let at_k : event_at t (suc k) ≡ Some d = event_at-suc t events is k ∙ at_d in
    let one = same_event events k d' d at_d' at_d in
    let is_store : d.load ≡ false = ap (λ (x : Event). x.load) (sym one) ∙ store in
    let same_value : d.value ≡ e.value = ap (λ (x : Event). x.value) (sym one) ∙ value in
    let stored : HasSource t n (suc k) = ((e, at, load), (d, at_k, is_store), (d, e, at_k, at, address), (d, e, at_k, at, same_value)) in
    ((e, at, load), (subst (λ x. HasSource t n x) (sym s_is) stored, omega arith))

no_source : (t : TraceValue) (n : ℕ) (e : Event) → event_at t n ≡ Some e → (e.value ≡ first_value t.setting.first e.a → ⊥) →
    ((k : ℕ) (d : Event) → event_at t (suc k) ≡ Some d → d.load ≡ false → d.a ≡ e.a → d.value ≡ e.value → ⊥) → (s : ℕ) → HasSource t n s → ⊥
no_source t n e at not_first none zero (load, (d, at_d, is_first)) =
    not_first (subst (λ (x : Event). x.value ≡ first_value t.setting.first x.a) (same_at t n d e at_d at) is_first)
no_source t n e at not_first none (suc k) (load, (d, at_d, store), (d', e', at_d', at_e', address), (d'', e'', at_d'', at_e'', value)) =
    none k d at_d store
    (ap (λ (x : Event). x.a) (same_at t (suc k) d d' at_d at_d') ∙ address ∙ ap (λ (x : Event). x.a) (same_at t n e' e at_e' at))
    (ap (λ (x : Event). x.value) (same_at t (suc k) d d'' at_d at_d'') ∙ value ∙ ap (λ (x : Event). x.value) (same_at t n e'' e at_e'' at))

-- a load of a value that no store to its address wrote
pub row_of_unwritten : (t : TraceValue) (n : ℕ) (e : Event) → event_at t n ≡ Some e → e.load ≡ true → (e.value ≡ first_value t.setting.first e.a → ⊥) →
    ((k : ℕ) (d : Event) → event_at t (suc k) ≡ Some d → d.load ≡ false → d.a ≡ e.a → d.value ≡ e.value → ⊥) → IsSourceRow t n (Some Unwritten)
row_of_unwritten t n e at load not_first none = ((e, at, load), ((e, at, load), no_source t n e at not_first none))

-- what a look-up that succeeds says of the event at the place that it names
found_event : (events : List Event) (value n : ℕ) (default : Event) → FindsStore events (length events) value (Some n) →
    (k : ℕ) × (n ≡ suc k) × IsStoreAt events k value × (slice_get events k ≡ Some (get_or events (n - 1) default))
found_event events value n default (k, within, is, store) =
    let place : n - 1 ≡ k = omega arith in
    (k, is, store, subst (λ j. slice_get events k ≡ Some (get_or events j default)) (sym place) (slice_get-get_or events k default within))

-- the row of a load whose value is found at its address
pub row_found : (t : TraceValue) (l : ℕ) (events : List Event) (e default : Event) (n : ℕ) → events_of t ≡ events → event_at t l ≡ Some e → e.load ≡ true →
    FindsStore events (length events) e.value (Some n) → (get_or events (n - 1) default).a ≡ e.a → IsSourceRow t l (Some (Store n))
row_found t l events e default n is at load finds address =
    let found = found_event events e.value n default finds in
    row_of_stored t events is l e at load n found.0 (get_or events (n - 1) default) found.1 found.2 found.3 address

-- the row of a load whose value is found at another address
pub row_elsewhere : (t : TraceValue) (l : ℕ) (events : List Event) (e default : Event) (n : ℕ) → IsTrace t → events_of t ≡ events → event_at t l ≡ Some e → e.load ≡ true →
    (e.value ≡ first_value t.setting.first e.a → ⊥) → FindsStore events (length events) e.value (Some n) → ((get_or events (n - 1) default).a ≡ e.a → ⊥) → IsSourceRow t l (Some Unwritten)
row_elsewhere t l events e default n trace is at load not_first finds elsewhere =
    let found = found_event events e.value n default finds in
    let k = found.0 in
    let store = found.2 in
    row_of_unwritten t l e at load not_first
    (λ j d at_j is_store address value.
    let at_k : event_at t (suc k) ≡ Some store.0 = event_at-suc t events is k ∙ store.1 in
    let same : suc j ≡ suc k =
    stores_distinct t trace (suc j) (suc k) (d, at_j, is_store) (store.0, at_k, store.2) (d, store.0, at_j, at_k, value ∙ sym store.3) in
    let at_j_k : event_at t (suc j) ≡ Some (get_or events (n - 1) default) =
    ap (event_at t) same ∙ event_at-suc t events is k ∙ found.3 in
    elsewhere (ap (λ (x : Event). x.a) (sym (same_at t (suc j) d (get_or events (n - 1) default) at_j at_j_k)) ∙ address))

-- the row of a load whose value isn't found
pub row_missing : (t : TraceValue) (l : ℕ) (events : List Event) (e : Event) → events_of t ≡ events → event_at t l ≡ Some e → e.load ≡ true →
    (e.value ≡ first_value t.setting.first e.a → ⊥) → FindsStore events (length events) e.value None → IsSourceRow t l (Some Unwritten)
row_missing t l events e is at load not_first none =
    row_of_unwritten t l e at load not_first
    (λ k d at_k is_store address value.
    let here : slice_get events k ≡ Some d = sym (event_at-suc t events is k) ∙ at_k in
    none k (slice_get_within events k d here) (d, here, is_store, value))

-- what has a source is a load
pub source_load : (t : TraceValue) (l s : ℕ) → HasSource t l s → IsLoad t l
source_load t l zero has = has.0
source_load t l (suc k) has = has.0

-- a load of a first value has no store for its source
first_from_init : (t : TraceValue) → IsTrace t → (l k : ℕ) → HasSource t l 0 → HasSource t l (suc k) → ⊥
first_from_init t trace l k (load, (d, at_d, is_first)) (other, store, address, (x, y, at_x, at_y, value)) =
    store_value_not_first t trace (suc k) d.a x.value store (x, at_x, refl) (value ∙ ap (λ (e : Event). e.value) (same_at t l y d at_y at_d) ∙ is_first)

-- a load has one source
pub one_source : (t : TraceValue) → IsTrace t → (l r s : ℕ) → HasSource t l r → HasSource t l s → r ≡ s
one_source t trace l zero zero left right = refl
one_source t trace l zero (suc k) left right = absurd (first_from_init t trace l k left right)
one_source t trace l (suc j) zero left right = absurd (first_from_init t trace l j right left)
one_source t trace l (suc j) (suc k) (load, store, address, (d, e, at_d, at_e, value)) (load', store', address', (d', e', at_d', at_e', value')) =
    stores_distinct t trace (suc j) (suc k) store store' (d, d', at_d, at_d', value ∙ ap (λ (x : Event). x.value) (same_at t l e e' at_e at_e') ∙ sym value')

-- ---- the table of sources, row by row

-- the rows so far are those of the first events
pub record AreFirstRows (t : TraceValue) (rows : List (Option Source)) (count : ℕ) : Type 0 where
  pub rows_in : length rows ≡ count
  pub each : (k : ℕ) (row : Option Source) → slice_get rows k ≡ Some row → IsSourceRow t (suc k) row

pub AreFirstRows-none : (t : TraceValue) (rows : List (Option Source)) → rows ≡ [] → AreFirstRows t rows 0
AreFirstRows-none t rows none = rw none record { rows_in = refl; each = λ k row at. absurd cc }

slice_get-push : {X : Type 0} → (xs : List X) (x y : X) (k : ℕ) → slice_get (xs ++ x ∷ []) k ≡ Some y → (slice_get xs k ≡ Some y) ⊎ ((k ≡ length xs) × (x ≡ y))
slice_get-push [] x y zero at = inr (refl, cc)
slice_get-push [] x y (suc k) at = absurd cc
slice_get-push (z ∷ xs) x y zero at = inl at
slice_get-push (z ∷ xs) x y (suc k) at = ⊎_elim (λ h. inl h) (λ h. inr (ap suc h.0, h.1)) (slice_get-push xs x y k at)

pub AreFirstRows-push : (t : TraceValue) (old new : List (Option Source)) (row : Option Source) (i : ℕ) → AreFirstRows t old i → new ≡ old ++ row ∷ [] →
    IsSourceRow t (suc i) row → AreFirstRows t new (i + 1)
AreFirstRows-push t old new row i before pushed here =
    rw pushed record {
      rows_in = omega (arith, length_push old row, before.rows_in);
      each = λ k r at.
          ⊎_elim (λ earlier. before.each k r earlier)
          (λ last. let place : suc i ≡ suc k = omega (arith, last.0, before.rows_in) in
          subst (IsSourceRow t (suc k)) last.1 (subst (λ n. IsSourceRow t n row) place here))
          (slice_get-push old row r k at);
    }

-- a row for each event
pub AreSources-from_rows : (t : TraceValue) (rows : List (Option Source)) (count : ℕ) (events : List Event) → events_of t ≡ events → AreFirstRows t rows count →
    count ≡ length events → AreSources t rows
AreSources-from_rows t rows count events is first whole = record { rows_in = first.rows_in ∙ whole ∙ ap length (sym is); each = first.each }
