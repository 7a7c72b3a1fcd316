-- The accesses of a log are its events, and the only writer of a value is the only source of it.
use Rattle.std.proofs.Common.{◌≡◌, ◌≢◌, ◌∙◌, refl, sym, ap, subst, ℕ, zero, suc, true, false, List, [], ◌∷◌, ◌++◌, map, Option, None, Some, slice_get, arith}
use Rattle.std.specs.Option.{option_map}
use Rattle.std.proofs.lemmas.List.{map-append}
use Rattle.std.proofs.lemmas.Option.{none-some, slice_get-map}
use Rattle.tso_ops.specs.declared.events.Event.{Event}
use Rattle.tso_ops.specs.Settings.{first_value}
use Rattle.tso_ops.specs.Events.{event_at, events_from, events_of, events_of_lists, IsLoad, IsUnwritten, HasSource}
use Rattle.tso_ops.proofs.NumberFacts.{event_at-within}
use Rattle.log_selections.specs.Sources.{HasTwoSources, IsAmbiguousCount, IsCountOf, IsOnlySource}
use Rattle.log_text.specs.declared.logs.LogOperation.{LogOperation}
use Rattle.log_text.specs.declared.logs.LoggedOperation.{LoggedOperation}
use Rattle.log_text.specs.declared.logs.LogOperation.TheVariants.{Ld, St, Sw, Mb, Sb}
use Rattle.log_text.specs.LogValues.{NumberedLog, log_operations, logged_outcome, logged_outcomes}
use Rattle.log_selections.specs.declared.accesses.Access.{Access}
use Rattle.log_selections.specs.Internal.Accesses.{accesses_of, accesses_of_list, accesses_of_lists}
use Rattle.log_selections.specs.Internal.Known.{AreAllListed, AreSources, IsAmbiguousLoad, IsOnlyWriter, IsUnwrittenNumber, IsWriter, source_in}
use Rattle.log_selections.specs.Internal.Writers.{IsStoreOf}
use Rattle.log_selections.proofs.CountFacts.{count-same}

injective : {X : Type 0} (x y : X) → Some x ≡ Some y → x ≡ y
injective x y same = cc

access_of : Event → Access
access_of e = record { load = e.load; a = e.a; value = e.value }

module _ (p : ℕ) (xs : List LoggedOperation) (rest : (bars stbars : ℕ) → map access_of (events_from p bars stbars (logged_outcomes xs)) ≡ accesses_of_list xs) where
  operation_accesses : (bars stbars : ℕ) (x : LogOperation) → map access_of (events_from p bars stbars (logged_outcome x ∷ logged_outcomes xs)) ≡ accesses_of x ++ accesses_of_list xs
  unfolding access_of
  operation_accesses bars stbars (Ld a r) = ap (λ ys. record { load = true; a = a; value = r } ∷ ys) (rest bars stbars)
  operation_accesses bars stbars (St a v) = ap (λ ys. record { load = false; a = a; value = v } ∷ ys) (rest bars stbars)
  operation_accesses bars stbars (Sw a r v) = ap (λ ys. record { load = true; a = a; value = r } ∷ record { load = false; a = a; value = v } ∷ ys) (rest bars stbars)
  operation_accesses bars stbars Mb = rest (suc bars) stbars
  operation_accesses bars stbars Sb = rest bars (suc stbars)

list_accesses : (p bars stbars : ℕ) (xs : List LoggedOperation) → map access_of (events_from p bars stbars (logged_outcomes xs)) ≡ accesses_of_list xs
list_accesses p bars stbars [] = refl
list_accesses p bars stbars (x ∷ xs) = operation_accesses p xs (λ b s. list_accesses p b s xs) bars stbars x.operation

lists_accesses : (p : ℕ) (lists : List (List LoggedOperation)) → map access_of (events_of_lists p (map logged_outcomes lists)) ≡ accesses_of_lists lists
lists_accesses p [] = refl
lists_accesses p (xs ∷ lists) =
    map-append access_of (events_from p 0 0 (logged_outcomes xs)) (events_of_lists (suc p) (map logged_outcomes lists))
    ∙ ap (λ ys. ys ++ map access_of (events_of_lists (suc p) (map logged_outcomes lists))) (list_accesses p 0 0 xs)
    ∙ ap (λ ys. accesses_of_list xs ++ ys) (lists_accesses (suc p) lists)

module _ (log : NumberedLog) where
  -- the accesses of the log
  abbrev pub accesses : List Access
  accesses = accesses_of_lists log.lists

  access_at : (k : ℕ) → slice_get accesses k ≡ option_map access_of (event_at (log_operations log) (suc k))
  unfolding event_at events_of
  access_at k = ap (λ ys. slice_get ys k) (sym (lists_accesses 0 log.lists)) ∙ slice_get-map access_of (events_of_lists 0 (map logged_outcomes log.lists)) k

  -- an event of the log is an access
  event_access : (k : ℕ) (e : Event) → event_at (log_operations log) (suc k) ≡ Some e → slice_get accesses k ≡ Some (access_of e)
  event_access k e at = access_at k ∙ ap (option_map access_of) at

  -- the other way round
  access_event : (k : ℕ) (x : Access) → slice_get accesses k ≡ Some x → (e : Event) × (event_at (log_operations log) (suc k) ≡ Some e) × (access_of e ≡ x)
  access_event k x at = some_of (event_at (log_operations log) (suc k)) refl
    where
      some_of : (found : Option Event) → event_at (log_operations log) (suc k) ≡ found → (e : Event) × (event_at (log_operations log) (suc k) ≡ Some e) × (access_of e ≡ x)
      some_of None is = let none : None ≡ Some x = ap (option_map access_of) (sym is) ∙ sym (access_at k) ∙ at in absurd (none-some x none)
      some_of (Some e) is = let same : Some (access_of e) ≡ Some x = ap (option_map access_of) (sym is) ∙ sym (access_at k) ∙ at in (e, is, injective (access_of e) x same)

  same_event : (n : ℕ) (d e : Event) → event_at (log_operations log) n ≡ Some d → event_at (log_operations log) n ≡ Some e → d ≡ e
  same_event n d e at_d at_e = injective d e (sym at_d ∙ at_e)

  -- a store that a load can have read is an access that wrote its value
  store_access : (j n : ℕ) (e : Event) → event_at (log_operations log) n ≡ Some e → HasSource (log_operations log) n (suc j) → IsStoreOf accesses (e.a, e.value) j
  unfolding access_of
  store_access j n e at (load, (d, at_d, is_store), (d1, e1, at_d1, at_e1, same_a), (d2, e2, at_d2, at_e2, same_v)) = (
    access_of d,
    event_access j d at_d,
    is_store,
    ap (λ (x : Event). x.a) (same_event (suc j) d d1 at_d at_d1) ∙ same_a ∙ ap (λ (x : Event). x.a) (same_event n e1 e at_e1 at),
    ap (λ (x : Event). x.value) (same_event (suc j) d d2 at_d at_d2) ∙ same_v ∙ ap (λ (x : Event). x.value) (same_event n e2 e at_e2 at),
  )

  -- the other way round
  access_store : (j n : ℕ) (e : Event) → event_at (log_operations log) n ≡ Some e → IsLoad (log_operations log) n → IsStoreOf accesses (e.a, e.value) j → HasSource (log_operations log) n (suc j)
  unfolding access_of
  access_store j n e at load (x, at_x, is_store, same_a, same_v) =
      let (d, at_d, is) = access_event j x at_x in (
        load,
        (d, at_d, ap (λ (y : Access). y.load) is ∙ is_store),
        (d, e, at_d, at, ap (λ (y : Access). y.a) is ∙ same_a),
        (d, e, at_d, at, ap (λ (y : Access). y.value) is ∙ same_v),
      )

  -- the only writer of what a load read is its only source
  only_source : (n : ℕ) (e : Event) (s : ℕ) → event_at (log_operations log) n ≡ Some e → IsLoad (log_operations log) n → IsOnlyWriter log.first accesses (e.a, e.value) s → IsOnlySource (log_operations log) n s
  only_source n e zero at load (first, none) = ((load, (e, at, sym first)), unique)
    where
      unique : (other : ℕ) → HasSource (log_operations log) n other → other ≡ 0
      unique zero source = refl
      unique (suc j) source = absurd (none j (store_access j n e at source))
  only_source n e (suc k) at load (written, store, only) = (access_store k n e at load store, unique)
    where
      unique : (other : ℕ) → HasSource (log_operations log) n other → other ≡ suc k
      unique zero (is_load, (e1, at_e1, first)) =
          absurd (written (sym (ap (λ (x : Event). x.value) (same_event n e e1 at at_e1) ∙ first ∙ ap (λ (x : Event). first_value log.first x.a) (same_event n e1 e at_e1 at))))
      unique (suc j) source = ap suc (only j (store_access j n e at source))

  -- the sources of the table are only sources
  pub known_sources : (numbers : List (Option ℕ)) → AreSources log.first (accesses_of_lists log.lists) numbers → (l s : ℕ) → source_in numbers l ≡ Some s → IsOnlySource (log_operations log) l s
  unfolding access_of
  known_sources numbers are l s is =
      let (k, number, x, at_x, is_load, only) = are l s is in
      let (e, at_e, same) = access_event k x at_x in
      let at : event_at (log_operations log) l ≡ Some e = ap (event_at (log_operations log)) number ∙ at_e in
      let load : IsLoad (log_operations log) l = (e, at, ap (λ (y : Access). y.load) same ∙ is_load) in
      only_source l e s at load (subst (λ (y : Access). IsOnlyWriter log.first accesses (y.a, y.value) s) (sym same) only)

  -- a load of a value that no access wrote, and that isn't the first, has no source
  pub no_source_at : (k a v : ℕ) → slice_get accesses k ≡ Some (record { load = true; a = a; value = v }) → first_value log.first a ≢ v → ((j : ℕ) → IsStoreOf accesses (a, v) j → ⊥) →
      IsLoad (log_operations log) (suc k) × ((s : ℕ) → HasSource (log_operations log) (suc k) s → ⊥)
  unfolding access_of
  no_source_at k a v at_x other none =
      let (e, at, same) = access_event k (record { load = true; a = a; value = v }) at_x in
      let address : e.a ≡ a = ap (λ (y : Access). y.a) same in
      let value : e.value ≡ v = ap (λ (y : Access). y.value) same in (
        (e, at, ap (λ (y : Access). y.load) same),
        λ s. sourced s e at address value,
      )
    where
      sourced : (s : ℕ) (e : Event) → event_at (log_operations log) (suc k) ≡ Some e → e.a ≡ a → e.value ≡ v → HasSource (log_operations log) (suc k) s → ⊥
      sourced zero e at address value (is_load, (d, at_d, read)) =
          let one = same_event (suc k) d e at_d at in
          other (ap (first_value log.first) (sym address ∙ ap (λ (x : Event). x.a) (sym one)) ∙ sym read ∙ ap (λ (x : Event). x.value) one ∙ value)
      sourced (suc j) e at address value source =
          let (x, at_j, is_store, same_a, same_v) = store_access j (suc k) e at source in
          none j (x, at_j, is_store, same_a ∙ address, same_v ∙ value)

  -- ---- loads of what two can have written

  -- a number that can have written what a load read is a source of it
  writer_source : (n r : ℕ) (e : Event) → event_at (log_operations log) n ≡ Some e → IsLoad (log_operations log) n → IsWriter log.first accesses (e.a, e.value) r → HasSource (log_operations log) n r
  writer_source n zero e at load first = (load, (e, at, sym first))
  writer_source n (suc j) e at load store = access_store j n e at load store

  -- the other way round
  source_writer : (n r : ℕ) (e : Event) → event_at (log_operations log) n ≡ Some e → HasSource (log_operations log) n r → IsWriter log.first accesses (e.a, e.value) r
  source_writer n zero e at (load, (d, at_d, first)) =
      let same = same_event n e d at at_d in
      sym (ap (λ (x : Event). x.value) same ∙ first ∙ ap (λ (x : Event). first_value log.first x.a) (sym same))
  source_writer n (suc j) e at source = store_access j n e at source

  sourced_load : (n r : ℕ) → HasSource (log_operations log) n r → IsLoad (log_operations log) n
  sourced_load n zero source = source.0
  sourced_load n (suc j) source = source.0

  ambiguous_sources : (n : ℕ) → IsAmbiguousLoad log.first accesses n → HasTwoSources (log_operations log) n
  unfolding access_of
  ambiguous_sources n (k, number, x, at_x, is_load, (r, s, differ, writes, writes_too)) =
      let (e, at_e, same) = access_event k x at_x in
      let at : event_at (log_operations log) n ≡ Some e = ap (event_at (log_operations log)) number ∙ at_e in
      let load : IsLoad (log_operations log) n = (e, at, ap (λ (y : Access). y.load) same ∙ is_load) in
      let source : (q : ℕ) → IsWriter log.first accesses (x.a, x.value) q → HasSource (log_operations log) n q =
      λ q written. writer_source n q e at load (subst (λ (y : Access). IsWriter log.first accesses (y.a, y.value) q) (sym same) written) in
      (r, s, differ, source r writes, source s writes_too)

  sources_ambiguous : (n : ℕ) → HasTwoSources (log_operations log) n → IsAmbiguousLoad log.first accesses n
  unfolding access_of
  sources_ambiguous zero (r, s, differ, source, other) = let (e, at, is_load) = sourced_load 0 r source in absurd (omega (arith, (event_at-within (log_operations log) 0 e at).0))
  sources_ambiguous (suc k) (r, s, differ, source, other) =
      let (e, at, is_load) = sourced_load (suc k) r source in
      (k, refl, access_of e, event_access k e at, is_load, (r, s, differ, source_writer (suc k) r e at source, source_writer (suc k) s e at other))

  -- a load without a source is one that no access wrote
  unsourced : (n : ℕ) → IsUnwritten (log_operations log) n → IsUnwrittenNumber log.first accesses n
  unfolding access_of
  unsourced zero ((e, at, is_load), none) = absurd (omega (arith, (event_at-within (log_operations log) 0 e at).0))
  unsourced (suc k) ((e, at, is_load), none) = (
    k,
    refl,
    access_of e,
    event_access k e at,
    is_load,
    (λ first. none 0 ((e, at, is_load), (e, at, sym first)), λ j store. none (suc j) (access_store j (suc k) e at (e, at, is_load) store)),
  )

  -- where none is listed, each load has a source
  pub all_written : (unwritten : List ℕ) → AreAllListed log.first (accesses_of_lists log.lists) unwritten → unwritten ≡ [] → (n : ℕ) → IsUnwritten (log_operations log) n → ⊥
  all_written unwritten listed none n is = listed none n (unsourced n is)

  -- so many loads have two sources as are ambiguous
  pub ambiguous_count : (count : ℕ) → IsCountOf (IsAmbiguousLoad log.first (accesses_of_lists log.lists)) count → IsAmbiguousCount log count
  ambiguous_count count = count-same (IsAmbiguousLoad log.first accesses) (HasTwoSources (log_operations log)) count (λ n. (ambiguous_sources n, sources_ambiguous n))
