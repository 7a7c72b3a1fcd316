-- Whether a load reads the last store that it sees, by its source.
use Rattle.std.proofs.Common.{◌≡◌, ◌⊎◌, ◌↔◌, inl, inr, ap, subst, ℕ, zero, suc, ◌<◌, ◌≤◌, Bool, IsTrue, Some, List, [], slice_index, arith}
use Rattle.std.proofs.lemmas.Bool.{cases_eq, cases_lt}
use Rattle.bitsets.specs.Rows.{IsMask}
use Rattle.bitsets.proofs.RowFacts.{HasNumber-none}
use Rattle.tso_ops.specs.Values.{TraceValue}
use Rattle.tso_ops.specs.declared.events.Event.{Event}
use Rattle.tso_ops.specs.Events.{event_at, IsEvent, IsEventOf, IsLoad, IsStore, IsStoreTo, Earlier, SameAddress, SameValue, HasSource, IsUnwritten}
use Rattle.tso_ops.proofs.EventFacts.{event_in_range}
use Rattle.tso_ops.proofs.NumberFacts.{event_above_zero, own_values, source_unique, store_event, store_source}
use Rattle.tso_ops.proofs.TableFacts.{source_load}
use Rattle.tso_model.specs.Axioms.{place, IsUpTo, IsVisible}
use Rattle.order_check.specs.declared.faults.Axiom.TheVariants.{Value}
use Rattle.order_check.specs.declared.progress.Progress.{Progress}
use Rattle.order_check.specs.Refusals.{MeetsAt}
use Rattle.order_check.specs.Internal.Left.{IsLeftIn}
use Rattle.order_check.specs.Internal.Progress.{HasJustPassed}
use Rattle.order_check.specs.Internal.Seen.{IsLastSeen, IsSeen}
use Rattle.order_check.proofs.MetFacts.{after_left, earlier_of_own, left_after, own_of_earlier, to_address}

-- a source that is a store
store_of_source : (t : TraceValue) (l s : ℕ) → HasSource t l s → 0 < s → IsStore t s × SameAddress t s l × SameValue t s l
store_of_source t l zero source above = absurd (omega arith)
store_of_source t l (suc k) source above = (source.1, source.2, source.3)

-- an unwritten load doesn't read the last store that it sees
pub unwritten_unmet : (t : TraceValue) (order : List ℕ) (l : ℕ) → IsUnwritten t l → MeetsAt t order Value l → ⊥
unwritten_unmet t order l unwritten met = elim (met unwritten.0) [
  | inl read ↦ unwritten.1 0 (unwritten.0, read.0)
  | inr read ↦ unwritten.1 read.0 (store_source t l read.0 unwritten.0 read.1.0 read.1.1 read.2)
]

module _ (t : TraceValue) (order : List ℕ) (l : ℕ) (progress : Progress) (passed : HasJustPassed t order l progress) where
  -- places in the table are those in the list
  table_from : (u v : ℕ) → IsEvent t u → IsEvent t v → IsUpTo order u v → slice_index progress.places.items u ≤ slice_index progress.places.items v
  table_from u v first second up_to = omega (arith, up_to, passed.places.at u first, passed.places.at v second)

  table_to : (u v : ℕ) → IsEvent t u → IsEvent t v → slice_index progress.places.items u ≤ slice_index progress.places.items v → IsUpTo order u v
  table_to u v first second up_to = omega (arith, up_to, passed.places.at u first, passed.places.at v second)

  module _ (e : Event) (at : event_at t l ≡ Some e) (own stores : List ℕ) (own_is : IsMask own (IsEventOf t e.proc)) (stores_are : IsMask stores (IsStoreTo t e.a)) (most : ℕ) where
    visible_up_to : ((u : ℕ) → IsLeftIn progress.left.items own stores [] l u → slice_index progress.places.items u ≤ most) → slice_index progress.last.items e.a ≤ most →
        (other : ℕ) → IsVisible t order other l → slice_index progress.places.items other ≤ most
    visible_up_to search last other visible = by_place visible.2
      where
        to : IsStoreTo t e.a other
        to = to_address t l e at other visible.0 visible.1

        by_last : place order other ≤ place order l → slice_index progress.places.items other ≤ most
        by_last up_to =
            let low = (passed.last e.a (event_in_range t passed.trace l e at).0).most other to (omega (arith, up_to)) in
            omega (arith, low, last, passed.places.at other (store_event t other visible.0))

        by_place : IsUpTo order other l ⊎ Earlier t other l → slice_index progress.places.items other ≤ most
        by_place (inl up_to) = by_last up_to
        by_place (inr earlier) = elim (cases_lt (place order l) (place order other)) [
          | inl after ↦ search other (
            omega (arith, earlier.5),
            after_left t order l progress passed other (store_event t other visible.0) after,
            (own_is.bits other).1 (own_of_earlier t other l e at earlier),
            (stores_are.bits other).1 to,
            λ none. HasNumber-none other none,
          )
          | inr before ↦ by_last (omega (arith, before))
        ]

    -- a store to the address that isn't after the load, or is program-earlier, is seen
    visible_store : (s : ℕ) → IsStoreTo t e.a s → IsUpTo order s l ⊎ Earlier t s l → IsVisible t order s l
    visible_store s (d, at_d, store, same) either = ((d, at_d, store), (d, e, at_d, at, same), either)

    last_up_to : ((other : ℕ) → IsVisible t order other l → slice_index progress.places.items other ≤ most) → slice_index progress.last.items e.a ≤ most
    last_up_to all = elim (passed.last e.a (event_in_range t passed.trace l e at).0).some [
      | inl none ↦ omega (arith, none)
      | inr (s, store, below, is) ↦
          let up_to = all s (visible_store s store (inl (omega (arith, below)))) in
          omega (arith, up_to, is, passed.places.at s (store.0, store.1))
    ]

    left_up_to : ((other : ℕ) → IsVisible t order other l → slice_index progress.places.items other ≤ most) →
        (u : ℕ) → IsLeftIn progress.left.items own stores [] l u → slice_index progress.places.items u ≤ most
    left_up_to all u is =
        let after = left_after t order l progress passed u is.1 in
        let less : u < l = elim (cases_eq u l) [
          | inl same ↦ absurd (omega (arith, after.1, ap (place order) same))
          | inr differs ↦ omega (arith, is.0, differs)
        ] in
        all u (visible_store u ((stores_are.bits u).0 is.3) (inr (earlier_of_own t u l e at less ((own_is.bits u).0 is.2))))

  -- no store that the load sees stands after number s exactly if the last one passed doesn't, nor any of its processor that is left
  pub last_seen : (e : Event) → event_at t l ≡ Some e → (own stores : List ℕ) → IsMask own (IsEventOf t e.proc) → IsMask stores (IsStoreTo t e.a) → (s : ℕ) (b : Bool) →
      slice_index progress.last.items e.a ≤ slice_index progress.places.items s →
      IsTrue b ↔ ((u : ℕ) → IsLeftIn progress.left.items own stores [] l u → slice_index progress.places.items u ≤ slice_index progress.places.items s) →
      IsTrue b ↔ IsLastSeen t order progress.places.items l s
  last_seen e at own stores own_is stores_are s b last search = (
    λ yes. visible_up_to e at own stores own_is stores_are (slice_index progress.places.items s) (search.0 yes) last,
    λ all. search.1 (left_up_to e at own stores own_is stores_are (slice_index progress.places.items s) all),
  )

  pub last_not_seen : (e : Event) → event_at t l ≡ Some e → (s : ℕ) → slice_index progress.places.items s < slice_index progress.last.items e.a →
      IsLastSeen t order progress.places.items l s → ⊥
  last_not_seen e at s past all = elim (passed.last e.a (event_in_range t passed.trace l e at).0).some [
    | inl none ↦ omega (arith, past, none)
    | inr (u, (d, at_d, store, same), below, is) ↦
        let up_to = all u ((d, at_d, store), (d, e, at_d, at, same), inl (omega (arith, below))) in
        omega (arith, past, up_to, is, passed.places.at u (d, at_d))
  ]

  -- a load of the first value sees no store
  pub reads_first : HasSource t l 0 → IsLastSeen t order progress.places.items l 0 ↔ MeetsAt t order Value l
  reads_first source = (
    λ last load. inl (
      source.1,
      λ s visible. (
          let up_to = last s visible in
          omega (arith, up_to, passed.places.zero_has_none, passed.places.at s (store_event t s visible.0))),
    ),
    λ met other visible. elim (met source.0) [
      | inl read ↦ absurd (read.1 other visible)
      | inr read ↦ absurd (
          let same = source_unique t (own_values t passed.trace) l read.0 0 (store_source t l read.0 source.0 read.1.0 read.1.1 read.2) source in
          let above = event_above_zero t read.0 (store_event t read.0 read.1.0) in
          omega (arith, same, above))
    ],
  )

  -- another load sees its source, and no store after it
  pub reads_store : (s : ℕ) → HasSource t l s → 0 < s → (IsSeen t progress.places.items l s × IsLastSeen t order progress.places.items l s) ↔ MeetsAt t order Value l
  reads_store s source above = (
    λ both load. inr (
      s,
      (of_source.0, of_source.1, elim both.0 [ inl up_to ↦ inl (table_to s l store event up_to) | inr earlier ↦ inr earlier ]),
      of_source.2,
      λ other visible. table_to other s (store_event t other visible.0) store (both.1 other visible),
    ),
    λ met. elim (met load) [
      | inl read ↦ absurd (let same = source_unique t (own_values t passed.trace) l s 0 source (load, read.0) in omega (arith, same, above))
      | inr (other, visible, value, greatest) ↦
          let same = source_unique t (own_values t passed.trace) l other s (store_source t l other load visible.0 visible.1 value) source in
          of_greatest (subst (λ u. IsVisible t order u l) same visible) (subst (λ u. (v : ℕ) → IsVisible t order v l → IsUpTo order v u) same greatest)
    ],
  )
    where
      load : IsLoad t l
      load = source_load t l s source

      event : IsEvent t l
      event = (load.0, load.1)

      of_source : IsStore t s × SameAddress t s l × SameValue t s l
      of_source = store_of_source t l s source above

      store : IsEvent t s
      store = store_event t s of_source.0

      of_greatest : IsVisible t order s l → ((v : ℕ) → IsVisible t order v l → IsUpTo order v s) → IsSeen t progress.places.items l s × IsLastSeen t order progress.places.items l s
      of_greatest visible greatest = (
        elim visible.2 [ inl up_to ↦ inl (table_from s l store event up_to) | inr earlier ↦ inr earlier ],
        λ other seen. table_from other s (store_event t other seen.0) store (greatest other seen),
      )
