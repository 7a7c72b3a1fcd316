-- Some memory order respects each strict partial order of events that has `init` before all events.
use Rattle.std.proofs.Common.{◌≡◌, inl, inr, refl, sym, subst, ℕ, zero, suc, ◌<◌, ◌≤◌, List, [], ◌∷◌, arith}
use Rattle.std.proofs.lemmas.Bool.{cases_eq, cases_lt}
use Rattle.std.proofs.lemmas.Option.{slice_get_cases}
use Rattle.order_paths.proofs.Decisions.{Decision}
use Rattle.tso_ops.specs.Values.{TraceValue}
use Rattle.tso_ops.specs.Events.{events_of, event_total, event_at, IsEvent}
use Rattle.tso_ops.proofs.NumberFacts.{event_at-within}
use Rattle.tso_model.specs.Axioms.{occurrences, place, IsMemoryOrder}
use Rattle.tso_model.proofs.Places.{place-here, place-later, occurrences-later, before_from_up_to, zero_before}
use Rattle.order_check.proofs.ListFacts.{occurrences-cons, occurrences-same, occurrences-other}
use Rattle.completeness.specs.ClosedOrders.{Respects}
use Rattle.completeness.specs.EventOrders.{HasEventsAlone}

-- each number from 1 to k stands in the list once, and nothing else does
record HasNumbersUpTo (k : ℕ) (numbers : List ℕ) : Type 0 where
  once : (n : ℕ) → 0 < n → n ≤ k → occurrences n numbers ≡ 1
  only : (n : ℕ) → 0 < occurrences n numbers → (0 < n) × (n ≤ k)

-- the next number is put in
put_in : (k : ℕ) (numbers more : List ℕ) → HasNumbersUpTo k numbers → ((m : ℕ) → occurrences m more ≡ occurrences m (suc k ∷ numbers)) → HasNumbersUpTo (suc k) more
put_in k numbers more has same = record { once = once; only = only }
  where
    once : (n : ℕ) → 0 < n → n ≤ suc k → occurrences n more ≡ 1
    once n above within = elim (cases_eq (suc k) n) [
      | inl here ↦ (
          let unlisted : 0 < occurrences n numbers → ⊥ = λ listed. (let h : n ≤ k = (has.only n listed).1 in omega (arith, here, h)) in
          omega (arith, same n, occurrences-cons n (suc k) numbers, occurrences-same n (suc k) here, unlisted)
          )
      | inr other ↦ omega (arith, same n, occurrences-cons n (suc k) numbers, occurrences-other n (suc k) other, has.once n above (omega (arith, within, other)))
    ]

    only : (n : ℕ) → 0 < occurrences n more → (0 < n) × (n ≤ suc k)
    only n listed = elim (cases_eq (suc k) n) [
      | inl here ↦ (omega (arith, here), omega (arith, here))
      | inr other ↦ (
          let h = has.only n (omega (arith, listed, same n, occurrences-cons n (suc k) numbers, occurrences-other n (suc k) other)) in
          (let within : n ≤ k = h.1 in (h.0, omega (arith, within)))
          )
    ]

-- each number from 1 to that of events is an event's
numbered_event : (t : TraceValue) (n : ℕ) → 0 < n → n ≤ event_total t → IsEvent t n
unfolding event_at
numbered_event t zero above within = absurd (omega (arith, above))
numbered_event t (suc k) above within = elim (slice_get_cases (events_of t) k).1 [
  | inl at ↦ (at.0, at.2)
  | inr past ↦ (let beyond : event_total t ≤ k = past.0 in absurd (omega (arith, within, beyond)))
]

-- a list of the numbers of all events is a memory order
memory_order : (t : TraceValue) (numbers : List ℕ) → HasNumbersUpTo (event_total t) numbers → IsMemoryOrder t numbers
memory_order t numbers has = record {
  once = λ n event. (let within = event_at-within t n event.0 event.1 in has.once n within.0 within.1);
  events = λ n none. elim (cases_lt 0 (occurrences n numbers)) [
    | inl listed ↦ (let within = has.only n listed in absurd (none (numbered_event t n within.0 within.1)))
    | inr unlisted ↦ omega (arith, unlisted)
  ];
}

module _ (Before : ℕ → ℕ → Type 0) (decide : (u v : ℕ) → Decision (Before u v)) (transitive : (u v w : ℕ) → Before u v → Before v w → Before u w)
    (irreflexive : (u : ℕ) → Before u u → ⊥) where
  -- no number of the list comes before one that stands earlier in it
  abbrev KeepsPairs : List ℕ → Type 0
  KeepsPairs [] = Unit {0}
  KeepsPairs (x ∷ rest) = ((y : ℕ) → 0 < occurrences y rest → Before y x → ⊥) × KeepsPairs rest

  -- so of two numbers the one that comes before the other doesn't stand later
  not_backward : (numbers : List ℕ) → KeepsPairs numbers → (u v : ℕ) → 0 < occurrences u numbers → place numbers v < place numbers u → Before u v → ⊥
  not_backward [] keeps u v listed less before = omega (arith, listed)
  not_backward (x ∷ rest) keeps u v listed less before = elim (cases_eq x u) [
    | inl here ↦ omega (arith, less, place-here x rest u here)
    | inr later ↦ (
        let in_rest : 0 < occurrences u rest = omega (arith, listed, occurrences-later u x rest later) in
        elim (cases_eq x v) [
          | inl same ↦ keeps.0 u in_rest (subst (Before u) (sym same) before)
          | inr other ↦ not_backward rest keeps.1 u v in_rest (omega (arith, less, place-later x rest u later, place-later x rest v other)) before
        ]
        )
  ]

  -- a number is inserted in front of the first that it comes before
  inserted : (k : ℕ) (numbers : List ℕ) → KeepsPairs numbers → (more : List ℕ) × ((m : ℕ) → occurrences m more ≡ occurrences m (k ∷ numbers)) × KeepsPairs more
  inserted k [] keeps = (k ∷ [], (λ m. refl), ((λ y listed. omega (arith, listed)), tt))
  inserted k (x ∷ rest) keeps = elim (decide k x) [
    | inl first ↦ (k ∷ x ∷ rest, (λ m. refl), (none_before first, keeps))
    | inr later ↦ in_rest later (inserted k rest keeps.1)
  ]
    where
      none_before : Before k x → (y : ℕ) → 0 < occurrences y (x ∷ rest) → Before y k → ⊥
      none_before first y listed before = elim (cases_eq x y) [
        | inl same ↦ irreflexive x (transitive x k x (subst (λ n. Before n k) (sym same) before) first)
        | inr other ↦ keeps.0 y (omega (arith, listed, occurrences-later y x rest other)) (transitive y k x before first)
      ]

      in_rest : (Before k x → ⊥) → (more : List ℕ) × ((m : ℕ) → occurrences m more ≡ occurrences m (k ∷ rest)) × KeepsPairs more →
          (more : List ℕ) × ((m : ℕ) → occurrences m more ≡ occurrences m (k ∷ x ∷ rest)) × KeepsPairs more
      in_rest later (more, same, keeps_more) = (
        x ∷ more,
        λ m. omega (arith, same m, occurrences-cons m x more, occurrences-cons m k (x ∷ rest), occurrences-cons m x rest, occurrences-cons m k rest),
        (
          λ y listed. elim (cases_eq k y) [
            | inl here ↦ subst (λ n. Before n x → ⊥) here later
            | inr other ↦ keeps.0 y (omega (arith, listed, same y, occurrences-later y k rest other))
          ],
          keeps_more,
        ),
      )

  -- the numbers from 1 to k are inserted, one after the other
  sorted : (k : ℕ) → (numbers : List ℕ) × HasNumbersUpTo k numbers × KeepsPairs numbers
  sorted zero = ([], record { once = λ n above within. absurd (omega (arith, above, within)); only = λ n listed. absurd (omega (arith, listed)) }, tt)
  sorted (suc k) =
      let before = sorted k in
      let more = inserted (suc k) before.0 before.2 in
      (more.0, put_in k before.0 more.0 before.1 more.1, more.2)

  module _ (t : TraceValue) (first : (n : ℕ) → IsEvent t n → Before 0 n) (within : HasEventsAlone t Before) where
    -- nothing comes before `init`
    none_before_init : (u : ℕ) → Before u 0 → ⊥
    none_before_init u before = elim (cases_lt 0 u) [
      | inl above ↦ irreflexive 0 (transitive 0 u 0 (first u (numbered_event t u above (within u 0 before).0)) before)
      | inr same ↦ (let zero_is : u ≡ 0 = omega (arith, same) in irreflexive 0 (subst (λ n. Before n 0) zero_is before))
    ]

    kept : (numbers : List ℕ) → HasNumbersUpTo (event_total t) numbers → KeepsPairs numbers → Respects numbers Before
    kept numbers has keeps zero zero before = absurd (irreflexive 0 before)
    kept numbers has keeps zero (suc v) before = zero_before numbers (suc v) (omega arith)
    kept numbers has keeps (suc u) zero before = absurd (none_before_init (suc u) before)
    kept numbers has keeps (suc u) (suc v) before =
        let once_u = has.once (suc u) (omega arith) (within (suc u) (suc v) before).0 in
        let once_v = has.once (suc v) (omega arith) (within (suc u) (suc v) before).1 in
        elim (cases_lt (place numbers (suc v)) (place numbers (suc u))) [
          | inl backward ↦ absurd (not_backward numbers keeps (suc u) (suc v) (omega (arith, once_u)) backward before)
          | inr up_to ↦ before_from_up_to numbers (suc u) (suc v) (omega (arith, once_v)) (omega arith)
              (λ same. irreflexive (suc v) (subst (λ n. Before n (suc v)) same before)) up_to
        ]

    pub linear_extension : (order : List ℕ) × IsMemoryOrder t order × Respects order Before
    linear_extension =
        let numbers = sorted (event_total t) in
        (numbers.0, memory_order t numbers.0 numbers.1, kept numbers.0 numbers.1 numbers.2)
