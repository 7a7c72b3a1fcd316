-- Each list is an order of the trace's model, or it gets a refusal.
use Rattle.std.proofs.Common.{◌≡◌, ◌≢◌, ◌⊎◌, inl, inr, sym, subst, refl, ℕ, suc, ◌<◌, ◌≤◌, Option, Some, None, List, [], ◌∷◌, length, get_or, take, slice_get, arith}
use Rattle.std.proofs.lemmas.Bool.{cases_eq, cases_lt}
use Rattle.std.proofs.lemmas.Option.{none-some, same_Some, slice_get_within}
use Rattle.order_paths.proofs.Decisions.{Decision, Decision-both, Decision-either, Decision-iff, Decision-lt, Decision-not, Decision-some, Decision-three, first_below}
use Rattle.tso_ops.specs.Values.{TraceValue}
use Rattle.tso_ops.specs.Events.{event_total, IsEvent, IsLoad, IsStore, IsSwapLoad, SameValue, Earlier}
use Rattle.tso_ops.proofs.NumberFacts.{IsEvent-within, IsLoad-within, IsStore-within}
use Rattle.tso_ops.proofs.SwapFacts.{IsSwapLoad-within}
use Rattle.tso_cert.specs.declared.rules.BaseRule.TheVariants.{LoadOp as LoadOpRule, StoreStore as StoreStoreRule, Stbar as StbarRule, Membar as MembarRule}
use Rattle.tso_model.specs.Axioms.{occurrences, place, IsMemoryOrder, IsModelOrder, IsUpTo, IsVisible, ReadsGreatest}
use Rattle.tso_model.proofs.Places.{occurrences-later, occurrences-cons, occurrences-same}
use Rattle.tso_model.proofs.Decided.{BasePair-decided, Earlier-decided, HasFirstValue-decided, IsEvent-decided, IsLoad-decided, IsStore-decided, IsSwapLoad-decided, SameAddress-decided, SameValue-decided}
use Rattle.order_check.specs.declared.faults.Axiom.{Axiom}
use Rattle.order_check.specs.declared.faults.Axiom.TheVariants.{LoadOp, StoreStore, Stbar, Membar, Atomicity, Value}
use Rattle.order_check.specs.declared.faults.OrderFault.{OrderFault}
use Rattle.order_check.specs.declared.faults.OrderFault.TheVariants.{NotAnEvent, Repeated, Missing, Broken}
use Rattle.order_check.specs.Refusals.{AreDistinct, AreEvents, IsFirstUnmet, IsMissing, IsOrderRefusal, IsRepeatedAt, IsNoEventAt, MeetsAll, MeetsAt}
use Rattle.order_check.proofs.AxiomFacts.{all_met, axioms, first_unmet_is, model_order, nothing_unmet}
use Rattle.order_check.proofs.ListFacts.{listed_at, occurs_at, place_once}

-- ---- what is decided

le_decided : (m n : ℕ) → Decision (m ≤ n)
le_decided m n = elim (cases_lt n m) [ inl more ↦ inr (λ most. omega (arith, more, most)) | inr most ↦ inl (omega (arith, most)) ]

-- whether all numbers with a decided property, which lie below a bound, have another is decided
all_decided : (P Q : ℕ → Type 0) → ((u : ℕ) → Decision (P u)) → ((u : ℕ) → Decision (Q u)) → (bound : ℕ) → ((u : ℕ) → P u → u < bound) → Decision ((u : ℕ) → P u → Q u)
all_decided P Q has holds bound below = elim (Decision-some (λ u. P u × (Q u → ⊥)) (λ u. Decision-both (has u) (Decision-not (holds u))) bound (λ u p. below u p.0)) [
  | inl found ↦ inr (λ all. found.1.1 (all found.0 found.1.0))
  | inr none ↦ inl (λ u p. elim (holds u) [ inl q ↦ q | inr other ↦ absurd (none (u, (p, other))) ])
]

-- whether the number at a place, if there is one, has a decided property is decided
at_decided : (P : ℕ → Type 0) → ((n : ℕ) → Decision (P n)) → (o : Option ℕ) → Decision ((n : ℕ) × (o ≡ Some n) × P n)
at_decided P decide None = inr (λ p. none-some p.0 p.1)
at_decided P decide (Some m) = Decision-iff (λ p. (m, refl, p)) (λ q. subst P (sym (same_Some m q.0 q.1)) q.2) (decide m)

module _ (t : TraceValue) (order : List ℕ) where
  visible_decided : (s l : ℕ) → Decision (IsVisible t order s l)
  visible_decided s l = Decision-three (IsStore-decided t s) (SameAddress-decided t s l) (Decision-either (le_decided (place order s) (place order l)) (Earlier-decided t s l))

  visible_below : (l s : ℕ) → IsVisible t order s l → s < suc (event_total t)
  visible_below l s visible = IsStore-within t s visible.0

  reads_decided : (l : ℕ) → Decision (ReadsGreatest t order l)
  reads_decided l = Decision-either
      (Decision-both (HasFirstValue-decided t l) (Decision-iff (λ none s visible. none (s, visible)) (λ none p. none p.0 p.1)
      (Decision-not (Decision-some (λ s. IsVisible t order s l) (λ s. visible_decided s l) (suc (event_total t)) (visible_below l)))))
      (Decision-iff (λ p. (p.0, p.1.0, p.1.1, p.1.2)) (λ p. (p.0, (p.1, p.2, p.3)))
      (Decision-some (λ s. IsVisible t order s l × SameValue t s l × ((other : ℕ) → IsVisible t order other l → IsUpTo order other s))
      (λ s. Decision-three (visible_decided s l) (SameValue-decided t s l)
      (all_decided (λ other. IsVisible t order other l) (λ other. IsUpTo order other s) (λ other. visible_decided other l) (λ other. le_decided (place order other) (place order s))
      (suc (event_total t)) (visible_below l))) (suc (event_total t)) (λ s p. visible_below l s p.0)))

  met_decided : (law : Axiom) (n : ℕ) → Decision (MeetsAt t order law n)
  met_decided LoadOp n = Decision-iff (λ all u load earlier. all u (load, earlier)) (λ all u p. all u p.0 p.1)
      (all_decided (λ u. IsLoad t u × Earlier t u n) (λ u. IsUpTo order u n) (λ u. BasePair-decided t LoadOpRule u n) (λ u. le_decided (place order u) (place order n))
      (suc (event_total t)) (λ u p. IsLoad-within t u p.0))
  met_decided StoreStore n = Decision-iff (λ all u first second earlier keeps. all u (first, second, earlier, keeps)) (λ all u p. all u p.0 p.1 p.2 p.3)
      (all_decided _ (λ u. IsUpTo order u n) (λ u. BasePair-decided t StoreStoreRule u n) (λ u. le_decided (place order u) (place order n))
      (suc (event_total t)) (λ u p. IsStore-within t u p.0))
  met_decided Stbar n = Decision-iff (λ all u first second earlier fewer. all u (first, second, earlier, fewer)) (λ all u p. all u p.0 p.1 p.2 p.3)
      (all_decided _ (λ u. IsUpTo order u n) (λ u. BasePair-decided t StbarRule u n) (λ u. le_decided (place order u) (place order n))
      (suc (event_total t)) (λ u p. IsStore-within t u p.0))
  met_decided Membar n = Decision-iff (λ all u first second earlier fewer. all u (first, second, earlier, fewer)) (λ all u p. all u p.0 p.1 p.2 p.3)
      (all_decided _ (λ u. IsUpTo order u n) (λ u. BasePair-decided t MembarRule u n) (λ u. le_decided (place order u) (place order n))
      (suc (event_total t)) (λ u p. IsStore-within t u p.0))
  met_decided Atomicity n = Decision-iff (λ all l swap store other. all l (swap, store, other)) (λ all l p. all l p.0 p.1 p.2)
      (all_decided (λ l. IsSwapLoad t l × IsStore t n × (n ≢ suc l)) (λ l. IsUpTo order n l ⊎ IsUpTo order (suc l) n)
      (λ l. Decision-three (IsSwapLoad-decided t l) (IsStore-decided t n) (Decision-not (cases_eq n (suc l))))
      (λ l. Decision-either (le_decided (place order n) (place order l)) (le_decided (place order (suc l)) (place order n)))
      (suc (event_total t)) (λ l p. (IsSwapLoad-within t l p.0).0))
  met_decided Value n = elim (IsLoad-decided t n) [
    | inl load ↦ Decision-iff (λ reads _. reads) (λ met. met load) (reads_decided n)
    | inr none ↦ inl (λ load. absurd (none load))
  ]

  -- the first axiom that isn't met at an event, or all are
  first_law_or_all : (n : ℕ) → ((law : Axiom) × IsFirstUnmet t order n law) ⊎ MeetsAll t order n
  first_law_or_all n = elim (first_below (λ j. MeetsAt t order (get_or axioms j LoadOp) n → ⊥) (λ j. Decision-not (met_decided (get_or axioms j LoadOp) n)) 6) [
    | inl (k, low, (unmet, least)) ↦ inl (get_or axioms k LoadOp, first_unmet_is t order n k (λ j less. by_decision j (least j less)) low unmet)
    | inr none ↦ inr (all_met t order n 6 (λ j less. by_decision j (none j less)) (omega arith))
  ]
    where
      by_decision : (j : ℕ) → ((MeetsAt t order (get_or axioms j LoadOp) n → ⊥) → ⊥) → MeetsAt t order (get_or axioms j LoadOp) n
      by_decision j not_unmet = elim (met_decided (get_or axioms j LoadOp) n) [ inl met ↦ met | inr unmet ↦ absurd (not_unmet unmet) ]

  -- some axiom isn't met at the event of this place
  IsUnmetAt : ℕ → Type 0
  IsUnmetAt k = (n : ℕ) × (slice_get order k ≡ Some n) × ((law : Axiom) × IsFirstUnmet t order n law)

  unmet_decided : (k : ℕ) → Decision (IsUnmetAt k)
  unfolding IsUnmetAt
  unmet_decided k = at_decided (λ n. (law : Axiom) × IsFirstUnmet t order n law) (λ n. elim (first_law_or_all n) [
    | inl first ↦ inl first
    | inr all ↦ inr (λ first. first.1.unmet (all first.0))
  ]) (slice_get order k)

-- ---- no number twice

distinct_rest : (x : ℕ) (xs : List ℕ) → AreDistinct (x ∷ xs) → AreDistinct xs
distinct_rest x xs distinct k (n, at, earlier) = distinct (suc k) (n, at, omega (arith, earlier, occurrences-cons n x (take k xs)))

at_most_once : (xs : List ℕ) → AreDistinct xs → (n : ℕ) → occurrences n xs ≤ 1
at_most_once [] distinct n = omega arith
at_most_once (x ∷ xs) distinct n = elim (cases_eq x n) [
  | inl same ↦ elim (cases_lt 0 (occurrences n xs)) [
    | inl listed ↦ absurd (distinct (suc (place xs n)) (n, listed_at n xs listed, omega (arith, occurrences-cons n x (take (place xs n) xs), occurrences-same n x same)))
    | inr unlisted ↦ omega (arith, unlisted, occurrences-cons n x xs, occurrences-same n x same)
  ]
  | inr other ↦ omega (arith, occurrences-later n x xs other, at_most_once xs (distinct_rest x xs distinct) n)
]

-- ---- the refusal

module _ (t : TraceValue) (order : List ℕ) where
  Answer : Type 0
  Answer = IsModelOrder t order ⊎ ((fault : OrderFault) × IsOrderRefusal t order fault)

  in_memory_order : IsMemoryOrder t order → Answer
  unfolding Answer IsUnmetAt
  in_memory_order memory = elim (first_below (IsUnmetAt t order) (unmet_decided t order) (length order)) [
    | inl (k, low, ((n, at, (law, first)), least)) ↦ inr (
      Broken law n,
      inr (
        memory,
        record {
          listed = occurs_at order k n at;
          before = λ m less. met_before k n at least m less;
          first = first;
        },
      ),
    )
    | inr none ↦ inl (model_order t order memory (λ n event.
        let at = listed_at n order (omega (arith, memory.once n event)) in
        not_unmet n (place order n) at (none (place order n) (slice_get_within order (place order n) n at))))
  ]
    where
      not_unmet : (n k : ℕ) → slice_get order k ≡ Some n → (IsUnmetAt t order k → ⊥) → MeetsAll t order n
      not_unmet n k at none = elim (first_law_or_all t order n) [ inl first ↦ absurd (none (n, at, first)) | inr all ↦ all ]

      once_at : (k n : ℕ) → slice_get order k ≡ Some n → place order n ≡ k
      once_at k n at = elim (IsEvent-decided t n) [
        | inl event ↦ place_once order k n (memory.once n event) at
        | inr none ↦ absurd (omega (arith, occurs_at order k n at, memory.events n none))
      ]

      met_before : (k n : ℕ) → slice_get order k ≡ Some n → ((j : ℕ) → j < k → IsUnmetAt t order j → ⊥) → (m : ℕ) → place order m < place order n → MeetsAll t order m
      met_before k n at least m less = elim (IsEvent-decided t m) [
        | inl event ↦ not_unmet m (place order m) (listed_at m order (omega (arith, memory.once m event))) (least (place order m) (omega (arith, less, once_at k n at)))
        | inr none ↦ nothing_unmet t order m none
      ]

  with_distinct : AreEvents t order → AreDistinct order → Answer
  unfolding Answer
  with_distinct events distinct = elim (first_below (IsMissing t order) (λ n. Decision-both (IsEvent-decided t n) (cases_eq (occurrences n order) 0)) (suc (event_total t))) [
    | inl (n, low, first) ↦ inr (Missing n, inl (events, distinct, first))
    | inr none ↦ in_memory_order (record {
      once = λ n event. elim (cases_eq (occurrences n order) 0) [
        | inl missing ↦ absurd (none n (IsEvent-within t n event) (event, missing))
        | inr listed ↦ omega (arith, listed, at_most_once order distinct n)
      ];
      events = λ n none_there. elim (cases_lt 0 (occurrences n order)) [
        | inl listed ↦ absurd (events (place order n) (n, listed_at n order listed, none_there))
        | inr unlisted ↦ omega (arith, unlisted)
      ];
    })
  ]

  with_events : AreEvents t order → Answer
  unfolding Answer
  with_events events = elim (first_below (IsRepeatedAt order) (λ k. at_decided (λ n. 0 < occurrences n (take k order)) (λ n. Decision-lt 0 (occurrences n (take k order))) (slice_get order k)) (length order)) [
    | inl (k, low, first) ↦ inr (Repeated (suc k), inl (events, (k, refl, first)))
    | inr none ↦ with_distinct events (λ k repeated. none k (slice_get_within order k repeated.0 repeated.1) repeated)
  ]

  pub order_or_refused : IsModelOrder t order ⊎ ((fault : OrderFault) × IsOrderRefusal t order fault)
  unfolding Answer
  order_or_refused = elim (first_below (IsNoEventAt t order) (λ k. at_decided (λ n. IsEvent t n → ⊥) (λ n. Decision-not (IsEvent-decided t n)) (slice_get order k)) (length order)) [
    | inl (k, low, first) ↦ inr (NotAnEvent (suc k), inl (k, refl, first))
    | inr none ↦ with_events (λ k absent. none k (slice_get_within order k absent.0 absent.1) absent)
  ]
