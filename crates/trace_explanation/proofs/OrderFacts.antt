-- Of any two events some memory order puts the first before the second.
use Rattle.std.proofs.Common.{◌≡◌, ◌≢◌, ◌⊎◌, ◌∙◌, ℕ, zero, suc, ◌<◌, ◌≤◌, List, [], ◌∷◌, true, refl, sym, ap, subst, arith, eqb, inl, inr}
use Rattle.std.proofs.lemmas.Bool.{cases_eq, eq-eqb}
use Rattle.std.proofs.lemmas.Option.{slice_get_cases}
use Rattle.tso_ops.specs.Values.{TraceValue}
use Rattle.tso_ops.specs.Events.{events_of, event_total, event_at, IsEvent}
use Rattle.tso_ops.proofs.NumberFacts.{event_at-within, event_above_zero}
use Rattle.tso_model.specs.Axioms.{occurrences, IsBefore, IsMemoryOrder}
use Rattle.tso_model.proofs.Places.{place-here, place-later, occurrences-later}

-- each number from 1 to the number of events is one of an event
event_within : (t : TraceValue) (n : ℕ) → 0 < n → n ≤ event_total t → IsEvent t n
unfolding event_at
event_within t zero above most = absurd (omega arith)
event_within t (suc k) above most =
    elim ((slice_get_cases (events_of t) k).1) [
      | inl found ↦ (found.0, found.2)
      | inr past ↦ absurd (omega (arith, past.0))
    ]

module _ (u : ℕ) where
  -- the number and the list after it; the list alone where the number is u
  abbrev unless_u : (x : ℕ) → (u ≡ x) ⊎ (u ≡ x → ⊥) → List ℕ → List ℕ
  unless_u x (inl same) rest = rest
  unless_u x (inr apart) rest = x ∷ rest

  -- the numbers from k down to 1, but for u
  abbrev others : ℕ → List ℕ
  others zero = []
  others (suc k) = unless_u (suc k) (cases_eq u (suc k)) (others k)

  -- u and numbers past k don't stand there
  absent : (n k : ℕ) → (n ≢ u → 0 < n → n ≤ k → ⊥) → occurrences n (others k) ≡ 0
  absent n zero none = refl
  absent n (suc k) none = by_cases (absent n k (λ apart above most. none apart above (omega arith))) (cases_eq u (suc k))
    where
      by_cases : occurrences n (others k) ≡ 0 → (test : (u ≡ suc k) ⊎ (u ≡ suc k → ⊥)) → occurrences n (unless_u (suc k) test (others k)) ≡ 0
      by_cases in_rest (inl same) = in_rest
      by_cases in_rest (inr apart) =
          occurrences-later n (suc k) (others k) (λ here. none (λ is_u. apart (sym is_u ∙ sym here)) (omega arith) (omega arith)) ∙ in_rest

  -- the others stand there once
  present : (n k : ℕ) → n ≢ u → 0 < n → n ≤ k → occurrences n (others k) ≡ 1
  present n zero apart above most = absurd (omega arith)
  present n (suc k) apart above most = by_cases (λ later. present n k apart above (omega arith)) (cases_eq u (suc k)) (cases_eq (suc k) n)
    where
      by_cases : ((suc k ≡ n → ⊥) → occurrences n (others k) ≡ 1) → (test : (u ≡ suc k) ⊎ (u ≡ suc k → ⊥)) → (suc k ≡ n) ⊎ (suc k ≡ n → ⊥) →
          occurrences n (unless_u (suc k) test (others k)) ≡ 1
      by_cases in_rest (inl same) here = in_rest (λ at. apart (sym at ∙ sym same))
      by_cases in_rest (inr different) (inl here) =
          let test : eqb (suc k) n ≡ true = eq-eqb (suc k) n here in rw test (ap suc (absent n k (λ other over within. omega arith)))
      by_cases in_rest (inr different) (inr later) = occurrences-later n (suc k) (others k) later ∙ in_rest later

module _ (t : TraceValue) (u : ℕ) (event : IsEvent t u) where
  -- a list of the events that begins with u
  abbrev beginning : List ℕ
  beginning = u ∷ others u (event_total t)

  listed : (n : ℕ) → IsEvent t n → occurrences n beginning ≡ 1
  listed n there = by_cases (cases_eq u n)
    where
      within : (0 < n) × (n ≤ event_total t)
      within = event_at-within t n there.0 there.1

      by_cases : (u ≡ n) ⊎ (u ≡ n → ⊥) → occurrences n beginning ≡ 1
      by_cases (inl here) =
          let test : eqb u n ≡ true = eq-eqb u n here in rw test (ap suc (absent u n (event_total t) (λ apart above most. apart (sym here))))
      by_cases (inr later) =
          occurrences-later n u (others u (event_total t)) later ∙ present u n (event_total t) (λ same. later (sym same)) within.0 within.1

  unlisted : (n : ℕ) → (IsEvent t n → ⊥) → occurrences n beginning ≡ 0
  unlisted n none =
      occurrences-later n u (others u (event_total t)) (λ here. none (subst (IsEvent t) here event))
      ∙ absent u n (event_total t) (λ apart above most. none (event_within t n above most))

  -- u stands there before each other event
  first : (v : ℕ) → IsEvent t v → u ≢ v → IsBefore beginning u v
  first v there apart =
      let above_u = event_above_zero t u event in
      let above_v = event_above_zero t v there in
      let in_u = place-later 0 beginning u (λ same. omega arith) in
      let in_v = place-later 0 beginning v (λ same. omega arith) in
      omega (arith, in_u, in_v, place-here u (others u (event_total t)) u refl, place-later u (others u (event_total t)) v apart)

-- of two events some memory order puts the first before the second
pub order_with_first : (t : TraceValue) (u v : ℕ) → IsEvent t u → IsEvent t v → u ≢ v → (order : List ℕ) × IsMemoryOrder t order × IsBefore order u v
order_with_first t u v event there apart =
    (beginning t u event, record { once = listed t u event; events = unlisted t u event }, first t u event v there apart)
