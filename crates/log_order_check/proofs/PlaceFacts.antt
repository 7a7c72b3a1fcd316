-- The numbers of a list, each an event or not.
use Rattle.std.proofs.Common.{◌≡◌, ◌⊎◌, ◌∙◌, inl, inr, sym, subst, ℕ, ◌+◌, ◌<◌, ◌≤◌, Some, List, length, get_or, slice_get, arith}
use Rattle.std.proofs.lemmas.Bool.{cases_lt}
use Rattle.std.proofs.lemmas.Option.{same_Some, slice_get-get_or}
use Rattle.tso_ops.specs.Values.{TraceValue}
use Rattle.tso_ops.specs.Events.{event_total}
use Rattle.tso_ops.proofs.NumberFacts.{event_above_zero, IsEvent-within}
use Rattle.order_check.specs.Refusals.{IsNoEventAt}
use Rattle.order_check.proofs.PlaceFacts.{event_within, no_event_more}

-- the number at an index is no event
pub no_event_here : (t : TraceValue) (order : List ℕ) (k : ℕ) → k < length order → (get_or order k 0 ≡ 0) ⊎ (event_total t < get_or order k 0) → IsNoEventAt t order k
no_event_here t order k inside out = (
  get_or order k 0,
  slice_get-get_or order k 0 inside,
  λ event. elim out [
    | inl none ↦ (let above = event_above_zero t (get_or order k 0) event in omega (arith, above, none))
    | inr past ↦ (let low = IsEvent-within t (get_or order k 0) event in omega (arith, low, past))
  ],
)

-- the numbers passed and one more event
pub event_more : (t : TraceValue) (order : List ℕ) (k : ℕ) → k < length order → 0 < get_or order k 0 → get_or order k 0 ≤ event_total t → ((j : ℕ) → j < k → IsNoEventAt t order j → ⊥) →
    (j : ℕ) → j < k + 1 → IsNoEventAt t order j → ⊥
event_more t order k inside above below before = no_event_more t order k inside (event_within t (get_or order k 0) above (omega (arith, below))) before

-- a bound of the numbers passed and of one more
pub within_more : (order : List ℕ) (k bound : ℕ) → k < length order → get_or order k 0 < bound → ((j n : ℕ) → j < k → slice_get order j ≡ Some n → n < bound) →
    (j n : ℕ) → j < k + 1 → slice_get order j ≡ Some n → n < bound
within_more order k bound inside here before j n below at = elim (cases_lt j k) [
  | inl earlier ↦ before j n earlier at
  | inr late ↦ (
      let same : j ≡ k = omega arith in
      let one : get_or order k 0 ≡ n = same_Some (get_or order k 0) n (sym (slice_get-get_or order k 0 inside) ∙ subst (λ i. slice_get order i ≡ Some n) same at) in
      omega (arith, here, one))
]
