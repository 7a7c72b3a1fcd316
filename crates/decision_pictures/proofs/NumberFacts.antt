-- Which numbers events have in an order.
use Rattle.std.proofs.Common.{◌≡◌, ◌∙◌, ◌↔◌, inl, inr, refl, sym, ap, ℕ, suc, ◌<◌, ◌≤◌, Bool, true, false, cond, List, [], None, Some, length, slice_get, arith}
use Rattle.std.specs.Prelude.{nat_lt}
use Rattle.std.proofs.lemmas.Bool.{cases_eq, lt-ltb, ltb-true}
use Rattle.std.proofs.lemmas.List.{append-nil}
use Rattle.std.proofs.lemmas.Option.{none-some, same_Some}
use Rattle.tso_ops.specs.Values.{TraceValue}
use Rattle.tso_ops.specs.Events.{IsEvent}
use Rattle.tso_model.specs.Axioms.{occurrences, place, IsModelOrder}
use Rattle.order_check.proofs.ListFacts.{listed_at, occurs_at, place-listed, place-past, place_once}
use Rattle.trace_pictures.specs.Labels.{number_in_order}

-- a number after a test passed, and is the next one
number_taken : (test : Bool) (p k : ℕ) → cond test (Some (suc p)) None ≡ Some (suc k) → (test ≡ true) × (p ≡ k)
number_taken true p k is = (refl, omega (arith, same_Some (suc p) (suc k) is))
number_taken false p k is = absurd (none-some (suc k) is)

-- a number whose place is in the list stands there
place_within : (order : List ℕ) (n : ℕ) → place order n < length order → 0 < occurrences n order
place_within order n within = elim (cases_eq (occurrences n order) 0) [
  | inl none ↦ absurd (omega (arith, within, ap (λ xs. place xs n) (append-nil order), place-past n order [] none))
  | inr some ↦ omega (arith, some)
]

from_number : (order : List ℕ) (n k : ℕ) → number_in_order order n ≡ Some (suc k) → slice_get order k ≡ Some n
from_number order n k is =
    let taken = number_taken (nat_lt (place order n) (length order)) (place order n) k is in
    let listed = place_within order n (ltb-true (place order n) (length order) taken.0) in
    ap (slice_get order) (sym taken.1) ∙ listed_at n order listed

to_number : (order : List ℕ) (n k : ℕ) → occurrences n order ≤ 1 → slice_get order k ≡ Some n → number_in_order order n ≡ Some (suc k)
to_number order n k once at =
    let some = occurs_at order k n at in
    let is = place_once order k n (omega (arith, once, some)) at in
    let within = (place-listed n order [] some).1 in
    ap (λ test. cond test (Some (suc (place order n))) None) (lt-ltb (place order n) (length order) within) ∙ ap (λ p. Some (suc p)) is

pub number_is_place : (order : List ℕ) (n k : ℕ) → occurrences n order ≤ 1 → (number_in_order order n ≡ Some (suc k)) ↔ (slice_get order k ≡ Some n)
number_is_place order n k once = (from_number order n k, to_number order n k once)

pub model_number : (t : TraceValue) (order : List ℕ) (n k : ℕ) → IsModelOrder t order → IsEvent t n → (number_in_order order n ≡ Some (suc k)) ↔ (slice_get order k ≡ Some n)
model_number t order n k meets event = number_is_place order n k (omega (arith, meets.memory_order.once n event))
