-- An order of the model gets no refusal, and a list gets one at most.
use Rattle.std.proofs.Common.{◌≡◌, ◌∙◌, inl, inr, sym, ap, subst, refl, ℕ, suc, Result, Ok, Err, List, arith}
use Rattle.std.specs.Prelude.{IfOk, IsOk, MatchResult}
use Rattle.std.proofs.lemmas.Bool.{cases_order}
use Rattle.order_paths.proofs.Decisions.{IsFirst-unique}
use Rattle.tso_ops.specs.Values.{TraceValue}
use Rattle.tso_model.specs.Axioms.{place, IsMemoryOrder, IsModelOrder}
use Rattle.tso_model.proofs.Decided.{IsEvent-decided}
use Rattle.tso_model.proofs.Places.{place_same}
use Rattle.order_check.specs.declared.faults.Axiom.{Axiom}
use Rattle.order_check.specs.declared.faults.OrderFault.{OrderFault}
use Rattle.order_check.specs.declared.faults.OrderFault.TheVariants.{NotAnEvent, Repeated, Missing, Broken}
use Rattle.order_check.specs.Refusals.{axiom_number, AreDistinct, AreEvents, IsBrokenRefusal, IsFirstBroken, IsFirstUnmet, IsListRefusal, IsMissing, IsOrderRefusal, IsRepeatedAt, IsNoEventAt}
use Rattle.order_check.proofs.AxiomFacts.{model_meets, same_number}
use Rattle.order_check.proofs.ListFacts.{occurs_at, occurs_twice}

-- ---- a list in which each event stands once, and nothing else

module _ (t : TraceValue) (order : List ℕ) (memory : IsMemoryOrder t order) where
  events : AreEvents t order
  events k (n, at, none) = omega (arith, occurs_at order k n at, memory.events n none)

  distinct : AreDistinct order
  distinct k (n, at, earlier) = elim (IsEvent-decided t n) [
    | inl event ↦ omega (arith, occurs_twice order k n at earlier, memory.once n event)
    | inr none ↦ events k (n, at, none)
  ]

  pub no_list_refusal : (fault : OrderFault) → IsListRefusal t order fault → ⊥
  no_list_refusal (NotAnEvent at) (k, same, first) = events k first.0
  no_list_refusal (Repeated at) (all, (k, same, first)) = distinct k first.0
  no_list_refusal (Missing n) (all, once, first) = omega (arith, first.0.1, memory.once n first.0.0)
  no_list_refusal (Broken law n) none = none

-- an order of the model gets no refusal
pub not_refused : (t : TraceValue) (order : List ℕ) (fault : OrderFault) → IsModelOrder t order → IsOrderRefusal t order fault → ⊥
not_refused t order fault model (inl refusal) = no_list_refusal t order model.memory_order fault refusal
not_refused t order (NotAnEvent at) model (inr none) = none
not_refused t order (Repeated at) model (inr none) = none
not_refused t order (Missing n) model (inr none) = none
not_refused t order (Broken law n) model (inr broken) = broken.1.first.unmet (model_meets t order model n law)

-- ---- one refusal at most

one_list : (t : TraceValue) (order : List ℕ) (f g : OrderFault) → IsListRefusal t order f → IsListRefusal t order g → f ≡ g
one_list t order (NotAnEvent at) (NotAnEvent place) (j, is, first) (k, is_too, other) =
    ap NotAnEvent (is ∙ ap suc (IsFirst-unique (IsNoEventAt t order) j k first other) ∙ sym is_too)
one_list t order (NotAnEvent at) (Repeated place) (j, is, first) other = absurd (other.0 j first.0)
one_list t order (NotAnEvent at) (Missing n) (j, is, first) other = absurd (other.0 j first.0)
one_list t order (Repeated at) (NotAnEvent place) first (k, is, other) = absurd (first.0 k other.0)
one_list t order (Repeated at) (Repeated place) (known, (j, is, first)) (all, (k, is_too, other)) =
    ap Repeated (is ∙ ap suc (IsFirst-unique (IsRepeatedAt order) j k first other) ∙ sym is_too)
one_list t order (Repeated at) (Missing n) (known, (j, is, first)) other = absurd (other.1 j first.0)
one_list t order (Missing n) (NotAnEvent place) first (k, is, other) = absurd (first.0 k other.0)
one_list t order (Missing n) (Repeated place) first (known, (k, is, other)) = absurd (first.1 k other.0)
one_list t order (Missing m) (Missing n) first other = ap Missing (IsFirst-unique (IsMissing t order) m n first.2 other.2)
one_list t order (Broken law n) g first other = absurd first
one_list t order f (Broken law n) first other = absurd other

-- of two first events that break an axiom neither stands before the other
first_event : (t : TraceValue) (order : List ℕ) (law other : Axiom) (m n : ℕ) → IsFirstBroken t order law m → IsFirstBroken t order other n → m ≡ n
first_event t order law other m n first second = elim (cases_order (place order m) (place order n)) [
  | inl same ↦ place_same order m n second.listed same
  | inr (inl before) ↦ absurd (first.first.unmet (second.before m before law))
  | inr (inr after) ↦ absurd (second.first.unmet (first.before n after other))
]

first_law : (t : TraceValue) (order : List ℕ) (law other : Axiom) (n : ℕ) → IsFirstUnmet t order n law → IsFirstUnmet t order n other → law ≡ other
first_law t order law other n first second = elim (cases_order (axiom_number law) (axiom_number other)) [
  | inl same ↦ same_number law other same
  | inr (inl less) ↦ absurd (first.unmet (second.lesser law less))
  | inr (inr more) ↦ absurd (second.unmet (first.lesser other more))
]

one_broken : (t : TraceValue) (order : List ℕ) (f g : OrderFault) → IsBrokenRefusal t order f → IsBrokenRefusal t order g → f ≡ g
one_broken t order (Broken law m) (Broken other n) first second =
    let same : m ≡ n = first_event t order law other m n first.1 second.1 in
    let one : law ≡ other = first_law t order law other n (subst (λ v. IsFirstUnmet t order v law) same first.1.first) second.1.first in
    ap (λ l. Broken l m) one ∙ ap (λ v. Broken other v) same
one_broken t order (NotAnEvent at) g first second = absurd first
one_broken t order (Repeated at) g first second = absurd first
one_broken t order (Missing n) g first second = absurd first
one_broken t order (Broken law m) (NotAnEvent at) first second = absurd second
one_broken t order (Broken law m) (Repeated at) first second = absurd second
one_broken t order (Broken law m) (Missing n) first second = absurd second

-- what is broken is a memory order
memory_of : (t : TraceValue) (order : List ℕ) (fault : OrderFault) → IsBrokenRefusal t order fault → IsMemoryOrder t order
memory_of t order (NotAnEvent at) none = absurd none
memory_of t order (Repeated at) none = absurd none
memory_of t order (Missing n) none = absurd none
memory_of t order (Broken law n) broken = broken.0

pub one_refusal : (t : TraceValue) (order : List ℕ) (f g : OrderFault) → IsOrderRefusal t order f → IsOrderRefusal t order g → f ≡ g
one_refusal t order f g (inl first) (inl second) = one_list t order f g first second
one_refusal t order f g (inl first) (inr second) = absurd (no_list_refusal t order (memory_of t order g second) f first)
one_refusal t order f g (inr first) (inl second) = absurd (no_list_refusal t order (memory_of t order f first) g second)
one_refusal t order f g (inr first) (inr second) = one_broken t order f g first second

-- ---- what the check says

pub if_ok : {X E : Type 0} (P Q : X → Type 0) → ((x : X) → P x → Q x) → (r : Result X E) → IfOk r P → IfOk r Q
if_ok P Q f (Ok x) h = f x h
if_ok P Q f (Err e) h = tt

pub told_accepted : (t : TraceValue) (order : List ℕ) (said : Result Unit OrderFault) → MatchResult said (λ _. IsModelOrder t order) (IsOrderRefusal t order) → IsModelOrder t order → IsOk said
told_accepted t order (Ok unit) told model = refl
told_accepted t order (Err fault) told model = absurd (not_refused t order fault model told)
