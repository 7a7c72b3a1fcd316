-- Each certificate holds, or it gets a refusal.
use Rattle.std.proofs.Common.{◌≡◌, ◌⊎◌, inl, inr, ℕ, zero, suc, ◌+◌, ◌<◌, ◌≤◌, List, [], ◌∷◌, length, get_or, take, All, refl, sym, subst, arith}
use Rattle.std.proofs.lemmas.Bool.{cases_eq, cases_lt}
use Rattle.std.proofs.lemmas.List.{get_or_default}
use Rattle.std.proofs.lemmas.List.Elements.{All-from_recursion, recursion_from_All}
use Rattle.std.specs.List.{AllByRecursion}
use Rattle.order_paths.specs.Paths.{last_of, IsCycle}
use Rattle.order_paths.proofs.Decisions.{Decision, Decision-both, Decision-either, Decision-iff, Decision-lt, Decision-three}
use Rattle.order_paths.proofs.LeastExists.{IsCycle-decided, Linked-decided}
use Rattle.tso_ops.specs.Values.{TraceValue}
use Rattle.tso_ops.specs.Events.{event_total}
use Rattle.tso_cert.specs.declared.rules.BaseRule.TheVariants.{Init}
use Rattle.tso_cert.specs.declared.steps.Reason.{Reason}
use Rattle.tso_cert.specs.declared.steps.Reason.TheVariants.{Base, Inferred}
use Rattle.tso_cert.specs.declared.steps.CertStep.{CertStep}
use Rattle.tso_cert.specs.declared.steps.Certificate.{Certificate}
use Rattle.tso_cert.specs.declared.steps.Certificate.TheVariants.{Unwritten, Cycle}
use Rattle.tso_model.specs.Rules.{InferredBy}
use Rattle.tso_model.specs.Certs.{Holds, IsPathIn, IsStep, MeetsRule, StepHolds, StepsHold}
use Rattle.tso_model.proofs.Decided.{BasePair-decided, InferredBy-decided, IsUnwritten-decided}
use Rattle.cert_check.specs.declared.faults.CertFault.{CertFault}
use Rattle.cert_check.specs.declared.faults.CertFault.TheVariants.{EventRange, NotUnwritten, BaseRefused, SideRefused, PathUnlisted, CycleUnlisted, EmptyCycle}
use Rattle.cert_check.specs.Refusals.{AreUpTo, IsReasonUpTo, IsStepUpTo, IsInRange, IsBase, HasFault, IsStepFault, IsCycleFault, IsCycleRefusal, IsCertRefusal}
use Rattle.cert_check.specs.Internal.Sides.{Follows}
use Rattle.cert_check.proofs.PairFacts.{first_or_later, none_listed}
use Rattle.cert_check.proofs.RefusalFacts.{holds_all, holds_more, holds_none, step_faulty}

-- ---- numbers in range

up_to_decided : (last n : ℕ) → Decision (n ≤ last)
up_to_decided last n = elim (cases_lt last n) [ inl more ↦ inr (λ most. omega (arith, more, most)) | inr most ↦ inl (omega (arith, most)) ]

by_recursion_decided : {X : Type 0} (P : X → Type 0) → ((x : X) → Decision (P x)) → (xs : List X) → Decision (AllByRecursion P xs)
by_recursion_decided P decide [] = inl tt
by_recursion_decided P decide (x ∷ xs) = Decision-both (decide x) (by_recursion_decided P decide xs)

all_decided : {X : Type 0} (P : X → Type 0) → ((x : X) → Decision (P x)) → (xs : List X) → Decision (All P xs)
all_decided P decide xs = Decision-iff (All-from_recursion P xs) (recursion_from_All P xs) (by_recursion_decided P decide xs)

are_up_to_decided : (last : ℕ) (numbers : List ℕ) → Decision (AreUpTo last numbers)
are_up_to_decided last numbers = all_decided (λ n. n ≤ last) (up_to_decided last) numbers

reason_decided : (last : ℕ) (reason : Reason) → Decision (IsReasonUpTo last reason)
reason_decided last (Base rule) = inl tt
reason_decided last (Inferred rule load path) = Decision-both (up_to_decided last load) (are_up_to_decided last path)

step_up_to_decided : (last : ℕ) (s : CertStep) → Decision (IsStepUpTo last s)
step_up_to_decided last s = Decision-three (up_to_decided last s.from) (up_to_decided last s.to) (reason_decided last s.reason)

in_range_decided : (t : TraceValue) (certificate : Certificate) → Decision (IsInRange t certificate)
in_range_decided t (Unwritten n) = Decision-both (Decision-lt 0 n) (up_to_decided (event_total t) n)
in_range_decided t (Cycle steps cycle) =
    Decision-both (all_decided (IsStepUpTo (event_total t)) (step_up_to_decided (event_total t)) steps) (are_up_to_decided (event_total t) cycle)

-- ---- one step

is_step_decided : (steps : List CertStep) (u v : ℕ) → Decision (IsStep steps u v)
is_step_decided [] u v = inr (none_listed u v)
is_step_decided (s ∷ steps) u v =
    let first = first_or_later s steps u v in Decision-iff first.1 first.0 (Decision-either (Decision-both (cases_eq s.from u) (cases_eq s.to v)) (is_step_decided steps u v))

meets_decided : (t : TraceValue) (u v : ℕ) (reason : Reason) → Decision (MeetsRule t u v reason)
meets_decided t u v (Base rule) = BasePair-decided t rule u v
meets_decided t u v (Inferred rule load []) = inr (λ meets. meets.3)
meets_decided t u v (Inferred rule load (a ∷ [])) = inr (λ meets. meets.3)
meets_decided t u v (Inferred rule load (a ∷ b ∷ rest)) = Decision-iff
    (λ inferred. (a, last_of b rest, inferred, (refl, refl)))
    (λ meets. subst (λ x. InferredBy t rule load u v x (last_of b rest)) (sym meets.3.0) (subst (λ y. InferredBy t rule load u v meets.0 y) (sym meets.3.1) meets.2))
    (InferredBy-decided t rule load u v a (last_of b rest))

path_decided : (steps : List CertStep) (reason : Reason) → Decision (IsPathIn (λ x y. IsStep steps x y) reason)
path_decided steps (Base rule) = inl tt
path_decided steps (Inferred rule load path) = Linked-decided (λ x y. IsStep steps x y) (is_step_decided steps) path

is_base_decided : (reason : Reason) → Decision (IsBase reason)
is_base_decided (Base rule) = inl tt
is_base_decided (Inferred rule load path) = inr (λ base. base)

-- a step follows from the earlier ones, or has a fault after them
follows_or_faulty : (t : TraceValue) (earlier : List CertStep) (number : ℕ) (s : CertStep) → Follows t earlier s ⊎ ((fault : CertFault) × HasFault t earlier number s fault)
follows_or_faulty t earlier number s = elim (meets_decided t s.from s.to s.reason) [
  | inl meets ↦ elim (path_decided earlier s.reason) [
    | inl path ↦ inl (meets, path)
    | inr none ↦ inr (PathUnlisted number, (refl, meets, none))
  ]
  | inr none ↦ elim (is_base_decided s.reason) [
    | inl base ↦ inr (BaseRefused number, (refl, base, none))
    | inr inferred ↦ inr (SideRefused number, (refl, inferred, none))
  ]
]

-- ---- all steps

-- a step, for places at which there is none
no_step : CertStep
no_step = record { from = 0; to = 0; reason = Base Init }

-- the steps before place k hold, or one of the steps is the first with a fault
first_steps_hold : (t : TraceValue) (steps : List CertStep) (k : ℕ) → k ≤ length steps →
    ((j : ℕ) → j < k → StepHolds t steps j) ⊎ ((fault : CertFault) × IsStepFault t steps fault)
first_steps_hold t steps zero within = inl (holds_none t steps)
first_steps_hold t steps (suc k) within = elim (first_steps_hold t steps k (omega (arith, within))) [
  | inr faulty ↦ inr faulty
  | inl before ↦ (
      let s = get_or steps k no_step in
      let below : k < length steps = omega (arith, within) in
      let read : s ≡ get_or steps k s = get_or_default steps k no_step s below in
      elim (follows_or_faulty t (take k steps) (k + 1) s) [
        | inl follows ↦ inl (λ j less. holds_more t steps k s below read follows before j (omega (arith, less)))
        | inr faulty ↦ inr (faulty.0, step_faulty t steps k s faulty.0 below read before faulty.1)
      ]
      )
]

steps_hold_or_faulty : (t : TraceValue) (steps : List CertStep) → StepsHold t steps ⊎ ((fault : CertFault) × IsStepFault t steps fault)
steps_hold_or_faulty t steps = elim (first_steps_hold t steps (length steps) (omega arith)) [
  | inl before ↦ inl (holds_all t steps (length steps) (omega arith) before)
  | inr faulty ↦ inr faulty
]

-- ---- the certificate

-- a list that is no cycle of the steps has a fault
cycle_fault : (steps : List CertStep) (cycle : List ℕ) → (IsCycle (λ x y. IsStep steps x y) cycle → ⊥) → (fault : CertFault) × IsCycleFault steps cycle fault
cycle_fault steps [] none = (EmptyCycle, refl)
cycle_fault steps (x ∷ rest) none = (CycleUnlisted, ((λ e. absurd cc), none))

cycle_holds_or_refused : (t : TraceValue) (steps : List CertStep) (cycle : List ℕ) →
    (StepsHold t steps × IsCycle (λ x y. IsStep steps x y) cycle) ⊎ ((fault : CertFault) × IsCycleRefusal t steps cycle fault)
cycle_holds_or_refused t steps cycle = elim (steps_hold_or_faulty t steps) [
  | inr faulty ↦ inr (faulty.0, inl faulty.1)
  | inl hold ↦ elim (IsCycle-decided (λ x y. IsStep steps x y) (is_step_decided steps) cycle) [
    | inl closed ↦ inl (hold, closed)
    | inr none ↦ (let faulty = cycle_fault steps cycle none in inr (faulty.0, inr (hold, faulty.1)))
  ]
]

holds_or_refused_in_range : (t : TraceValue) (certificate : Certificate) → IsInRange t certificate → Holds t certificate ⊎ ((fault : CertFault) × IsCertRefusal t certificate fault)
holds_or_refused_in_range t (Unwritten n) range = elim (IsUnwritten-decided t n) [
  | inl unwritten ↦ inl unwritten
  | inr none ↦ inr (NotUnwritten, inr (range, (refl, none)))
]
holds_or_refused_in_range t (Cycle steps cycle) range = elim (cycle_holds_or_refused t steps cycle) [
  | inl holds ↦ inl holds
  | inr refused ↦ inr (refused.0, inr (range, refused.1))
]

-- Each certificate holds for a trace, or gets a refusal.
pub holds_or_refused : (t : TraceValue) (certificate : Certificate) → Holds t certificate ⊎ ((fault : CertFault) × IsCertRefusal t certificate fault)
holds_or_refused t certificate = elim (in_range_decided t certificate) [
  | inl range ↦ holds_or_refused_in_range t certificate range
  | inr out ↦ inr (EventRange, inl (refl, out))
]
