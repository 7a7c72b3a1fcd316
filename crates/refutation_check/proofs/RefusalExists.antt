-- Lines are a refutation that holds, or they get a refusal.
use Rattle.std.proofs.Common.{◌≡◌, ◌⊎◌, ◌↔◌, inl, inr, ℕ, zero, suc, ◌+◌, ◌<◌, ◌≤◌, Bool, true, false, not, IsTrue, List, [], ◌∷◌, ◌++◌, length, get_or, take, All, refl, sym, subst, arith}
use Rattle.std.proofs.lemmas.Bool.{cases_eq, cases_lt, false≢true}
use Rattle.std.proofs.lemmas.List.{get_or_default}
use Rattle.std.proofs.lemmas.List.Elements.{All-from_recursion, recursion_from_All}
use Rattle.std.specs.List.{AllByRecursion}
use Rattle.order_paths.specs.Paths.{last_of, IsCycle}
use Rattle.order_paths.proofs.Decisions.{Decision, Decision-both, Decision-either, Decision-iff, Decision-not, Decision-three}
use Rattle.order_paths.proofs.LeastExists.{IsCycle-decided, Linked-decided}
use Rattle.tso_ops.specs.Values.{TraceValue}
use Rattle.tso_ops.specs.Events.{event_total}
use Rattle.tso_cert.specs.declared.steps.Reason.{Reason}
use Rattle.tso_cert.specs.declared.steps.Reason.TheVariants.{Base, Inferred}
use Rattle.tso_cert.specs.declared.steps.CertStep.{CertStep}
use Rattle.tso_evidence.specs.declared.refutations.RefutationLine.{RefutationLine}
use Rattle.tso_evidence.specs.declared.refutations.RefutationLine.TheVariants.{Step, Case, Else, Cycle}
use Rattle.tso_evidence.specs.Refutations.{Refutation, cycle, step, split, lines_of, IsRefutation}
use Rattle.tso_model.specs.Rules.{InferredBy}
use Rattle.tso_model.specs.Certs.{IsPathIn, MeetsRule}
use Rattle.tso_model.proofs.Decided.{BasePair-decided, InferredBy-decided, IsEvent-decided}
use Rattle.cert_check.specs.Refusals.{AreUpTo, IsReasonUpTo, IsBase}
use Rattle.refutation_check.specs.declared.faults.RefutationFault.{RefutationFault}
use Rattle.refutation_check.specs.declared.faults.RefutationFault.TheVariants.{Misplaced, Unfinished, EventRange, BaseRefused, SideRefused, PathUnlisted, CaseRefused, CycleUnlisted, EmptyCycle}
use Rattle.refutation_check.specs.declared.structure.OpenCase.{OpenCase}
use Rattle.refutation_check.specs.Refutations.{NoPair, WithPair, AreTwoEvents, StepHoldsOver, HoldsUnder, RefutationHolds}
use Rattle.refutation_check.specs.Refusals.{IsLineUpTo, IsStructureFault, HasStepFault, HasCycleFault, HasFirstFault, IsRefutationRefusal}
use Rattle.refutation_check.specs.Internal.Structure.{IsMissing}
use Rattle.refutation_check.proofs.StructureFacts.{Leaves, leaves_none, leaves_at, misplaced_at, all_leave, unfinished, none_missing, missing_step, missing_case, missing_cycle, missing_no_else}

-- ---- the structure

-- whether a line may come next, and what is missing after it
abbrev Next : Bool → List OpenCase → RefutationLine → Type 0
Next ended cases line = (takes : Bool) × (later : Bool) × (others : List OpenCase) × ((rest : List RefutationLine) → IsMissing ended cases (line ∷ rest) ↔ (IsTrue takes × IsMissing later others rest))

-- a second part after a cycle
next_else : (c : OpenCase) (cases : List OpenCase) (u v : ℕ) → Decision ((u ≡ c.second) × (v ≡ c.first)) → Next true (c ∷ cases) (Else u v)
next_else c cases u v (inl same) = (true, false, cases, λ rest. (to rest, λ both. back rest both.1))
  where
    to : (rest : List RefutationLine) → IsMissing true (c ∷ cases) (Else u v ∷ rest) → IsTrue true × IsMissing false cases rest
    to rest (r, tail, is, after) = let lines : rest ≡ lines_of r ++ tail = cc in (refl, (r, tail, lines, after))

    back : (rest : List RefutationLine) → IsMissing false cases rest → IsMissing true (c ∷ cases) (Else u v ∷ rest)
    back rest (r, tail, is, after) = let one = same.0 in let other = same.1 in (r, tail, cc, after)
next_else c cases u v (inr other) = (false, false, cases, λ rest. (λ missing. absurd (never rest missing), λ both. absurd (false≢true both.0)))
  where
    never : (rest : List RefutationLine) → IsMissing true (c ∷ cases) (Else u v ∷ rest) → ⊥
    never rest (r, tail, is, after) = let one : u ≡ c.second = cc in let two : v ≡ c.first = cc in other (one, two)

next_line : (ended : Bool) (cases : List OpenCase) (line : RefutationLine) → Next ended cases line
next_line ended cases (Step s) = (not ended, ended, cases, missing_step ended cases s)
next_line ended cases (Case u v) = (not ended, ended, record { first = u; second = v } ∷ cases, missing_case ended cases u v)
next_line ended cases (Cycle numbers) = (not ended, true, cases, missing_cycle ended cases numbers)
next_line false cases (Else u v) = (false, false, cases, λ rest. (λ missing. absurd (missing_no_else cases u v rest missing), λ both. absurd (false≢true both.0)))
next_line true [] (Else u v) = (false, false, [], λ rest. (λ missing. absurd cc, λ both. absurd (false≢true both.0)))
next_line true (c ∷ cases) (Else u v) = next_else c cases u v (Decision-both (cases_eq u c.second) (cases_eq v c.first))

-- what is missing after the lines before place k, or a line that is misplaced
abbrev ComesTo : List RefutationLine → ℕ → Type 0
ComesTo lines k = ((ended : Bool) × (cases : List OpenCase) × Leaves (take k lines) ended cases) ⊎ ((fault : RefutationFault) × IsStructureFault lines fault)

one_more : (lines : List RefutationLine) (k : ℕ) (line : RefutationLine) (ended later : Bool) (cases others : List OpenCase) (takes : Bool) → k < length lines →
    line ≡ get_or lines k line → ((rest : List RefutationLine) → IsMissing ended cases (line ∷ rest) ↔ (IsTrue takes × IsMissing later others rest)) →
    Leaves (take k lines) ended cases → ComesTo lines (k + 1)
one_more lines k line ended later cases others true within read next leaves = inl (later, others, leaves_at lines k line ended later cases others true within read refl next leaves)
one_more lines k line ended later cases others false within read next leaves =
    inr (Misplaced (k + 1), misplaced_at lines k line ended later cases others false within read false≢true next leaves)

comes_to : (lines : List RefutationLine) (k : ℕ) → k ≤ length lines → ComesTo lines k
comes_to lines zero within = inl (false, [], leaves_none)
comes_to lines (suc k) within = elim (comes_to lines k (omega (arith, within))) [
  | inr faulty ↦ inr faulty
  | inl before ↦ (
      let line = get_or lines k (Cycle []) in
      let below : k < length lines = omega (arith, within) in
      let read : line ≡ get_or lines k line = get_or_default lines k (Cycle []) line below in
      let next = next_line before.0 before.1 line in
      let number : k + 1 ≡ suc k = omega arith in
      subst (ComesTo lines) number (one_more lines k line before.0 next.1 before.1 next.2 next.0 below read next.3 before.2)
      )
]

missing_decided : (ended : Bool) (cases : List OpenCase) → Decision (IsMissing ended cases [])
missing_decided true [] = inl refl
missing_decided true (c ∷ cases) = inr (λ missing. let none = (none_missing true (c ∷ cases) missing).1 in absurd cc)
missing_decided false cases = inr (λ missing. false≢true (none_missing false cases missing).0)

structure_decided : (lines : List RefutationLine) → IsRefutation lines ⊎ ((fault : RefutationFault) × IsStructureFault lines fault)
structure_decided lines = elim (comes_to lines (length lines) (omega arith)) [
  | inr faulty ↦ inr faulty
  | inl before ↦ elim (missing_decided before.0 before.1) [
    | inl missing ↦ inl ((all_leave lines (length lines) before.0 before.1 (omega arith) before.2).1 missing)
    | inr some ↦ inr (Unfinished, unfinished lines (length lines) before.0 before.1 (omega arith) before.2 some)
  ]
]

-- ---- numbers in range

up_to_decided : (last n : ℕ) → Decision (n ≤ last)
up_to_decided last n = elim (cases_lt last n) [ inl more ↦ inr (λ most. omega (arith, more, most)) | inr most ↦ inl (omega (arith, most)) ]

by_recursion_decided : {X : Type 0} (P : X → Type 0) → ((x : X) → Decision (P x)) → (xs : List X) → Decision (AllByRecursion P xs)
by_recursion_decided P decide [] = inl tt
by_recursion_decided P decide (x ∷ xs) = Decision-both (decide x) (by_recursion_decided P decide xs)

all_decided : {X : Type 0} (P : X → Type 0) → ((x : X) → Decision (P x)) → (xs : List X) → Decision (All P xs)
all_decided P decide xs = Decision-iff (All-from_recursion P xs) (recursion_from_All P xs) (by_recursion_decided P decide xs)

are_up_to_decided : (last : ℕ) (numbers : List ℕ) → Decision (AreUpTo last numbers)
are_up_to_decided last numbers = all_decided (λ n. n ≤ last) (up_to_decided last) numbers

reason_decided : (last : ℕ) (reason : Reason) → Decision (IsReasonUpTo last reason)
reason_decided last (Base rule) = inl tt
reason_decided last (Inferred rule load path) = Decision-both (up_to_decided last load) (are_up_to_decided last path)

line_decided : (last : ℕ) (line : RefutationLine) → Decision (IsLineUpTo last line)
line_decided last (Step s) = Decision-three (up_to_decided last s.from) (up_to_decided last s.to) (reason_decided last s.reason)
line_decided last (Case u v) = Decision-both (up_to_decided last u) (up_to_decided last v)
line_decided last (Else u v) = Decision-both (up_to_decided last u) (up_to_decided last v)
line_decided last (Cycle numbers) = are_up_to_decided last numbers

-- ---- one line

meets_decided : (t : TraceValue) (u v : ℕ) (reason : Reason) → Decision (MeetsRule t u v reason)
meets_decided t u v (Base rule) = BasePair-decided t rule u v
meets_decided t u v (Inferred rule load []) = inr (λ meets. meets.3)
meets_decided t u v (Inferred rule load (a ∷ [])) = inr (λ meets. meets.3)
meets_decided t u v (Inferred rule load (a ∷ b ∷ rest)) = Decision-iff
    (λ inferred. (a, last_of b rest, inferred, (refl, refl)))
    (λ meets. subst (λ x. InferredBy t rule load u v x (last_of b rest)) (sym meets.3.0) (subst (λ y. InferredBy t rule load u v meets.0 y) (sym meets.3.1) meets.2))
    (InferredBy-decided t rule load u v a (last_of b rest))

is_base_decided : (reason : Reason) → Decision (IsBase reason)
is_base_decided (Base rule) = inl tt
is_base_decided (Inferred rule load path) = inr (λ base. base)

module _ (t : TraceValue) where
  path_decided : (P : ℕ → ℕ → Type 0) → ((x y : ℕ) → Decision (P x y)) → (reason : Reason) → Decision (IsPathIn P reason)
  path_decided P decide (Base rule) = inl tt
  path_decided P decide (Inferred rule load path) = Linked-decided P decide path

  -- a step holds or has a fault
  step_decided : (P : ℕ → ℕ → Type 0) → ((x y : ℕ) → Decision (P x y)) → (number : ℕ) (s : CertStep) →
      StepHoldsOver t P s ⊎ ((fault : RefutationFault) × HasStepFault t P number s fault)
  step_decided P decide number s = elim (meets_decided t s.from s.to s.reason) [
    | inl meets ↦ elim (path_decided P decide s.reason) [
      | inl path ↦ inl (meets, path)
      | inr none ↦ inr (PathUnlisted number, (refl, meets, none))
    ]
    | inr none ↦ elim (is_base_decided s.reason) [
      | inl base ↦ inr (BaseRefused number, (refl, base, none))
      | inr inferred ↦ inr (SideRefused number, (refl, inferred, none))
    ]
  ]

  two_events_decided : (u v : ℕ) → Decision (AreTwoEvents t u v)
  two_events_decided u v = Decision-three (IsEvent-decided t u) (IsEvent-decided t v) (Decision-not (cases_eq u v))

  cycle_fault : (P : ℕ → ℕ → Type 0) (number : ℕ) (numbers : List ℕ) → (IsCycle P numbers → ⊥) → (fault : RefutationFault) × HasCycleFault P number numbers fault
  cycle_fault P number [] none = (EmptyCycle number, (refl, refl))
  cycle_fault P number (x ∷ rest) none = (CycleUnlisted number, (refl, (λ e. absurd cc), none))

  with_decided : (P : ℕ → ℕ → Type 0) → ((x y : ℕ) → Decision (P x y)) → (u v x y : ℕ) → Decision (WithPair P u v x y)
  with_decided P decide u v x y = Decision-either (decide x y) (Decision-both (cases_eq u x) (cases_eq v y))

  -- a refutation holds or has a first fault
  holds_or_faulty : (P : ℕ → ℕ → Type 0) → ((x y : ℕ) → Decision (P x y)) → (number : ℕ) (r : Refutation) →
      HoldsUnder t P r ⊎ ((fault : RefutationFault) × HasFirstFault t P number r fault)
  holds_or_faulty P decide number (cycle numbers) = elim (IsCycle-decided P decide numbers) [ inl closed ↦ inl closed | inr none ↦ inr (cycle_fault P number numbers none) ]
  holds_or_faulty P decide number (step s rest) = elim (step_decided P decide number s) [
    | inr faulty ↦ inr (faulty.0, inl faulty.1)
    | inl holds ↦ elim (holds_or_faulty (WithPair P s.from s.to) (with_decided P decide s.from s.to) (suc number) rest) [
      | inl later ↦ inl (holds, later)
      | inr faulty ↦ inr (faulty.0, inr (holds, faulty.1))
    ]
  ]
  holds_or_faulty P decide number (split u v first second) = elim (two_events_decided u v) [
    | inr none ↦ inr (CaseRefused number, inl (refl, none))
    | inl two ↦ elim (holds_or_faulty (WithPair P u v) (with_decided P decide u v) (suc number) first) [
      | inr faulty ↦ inr (faulty.0, inr (inl (two, faulty.1)))
      | inl one ↦ elim (holds_or_faulty (WithPair P v u) (with_decided P decide v u) (suc (suc number + length (lines_of first))) second) [
        | inl other ↦ inl (two, one, other)
        | inr faulty ↦ inr (faulty.0, inr (inr (two, one, faulty.1)))
      ]
    ]
  ]

-- Lines are a refutation that holds for a trace, or get a refusal.
pub holds_or_refused : (t : TraceValue) (lines : List RefutationLine) → RefutationHolds t lines ⊎ ((fault : RefutationFault) × IsRefutationRefusal t lines fault)
holds_or_refused t lines = elim (structure_decided lines) [
  | inr faulty ↦ inr (faulty.0, inl faulty.1)
  | inl whole ↦ elim (all_decided (IsLineUpTo (event_total t)) (line_decided (event_total t)) lines) [
    | inr out ↦ inr (EventRange, inr (inl (whole, refl, out)))
    | inl range ↦ elim (holds_or_faulty t NoPair (λ x y. inr (λ none. none)) 1 whole.0) [
      | inl holds ↦ inl (whole.0, whole.1, holds)
      | inr faulty ↦ inr (faulty.0, inr (inr (range, (whole.0, whole.1, faulty.1))))
    ]
  ]
]
