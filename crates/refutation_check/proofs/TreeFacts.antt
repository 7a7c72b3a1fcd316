-- Refutations under other pairs in force, and what leaves no order.
use Rattle.std.proofs.Common.{◌⊎◌, inl, inr, ℕ, suc, ◌+◌, List, ◌∷◌, length, sym, arith}
use Rattle.tso_ops.specs.Values.{TraceValue}
use Rattle.tso_ops.proofs.NumberFacts.{HasOwnValues, event_above_zero}
use Rattle.tso_cert.specs.declared.steps.Reason.{Reason}
use Rattle.tso_cert.specs.declared.steps.Reason.TheVariants.{Base, Inferred}
use Rattle.tso_cert.specs.declared.steps.CertStep.{CertStep}
use Rattle.tso_evidence.specs.declared.refutations.RefutationLine.{RefutationLine}
use Rattle.tso_evidence.specs.Refutations.{Refutation, cycle, step, split, lines_of}
use Rattle.order_paths.proofs.Reach.{Linked-mono, IsCycle-mono}
use Rattle.order_paths.proofs.RisingNumbers.{Rises, rises_on_path, rises_without_cycle}
use Rattle.tso_model.specs.Axioms.{place, IsBefore, IsModelOrder, IsConsistent}
use Rattle.tso_model.specs.Certs.{MeetsRule, IsPathIn}
use Rattle.tso_model.proofs.Places.{before_from_up_to, before_or_up_to, before_of_same}
use Rattle.tso_model.proofs.EdgesForward.{base_before, inferred_before}
use Rattle.refutation_check.specs.declared.faults.RefutationFault.{RefutationFault}
use Rattle.refutation_check.specs.declared.faults.RefutationFault.TheVariants.{Misplaced, Unfinished, EventRange, BaseRefused, SideRefused, PathUnlisted, CaseRefused, CycleUnlisted, EmptyCycle}
use Rattle.refutation_check.specs.Refutations.{NoPair, WithPair, AreTwoEvents, HoldsUnder, RefutationHolds}
use Rattle.refutation_check.specs.Refusals.{HasStepFault, HasCycleFault, HasFirstFault}

-- ---- the same pairs

with_more : (P Q : ℕ → ℕ → Type 0) → ((x y : ℕ) → P x y → Q x y) → (u v x y : ℕ) → WithPair P u v x y → WithPair Q u v x y
with_more P Q more u v x y (inl before) = inl (more x y before)
with_more P Q more u v x y (inr here) = inr here

path_more : (P Q : ℕ → ℕ → Type 0) → ((x y : ℕ) → P x y → Q x y) → (reason : Reason) → IsPathIn P reason → IsPathIn Q reason
path_more P Q more (Base rule) path = tt
path_more P Q more (Inferred rule load path) linked = Linked-mono P Q more path linked

-- a refutation holds where more pairs are in force
pub holds_more : (t : TraceValue) (P Q : ℕ → ℕ → Type 0) → ((x y : ℕ) → P x y → Q x y) → (r : Refutation) → HoldsUnder t P r → HoldsUnder t Q r
holds_more t P Q more (cycle numbers) closed = IsCycle-mono P Q more numbers closed
holds_more t P Q more (step s rest) holds = (
  (holds.0.0, path_more P Q more s.reason holds.0.1),
  holds_more t (WithPair P s.from s.to) (WithPair Q s.from s.to) (with_more P Q more s.from s.to) rest holds.1,
)
holds_more t P Q more (split u v first second) holds = (
  holds.0,
  holds_more t (WithPair P u v) (WithPair Q u v) (with_more P Q more u v) first holds.1,
  holds_more t (WithPair P v u) (WithPair Q v u) (with_more P Q more v u) second holds.2,
)

-- the same pairs give a step the same fault
step_fault_same : (t : TraceValue) (P Q : ℕ → ℕ → Type 0) → ((x y : ℕ) → Q x y → P x y) → (number : ℕ) (s : CertStep) (fault : RefutationFault) →
    HasStepFault t P number s fault → HasStepFault t Q number s fault
step_fault_same t P Q less number s (BaseRefused line) has = has
step_fault_same t P Q less number s (SideRefused line) has = has
step_fault_same t P Q less number s (PathUnlisted line) has = (has.0, has.1, λ path. has.2 (path_more Q P less s.reason path))
step_fault_same t P Q less number s (Misplaced line) has = absurd has
step_fault_same t P Q less number s Unfinished has = absurd has
step_fault_same t P Q less number s EventRange has = absurd has
step_fault_same t P Q less number s (CaseRefused line) has = absurd has
step_fault_same t P Q less number s (CycleUnlisted line) has = absurd has
step_fault_same t P Q less number s (EmptyCycle line) has = absurd has

cycle_fault_same : (P Q : ℕ → ℕ → Type 0) → ((x y : ℕ) → Q x y → P x y) → (number : ℕ) (numbers : List ℕ) (fault : RefutationFault) →
    HasCycleFault P number numbers fault → HasCycleFault Q number numbers fault
cycle_fault_same P Q less number numbers (CycleUnlisted line) has = (has.0, has.1, λ closed. has.2 (IsCycle-mono Q P less numbers closed))
cycle_fault_same P Q less number numbers (EmptyCycle line) has = has
cycle_fault_same P Q less number numbers (Misplaced line) has = absurd has
cycle_fault_same P Q less number numbers Unfinished has = absurd has
cycle_fault_same P Q less number numbers EventRange has = absurd has
cycle_fault_same P Q less number numbers (BaseRefused line) has = absurd has
cycle_fault_same P Q less number numbers (SideRefused line) has = absurd has
cycle_fault_same P Q less number numbers (PathUnlisted line) has = absurd has
cycle_fault_same P Q less number numbers (CaseRefused line) has = absurd has

-- the same pairs give a refutation the same first fault
pub fault_same : (t : TraceValue) (P Q : ℕ → ℕ → Type 0) → ((x y : ℕ) → P x y → Q x y) → ((x y : ℕ) → Q x y → P x y) → (number : ℕ) (r : Refutation) (fault : RefutationFault) →
    HasFirstFault t P number r fault → HasFirstFault t Q number r fault
fault_same t P Q more less number (cycle numbers) fault has = cycle_fault_same P Q less number numbers fault has
fault_same t P Q more less number (step s rest) fault (inl here) = inl (step_fault_same t P Q less number s fault here)
fault_same t P Q more less number (step s rest) fault (inr later) = inr (
  (later.0.0, path_more P Q more s.reason later.0.1),
  fault_same t (WithPair P s.from s.to) (WithPair Q s.from s.to) (with_more P Q more s.from s.to) (with_more Q P less s.from s.to) (suc number) rest fault later.1,
)
fault_same t P Q more less number (split u v first second) fault (inl here) = inl here
fault_same t P Q more less number (split u v first second) fault (inr (inl in_first)) = inr (inl (
  in_first.0,
  fault_same t (WithPair P u v) (WithPair Q u v) (with_more P Q more u v) (with_more Q P less u v) (suc number) first fault in_first.1,
))
fault_same t P Q more less number (split u v first second) fault (inr (inr in_second)) = inr (inr (
  in_second.0,
  holds_more t (WithPair P u v) (WithPair Q u v) (with_more P Q more u v) first in_second.1,
  fault_same t (WithPair P v u) (WithPair Q v u) (with_more P Q more v u) (with_more Q P less v u) (suc (suc number + length (lines_of first))) second fault in_second.2,
))

-- ---- a refutation that holds leaves no order

module _ (t : TraceValue) (own : HasOwnValues t) (order : List ℕ) (axioms : IsModelOrder t order) where
  -- an edge that meets its rule, by a path of pairs that lead forwards, leads forwards
  reason_before : (u v : ℕ) (reason : Reason) (P : ℕ → ℕ → Type 0) → Rises P (place (0 ∷ order)) →
      MeetsRule t u v reason → IsPathIn P reason → IsBefore order u v
  reason_before u v (Base rule) P rises meets path = base_before t own order axioms rule u v meets
  reason_before u v (Inferred rule load path) P rises meets linked =
      inferred_before t own order axioms rule load u v meets.0 meets.1 meets.2
      (rises_on_path P (place (0 ∷ order)) rises meets.0 meets.1 (path, (meets.3, linked)))

  -- one more pair that leads forwards
  rises_with : (P : ℕ → ℕ → Type 0) (u v : ℕ) → Rises P (place (0 ∷ order)) → IsBefore order u v → Rises (WithPair P u v) (place (0 ∷ order))
  rises_with P u v rises before = record { on_edge = forwards }
    where
      forwards : (x y : ℕ) → WithPair P u v x y → IsBefore order x y
      forwards x y (inl pair) = rises.on_edge x y pair
      forwards x y (inr here) = before_of_same order u v x y here.0 here.1 before

  -- of two events one comes before the other
  one_before : (u v : ℕ) → AreTwoEvents t u v → IsBefore order u v ⊎ IsBefore order v u
  one_before u v two =
      let above_u = event_above_zero t u two.0 in
      let above_v = event_above_zero t v two.1 in
      let once = axioms.memory_order.once u two.0 in
      elim (before_or_up_to order u v above_u above_v) [
        | inl before ↦ inl before
        | inr up_to ↦ inr (before_from_up_to order v u (omega (arith, once)) above_u (λ same. two.2 (sym same)) up_to)
      ]

  -- no refutation holds under pairs that lead forwards
  nothing_holds : (P : ℕ → ℕ → Type 0) → Rises P (place (0 ∷ order)) → (r : Refutation) → HoldsUnder t P r → ⊥
  nothing_holds P rises (cycle numbers) closed = rises_without_cycle P (place (0 ∷ order)) rises numbers closed
  nothing_holds P rises (step s rest) holds =
      nothing_holds (WithPair P s.from s.to) (rises_with P s.from s.to rises (reason_before s.from s.to s.reason P rises holds.0.0 holds.0.1)) rest holds.1
  nothing_holds P rises (split u v first second) holds = elim (one_before u v holds.0) [
    | inl before ↦ nothing_holds (WithPair P u v) (rises_with P u v rises before) first holds.1
    | inr before ↦ nothing_holds (WithPair P v u) (rises_with P v u rises before) second holds.2
  ]

-- a trace with a refutation that holds has no order
pub not_consistent : (t : TraceValue) → HasOwnValues t → (lines : List RefutationLine) → RefutationHolds t lines → IsConsistent t → ⊥
not_consistent t own lines holds consistent =
    nothing_holds t own consistent.0 consistent.1 NoPair (record { on_edge = λ x y none. absurd none }) holds.0 holds.2
