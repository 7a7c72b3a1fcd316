-- Which refusal lines get: one at most, and none where they are a refutation that holds.
use Rattle.std.proofs.Common.{◌≡◌, ◌∙◌, ◌⊎◌, inl, inr, sym, ap, subst, refl, ℕ, suc, ◌+◌, ◌<◌, ◌≤◌, List, [], ◌∷◌, ◌++◌, length, take, drop, append_assoc, All, arith}
use Rattle.std.proofs.lemmas.Bool.{cases_lt}
use Rattle.std.proofs.lemmas.List.{append-nil, take-take, take-append-drop}
use Rattle.std.specs.List.{AllByRecursion}
use Rattle.std.proofs.lemmas.List.Elements.{All-from_recursion}
use Rattle.tso_ops.specs.Values.{TraceValue}
use Rattle.tso_ops.specs.Events.{event_total}
use Rattle.tso_ops.proofs.NumberFacts.{IsEvent-within}
use Rattle.tso_cert.specs.declared.steps.Reason.{Reason}
use Rattle.tso_cert.specs.declared.steps.Reason.TheVariants.{Base, Inferred}
use Rattle.tso_cert.specs.declared.steps.CertStep.{CertStep}
use Rattle.tso_evidence.specs.declared.refutations.RefutationLine.{RefutationLine}
use Rattle.tso_evidence.specs.declared.refutations.RefutationLine.TheVariants.{Else}
use Rattle.tso_evidence.specs.Refutations.{Refutation, cycle, step, split, lines_of, IsRefutation}
use Rattle.order_paths.specs.Paths.{Linked, HasEnds, IsCycle, last_of}
use Rattle.tso_model.specs.Certs.{MeetsRule, IsPathIn}
use Rattle.tso_model.proofs.Bounds.{BasePair-within, InferredBy-within}
use Rattle.cert_check.specs.Refusals.{IsReasonUpTo, IsBase}
use Rattle.refutation_check.specs.declared.faults.RefutationFault.{RefutationFault}
use Rattle.refutation_check.specs.declared.faults.RefutationFault.TheVariants.{Misplaced, Unfinished, EventRange, BaseRefused, SideRefused, PathUnlisted, CaseRefused, CycleUnlisted, EmptyCycle}
use Rattle.refutation_check.specs.Refutations.{NoPair, WithPair, StepHoldsOver, HoldsUnder, RefutationHolds}
use Rattle.refutation_check.specs.Refusals.{IsBeginning, IsStructureFault, IsLineUpTo, AreLinesInRange, HasStepFault, HasCycleFault, HasFirstFault, IsFaultOfLines, IsRefutationRefusal}

-- ---- lines have one refutation at most

prefix_free : (r other : Refutation) (rest tail : List RefutationLine) → lines_of r ++ rest ≡ lines_of other ++ tail → (r ≡ other) × (rest ≡ tail)
prefix_free (cycle xs) (cycle ys) rest tail same = let one : xs ≡ ys = cc in let after : rest ≡ tail = cc in (ap cycle one, after)
prefix_free (cycle xs) (step d q) rest tail same = absurd cc
prefix_free (cycle xs) (split x y p q) rest tail same = absurd cc
prefix_free (step s r) (cycle ys) rest tail same = absurd cc
prefix_free (step s r) (step d q) rest tail same =
    let one : s ≡ d = cc in
    let after : lines_of r ++ rest ≡ lines_of q ++ tail = cc in
    let both = prefix_free r q rest tail after in
    (subst (λ e. step s r ≡ step e q) one (ap (step s) both.0), both.1)
prefix_free (step s r) (split x y p q) rest tail same = absurd cc
prefix_free (split u v first second) (cycle ys) rest tail same = absurd cc
prefix_free (split u v first second) (step d q) rest tail same = absurd cc
prefix_free (split u v first second) (split x y p q) rest tail same =
    let lines : (lines_of first ++ Else v u ∷ lines_of second) ++ rest ≡ (lines_of p ++ Else y x ∷ lines_of q) ++ tail = cc in
    let in_first = prefix_free first p (Else v u ∷ lines_of second ++ rest) (Else y x ∷ lines_of q ++ tail)
    (sym (append_assoc (lines_of first) (Else v u ∷ lines_of second) rest) ∙ lines ∙ append_assoc (lines_of p) (Else y x ∷ lines_of q) tail) in
    let after : lines_of second ++ rest ≡ lines_of q ++ tail = (let here = in_first.1 in cc) in
    let in_second = prefix_free second q rest tail after in
    let one : u ≡ x = cc in
    let other : v ≡ y = cc in
    let parts_first = in_first.0 in
    let parts_second = in_second.0 in
    (cc, in_second.1)

pub one_refutation : (r other : Refutation) → lines_of r ≡ lines_of other → r ≡ other
one_refutation r other same = (prefix_free r other [] [] (ap (λ lines. lines ++ []) same)).0

-- ---- beginnings

beginning_less : (before more : List RefutationLine) → IsBeginning (before ++ more) → IsBeginning before
beginning_less before more (rest, whole) = (more ++ rest, subst IsRefutation (append_assoc before more rest) whole)

-- fewer lines of a beginning are one too
beginning_of_all : (lines : List RefutationLine) (k : ℕ) → IsBeginning lines → IsBeginning (take k lines)
beginning_of_all lines k whole = beginning_less (take k lines) (drop k lines) (subst IsBeginning (sym (take-append-drop k lines)) whole)

beginning_of_more : (lines : List RefutationLine) (j k : ℕ) → j ≤ k → IsBeginning (take k lines) → IsBeginning (take j lines)
beginning_of_more lines j k most whole = subst IsBeginning (take-take j k lines most) (beginning_of_all (take k lines) j whole)

whole_is_beginning : (lines : List RefutationLine) → IsRefutation lines → IsBeginning lines
whole_is_beginning lines whole = ([], subst IsRefutation (sym (append-nil lines)) whole)

-- ---- which fault the structure has

abbrev IsMisplacedAt : List RefutationLine → ℕ → Type 0
IsMisplacedAt lines k = IsBeginning (take k lines) × (IsBeginning (take (suc k) lines) → ⊥)

structure_kind : (lines : List RefutationLine) (fault : RefutationFault) → IsStructureFault lines fault →
    ((k : ℕ) × (fault ≡ Misplaced (suc k)) × IsMisplacedAt lines k) ⊎ ((fault ≡ Unfinished) × IsBeginning lines × (IsRefutation lines → ⊥))
structure_kind lines (Misplaced line) has = inl (has.0, ap Misplaced has.1, (has.3, has.4))
structure_kind lines Unfinished has = inr (refl, has.0, has.1)
structure_kind lines EventRange has = absurd has
structure_kind lines (BaseRefused line) has = absurd has
structure_kind lines (SideRefused line) has = absurd has
structure_kind lines (PathUnlisted line) has = absurd has
structure_kind lines (CaseRefused line) has = absurd has
structure_kind lines (CycleUnlisted line) has = absurd has
structure_kind lines (EmptyCycle line) has = absurd has

-- a line before the misplaced one isn't misplaced
not_earlier : (lines : List RefutationLine) (j k : ℕ) → IsMisplacedAt lines j → IsMisplacedAt lines k → j < k → ⊥
not_earlier lines j k first other before = first.1 (beginning_of_more lines (suc j) k (omega (arith, before)) other.0)

one_structure_fault : (lines : List RefutationLine) (f g : RefutationFault) → IsStructureFault lines f → IsStructureFault lines g → f ≡ g
one_structure_fault lines f g has other = by_kind (structure_kind lines f has) (structure_kind lines g other)
  where
    by_kind : ((k : ℕ) × (f ≡ Misplaced (suc k)) × IsMisplacedAt lines k) ⊎ ((f ≡ Unfinished) × IsBeginning lines × (IsRefutation lines → ⊥)) →
        ((k : ℕ) × (g ≡ Misplaced (suc k)) × IsMisplacedAt lines k) ⊎ ((g ≡ Unfinished) × IsBeginning lines × (IsRefutation lines → ⊥)) → f ≡ g
    by_kind (inl (j, first, at)) (inl (k, second, also)) = elim (cases_lt j k) [
      | inl before ↦ absurd (not_earlier lines j k at also before)
      | inr not_before ↦ elim (cases_lt k j) [
        | inl after ↦ absurd (not_earlier lines k j also at after)
        | inr not_after ↦ (let place : j ≡ k = omega arith in first ∙ ap (λ n. Misplaced (suc n)) place ∙ sym second)
      ]
    ]
    by_kind (inl (j, first, at)) (inr some) = absurd (at.1 (beginning_of_all lines (suc j) some.1))
    by_kind (inr some) (inl (k, second, also)) = absurd (also.1 (beginning_of_all lines (suc k) some.1))
    by_kind (inr some) (inr also) = some.0 ∙ sym also.0

whole_structure : (lines : List RefutationLine) (f : RefutationFault) → IsRefutation lines → IsStructureFault lines f → ⊥
whole_structure lines f whole has = elim (structure_kind lines f has) [
  | inl misplaced ↦ misplaced.2.1 (beginning_of_all lines (suc misplaced.0) (whole_is_beginning lines whole))
  | inr some ↦ some.2 whole
]

-- ---- which fault a line has

step_kind : (t : TraceValue) (P : ℕ → ℕ → Type 0) (number : ℕ) (s : CertStep) (fault : RefutationFault) → HasStepFault t P number s fault →
    ((fault ≡ BaseRefused number) × IsBase s.reason × (MeetsRule t s.from s.to s.reason → ⊥))
    ⊎ ((fault ≡ SideRefused number) × (IsBase s.reason → ⊥) × (MeetsRule t s.from s.to s.reason → ⊥))
    ⊎ ((fault ≡ PathUnlisted number) × MeetsRule t s.from s.to s.reason × (IsPathIn P s.reason → ⊥))
step_kind t P number s (BaseRefused line) has = inl (ap BaseRefused has.0, has.1, has.2)
step_kind t P number s (SideRefused line) has = inr (inl (ap SideRefused has.0, has.1, has.2))
step_kind t P number s (PathUnlisted line) has = inr (inr (ap PathUnlisted has.0, has.1, has.2))
step_kind t P number s (Misplaced line) has = absurd has
step_kind t P number s Unfinished has = absurd has
step_kind t P number s EventRange has = absurd has
step_kind t P number s (CaseRefused line) has = absurd has
step_kind t P number s (CycleUnlisted line) has = absurd has
step_kind t P number s (EmptyCycle line) has = absurd has

one_step_fault : (t : TraceValue) (P : ℕ → ℕ → Type 0) (number : ℕ) (s : CertStep) (f g : RefutationFault) → HasStepFault t P number s f → HasStepFault t P number s g → f ≡ g
one_step_fault t P number s f g has other = elim (step_kind t P number s f has) [
  | inl base ↦ elim (step_kind t P number s g other) [
    | inl also ↦ base.0 ∙ sym also.0
    | inr (inl side) ↦ absurd (side.1 base.1)
    | inr (inr path) ↦ absurd (base.2 path.1)
  ]
  | inr (inl side) ↦ elim (step_kind t P number s g other) [
    | inl base ↦ absurd (side.1 base.1)
    | inr (inl also) ↦ side.0 ∙ sym also.0
    | inr (inr path) ↦ absurd (side.2 path.1)
  ]
  | inr (inr path) ↦ elim (step_kind t P number s g other) [
    | inl base ↦ absurd (base.2 path.1)
    | inr (inl side) ↦ absurd (side.2 path.1)
    | inr (inr also) ↦ path.0 ∙ sym also.0
  ]
]

no_step_fault : (t : TraceValue) (P : ℕ → ℕ → Type 0) (number : ℕ) (s : CertStep) (f : RefutationFault) → StepHoldsOver t P s → HasStepFault t P number s f → ⊥
no_step_fault t P number s f holds has = elim (step_kind t P number s f has) [
  | inl base ↦ base.2 holds.0
  | inr (inl side) ↦ side.2 holds.0
  | inr (inr path) ↦ path.2 holds.1
]

cycle_kind : (P : ℕ → ℕ → Type 0) (number : ℕ) (numbers : List ℕ) (fault : RefutationFault) → HasCycleFault P number numbers fault →
    ((fault ≡ CycleUnlisted number) × (numbers ≡ [] → ⊥) × (IsCycle P numbers → ⊥)) ⊎ ((fault ≡ EmptyCycle number) × (numbers ≡ []))
cycle_kind P number numbers (CycleUnlisted line) has = inl (ap CycleUnlisted has.0, has.1, has.2)
cycle_kind P number numbers (EmptyCycle line) has = inr (ap EmptyCycle has.0, has.1)
cycle_kind P number numbers (Misplaced line) has = absurd has
cycle_kind P number numbers Unfinished has = absurd has
cycle_kind P number numbers EventRange has = absurd has
cycle_kind P number numbers (BaseRefused line) has = absurd has
cycle_kind P number numbers (SideRefused line) has = absurd has
cycle_kind P number numbers (PathUnlisted line) has = absurd has
cycle_kind P number numbers (CaseRefused line) has = absurd has

one_cycle_fault : (P : ℕ → ℕ → Type 0) (number : ℕ) (numbers : List ℕ) (f g : RefutationFault) → HasCycleFault P number numbers f → HasCycleFault P number numbers g → f ≡ g
one_cycle_fault P number numbers f g has other = elim (cycle_kind P number numbers f has) [
  | inl unlisted ↦ elim (cycle_kind P number numbers g other) [ inl also ↦ unlisted.0 ∙ sym also.0 | inr empty ↦ absurd (unlisted.1 empty.1) ]
  | inr empty ↦ elim (cycle_kind P number numbers g other) [ inl unlisted ↦ absurd (unlisted.1 empty.1) | inr also ↦ empty.0 ∙ sym also.0 ]
]

no_cycle_fault : (P : ℕ → ℕ → Type 0) (number : ℕ) (numbers : List ℕ) (f : RefutationFault) → IsCycle P numbers → HasCycleFault P number numbers f → ⊥
no_cycle_fault P number numbers f closed has = elim (cycle_kind P number numbers f has) [
  | inl unlisted ↦ unlisted.2 closed
  | inr empty ↦ subst (IsCycle P) empty.1 closed
]

-- ---- which fault a refutation has

-- one that holds has none
no_fault : (t : TraceValue) (P : ℕ → ℕ → Type 0) (number : ℕ) (r : Refutation) (f : RefutationFault) → HoldsUnder t P r → HasFirstFault t P number r f → ⊥
no_fault t P number (cycle numbers) f holds has = no_cycle_fault P number numbers f holds has
no_fault t P number (step s rest) f holds (inl here) = no_step_fault t P number s f holds.0 here
no_fault t P number (step s rest) f holds (inr later) = no_fault t (WithPair P s.from s.to) (suc number) rest f holds.1 later.1
no_fault t P number (split u v first second) f holds (inl here) = here.1 holds.0
no_fault t P number (split u v first second) f holds (inr (inl in_first)) = no_fault t (WithPair P u v) (suc number) first f holds.1 in_first.1
no_fault t P number (split u v first second) f holds (inr (inr in_second)) =
    no_fault t (WithPair P v u) (suc (suc number + length (lines_of first))) second f holds.2 in_second.2

one_first_fault : (t : TraceValue) (P : ℕ → ℕ → Type 0) (number : ℕ) (r : Refutation) (f g : RefutationFault) → HasFirstFault t P number r f → HasFirstFault t P number r g → f ≡ g
one_first_fault t P number (cycle numbers) f g has other = one_cycle_fault P number numbers f g has other
one_first_fault t P number (step s rest) f g (inl here) (inl also) = one_step_fault t P number s f g here also
one_first_fault t P number (step s rest) f g (inl here) (inr later) = absurd (no_step_fault t P number s f later.0 here)
one_first_fault t P number (step s rest) f g (inr later) (inl here) = absurd (no_step_fault t P number s g later.0 here)
one_first_fault t P number (step s rest) f g (inr later) (inr also) = one_first_fault t (WithPair P s.from s.to) (suc number) rest f g later.1 also.1
one_first_fault t P number (split u v first second) f g (inl here) (inl also) = here.0 ∙ sym also.0
one_first_fault t P number (split u v first second) f g (inl here) (inr (inl later)) = absurd (here.1 later.0)
one_first_fault t P number (split u v first second) f g (inl here) (inr (inr later)) = absurd (here.1 later.0)
one_first_fault t P number (split u v first second) f g (inr (inl later)) (inl here) = absurd (here.1 later.0)
one_first_fault t P number (split u v first second) f g (inr (inr later)) (inl here) = absurd (here.1 later.0)
one_first_fault t P number (split u v first second) f g (inr (inl one)) (inr (inl also)) = one_first_fault t (WithPair P u v) (suc number) first f g one.1 also.1
one_first_fault t P number (split u v first second) f g (inr (inl one)) (inr (inr later)) = absurd (no_fault t (WithPair P u v) (suc number) first f later.1 one.1)
one_first_fault t P number (split u v first second) f g (inr (inr later)) (inr (inl one)) = absurd (no_fault t (WithPair P u v) (suc number) first g later.1 one.1)
one_first_fault t P number (split u v first second) f g (inr (inr one)) (inr (inr also)) =
    one_first_fault t (WithPair P v u) (suc (suc number + length (lines_of first))) second f g one.2 also.2

no_line_fault : (t : TraceValue) (lines : List RefutationLine) (f : RefutationFault) → RefutationHolds t lines → IsFaultOfLines t lines f → ⊥
no_line_fault t lines f (r, is, holds) (other, also, has) =
    no_fault t NoPair 1 r f holds (subst (λ q. HasFirstFault t NoPair 1 q f) (one_refutation other r (sym also ∙ is)) has)

one_line_fault : (t : TraceValue) (lines : List RefutationLine) (f g : RefutationFault) → IsFaultOfLines t lines f → IsFaultOfLines t lines g → f ≡ g
one_line_fault t lines f g (r, is, has) (other, also, has_too) =
    one_first_fault t NoPair 1 r f g has (subst (λ q. HasFirstFault t NoPair 1 q g) (one_refutation other r (sym also ∙ is)) has_too)

-- ---- the numbers of a refutation that holds are in range

rule_range : (t : TraceValue) (u v : ℕ) (reason : Reason) → MeetsRule t u v reason → (u ≤ event_total t) × (v ≤ event_total t)
rule_range t u v (Base rule) pair = let within = BasePair-within t rule u v pair in (omega (arith, within.0), omega (arith, within.1))
rule_range t u v (Inferred rule load path) (x, y, inferred, ends) =
    let within = InferredBy-within t rule load u v x y inferred in (omega (arith, within.from), omega (arith, within.to))

-- pairs are of numbers up to this one
abbrev IsUpTo : (ℕ → ℕ → Type 0) → ℕ → Type 0
IsUpTo P last = (u v : ℕ) → P u v → (u ≤ last) × (v ≤ last)

up_to_with : (P : ℕ → ℕ → Type 0) (last u v : ℕ) → IsUpTo P last → (u ≤ last) × (v ≤ last) → IsUpTo (WithPair P u v) last
up_to_with P last u v range ends x y (inl pair) = range x y pair
up_to_with P last u v range ends x y (inr here) = (omega (arith, ends.0, here.0), omega (arith, ends.1, here.1))

linked_range : (P : ℕ → ℕ → Type 0) (last : ℕ) → IsUpTo P last → (x : ℕ) (rest : List ℕ) → x ≤ last → Linked P (x ∷ rest) → AllByRecursion (λ n. n ≤ last) (x ∷ rest)
linked_range P last range x [] within linked = (within, tt)
linked_range P last range x (y ∷ rest) within linked = (within, linked_range P last range y rest (range x y linked.0).1 linked.1)

path_range : (P : ℕ → ℕ → Type 0) (last : ℕ) → IsUpTo P last → (path : List ℕ) (x y : ℕ) → HasEnds path x y → Linked P path → AllByRecursion (λ n. n ≤ last) path
path_range P last range [] x y ends linked = absurd ends
path_range P last range (a ∷ []) x y ends linked = absurd ends
path_range P last range (a ∷ (b ∷ rest)) x y ends linked = linked_range P last range a (b ∷ rest) (range a b linked.0).0 linked

cycle_range : (P : ℕ → ℕ → Type 0) (last : ℕ) → IsUpTo P last → (numbers : List ℕ) → IsCycle P numbers → AllByRecursion (λ n. n ≤ last) numbers
cycle_range P last range [] closed = absurd closed
cycle_range P last range (x ∷ rest) closed = linked_range P last range x rest (range (last_of x rest) x closed.1).1 closed.0

reason_range : (t : TraceValue) (P : ℕ → ℕ → Type 0) → IsUpTo P (event_total t) → (u v : ℕ) (reason : Reason) → MeetsRule t u v reason → IsPathIn P reason →
    IsReasonUpTo (event_total t) reason
reason_range t P range u v (Base rule) meets path = tt
reason_range t P range u v (Inferred rule load path) (x, y, inferred, ends) linked =
    let within = InferredBy-within t rule load u v x y inferred in
    (omega (arith, within.load), All-from_recursion (λ n. n ≤ event_total t) path (path_range P (event_total t) range path x y ends linked))

all_joined : {X : Type 0} (P : X → Type 0) (xs ys : List X) → AllByRecursion P xs → AllByRecursion P ys → AllByRecursion P (xs ++ ys)
all_joined P [] ys first second = second
all_joined P (x ∷ xs) ys first second = (first.0, all_joined P xs ys first.1 second)

lines_range : (t : TraceValue) (P : ℕ → ℕ → Type 0) → IsUpTo P (event_total t) → (r : Refutation) → HoldsUnder t P r → AllByRecursion (IsLineUpTo (event_total t)) (lines_of r)
lines_range t P range (cycle numbers) closed =
    (All-from_recursion (λ n. n ≤ event_total t) numbers (cycle_range P (event_total t) range numbers closed), tt)
lines_range t P range (step s rest) holds =
    let ends = rule_range t s.from s.to s.reason holds.0.0 in (
      (ends.0, ends.1, reason_range t P range s.from s.to s.reason holds.0.0 holds.0.1),
      lines_range t (WithPair P s.from s.to) (up_to_with P (event_total t) s.from s.to range ends) rest holds.1,
    )
lines_range t P range (split u v first second) holds =
    let from = IsEvent-within t u holds.0.0 in
    let to = IsEvent-within t v holds.0.1 in
    let u_range : u ≤ event_total t = omega (arith, from) in
    let v_range : v ≤ event_total t = omega (arith, to) in (
      (u_range, v_range),
      all_joined (IsLineUpTo (event_total t)) (lines_of first) (Else v u ∷ lines_of second)
          (lines_range t (WithPair P u v) (up_to_with P (event_total t) u v range (u_range, v_range)) first holds.1)
          ((v_range, u_range), lines_range t (WithPair P v u) (up_to_with P (event_total t) v u range (v_range, u_range)) second holds.2),
    )

in_range : (t : TraceValue) (lines : List RefutationLine) → RefutationHolds t lines → AreLinesInRange t lines
in_range t lines (r, is, holds) =
    subst (All (IsLineUpTo (event_total t))) (sym is)
    (All-from_recursion (IsLineUpTo (event_total t)) (lines_of r) (lines_range t NoPair (λ u v none. absurd none) r holds))

-- ---- what holds isn't refused, and what is refused is so once

pub not_refused : (t : TraceValue) (lines : List RefutationLine) (fault : RefutationFault) → RefutationHolds t lines → IsRefutationRefusal t lines fault → ⊥
not_refused t lines fault holds (inl structure) = whole_structure lines fault (holds.0, holds.1) structure
not_refused t lines fault holds (inr (inl range)) = range.2 (in_range t lines holds)
not_refused t lines fault holds (inr (inr line)) = no_line_fault t lines fault holds line.1

pub one_refusal : (t : TraceValue) (lines : List RefutationLine) (f g : RefutationFault) → IsRefutationRefusal t lines f → IsRefutationRefusal t lines g → f ≡ g
one_refusal t lines f g (inl one) (inl also) = one_structure_fault lines f g one also
one_refusal t lines f g (inl one) (inr (inl range)) = absurd (whole_structure lines f range.0 one)
one_refusal t lines f g (inl one) (inr (inr line)) = absurd (whole_structure lines f (line.1.0, line.1.1) one)
one_refusal t lines f g (inr (inl range)) (inl one) = absurd (whole_structure lines g range.0 one)
one_refusal t lines f g (inr (inr line)) (inl one) = absurd (whole_structure lines g (line.1.0, line.1.1) one)
one_refusal t lines f g (inr (inl range)) (inr (inl also)) = range.1 ∙ sym also.1
one_refusal t lines f g (inr (inl range)) (inr (inr line)) = absurd (range.2 line.0)
one_refusal t lines f g (inr (inr line)) (inr (inl range)) = absurd (range.2 line.0)
one_refusal t lines f g (inr (inr line)) (inr (inr also)) = one_line_fault t lines f g line.1 also.1
