-- Which refusal a certificate gets: one at most, and none where it holds.
use Rattle.std.proofs.Common.{◌≡◌, ◌∙◌, ⊎_elim, inr, sym, ap, subst, refl, ℕ, suc, ◌+◌, ◌<◌, ◌≤◌, List, [], ◌∷◌, length, get_or, take, Some, slice_get, Result, Ok, Err, IsOk, OnOk, IfOk, IfErr, MatchResult, arith}
use Rattle.std.proofs.lemmas.Bool.{cases_lt}
use Rattle.std.specs.List.{AllByRecursion}
use Rattle.std.proofs.lemmas.Option.{slice_get_read, slice_get_within, slice_get-get_or}
use Rattle.std.proofs.lemmas.List.Elements.{All-from_recursion}
use Rattle.tso_ops.specs.Values.{TraceValue}
use Rattle.tso_ops.specs.Events.{event_total}
use Rattle.tso_cert.specs.declared.steps.Reason.{Reason}
use Rattle.tso_cert.specs.declared.steps.Reason.TheVariants.{Base, Inferred}
use Rattle.tso_cert.specs.declared.steps.CertStep.{CertStep}
use Rattle.tso_cert.specs.declared.steps.Certificate.{Certificate}
use Rattle.tso_cert.specs.declared.steps.Certificate.TheVariants.{Unwritten, Cycle}
use Rattle.order_paths.specs.Paths.{Linked, HasEnds, IsCycle, last_of}
use Rattle.tso_ops.proofs.NumberFacts.{event_at-within, own_values}
use Rattle.tso_model.proofs.Bounds.{BasePair-within, InferredBy-within}
use Rattle.tso_ops.specs.Limits.{IsTrace}
use Rattle.tso_model.specs.Axioms.{IsConsistent}
use Rattle.tso_model.proofs.CertificateHolds.{not_consistent}
use Rattle.tso_model.proofs.OrderedLists.{slice_get-take}
use Rattle.tso_model.specs.Certs.{IsStep, MeetsRule, IsPathIn, StepHolds, StepsHold, Holds}
use Rattle.cert_check.specs.declared.faults.CertFault.{CertFault}
use Rattle.cert_check.specs.declared.faults.CertFault.TheVariants.{EventRange, NotUnwritten, BaseRefused, SideRefused, PathUnlisted, CycleUnlisted, EmptyCycle}
use Rattle.cert_check.specs.Refusals.{IsReasonUpTo, IsStepUpTo, IsInRange, HasFault, IsStepFault, IsCycleFault, IsCycleRefusal, IsRefusalInRange, IsCertRefusal}
use Rattle.cert_check.specs.Internal.Sides.{Follows}

-- ---- the steps so far

pub holds_none : (t : TraceValue) (steps : List CertStep) (j : ℕ) → j < 0 → StepHolds t steps j
holds_none t steps j none = absurd (omega arith)

pub holds_more : (t : TraceValue) (steps : List CertStep) (k : ℕ) (s : CertStep) → k < length steps → s ≡ get_or steps k s → Follows t (take k steps) s →
    ((j : ℕ) → j < k → StepHolds t steps j) → (j : ℕ) → j < k + 1 → StepHolds t steps j
holds_more t steps k s within read follows before j below d at =
    ⊎_elim
    (λ earlier. before j earlier d at)
    (λ not_earlier.
    let place : j ≡ k = omega arith in
    let here : slice_get steps k ≡ Some s = slice_get_read steps (length steps) k s refl within read in
    let same : Some s ≡ Some d = sym here ∙ ap (slice_get steps) (sym place) ∙ at in
    let one : s ≡ d = cc in
    subst (λ i. Follows t (take i steps) d) (sym place) (subst (Follows t (take k steps)) one follows))
    (cases_lt j k)

pub holds_all : (t : TraceValue) (steps : List CertStep) (k : ℕ) → length steps ≤ k → ((j : ℕ) → j < k → StepHolds t steps j) → StepsHold t steps
holds_all t steps k whole before j s at = before j (omega (arith, slice_get_within steps j s at)) s at

pub step_faulty : (t : TraceValue) (steps : List CertStep) (k : ℕ) (s : CertStep) (fault : CertFault) → k < length steps → s ≡ get_or steps k s →
    ((j : ℕ) → j < k → StepHolds t steps j) → HasFault t (take k steps) (k + 1) s fault → IsStepFault t steps fault
step_faulty t steps k s fault within read before has =
    let number : k + 1 ≡ suc k = omega arith in
    record {
      place = k;
      step = s;
      at = slice_get_read steps (length steps) k s refl within read;
      before = before;
      has = subst (λ n. HasFault t (take k steps) n s fault) number has;
    }

-- ---- what holds isn't refused

-- a step that holds has no fault
fault_breaks : (t : TraceValue) (earlier : List CertStep) (number : ℕ) (s : CertStep) (fault : CertFault) → Follows t earlier s → HasFault t earlier number s fault → ⊥
fault_breaks t earlier number s (BaseRefused k) follows has = has.2 follows.0
fault_breaks t earlier number s (SideRefused k) follows has = has.2 follows.0
fault_breaks t earlier number s (PathUnlisted k) follows has = has.2 follows.1
fault_breaks t earlier number s EventRange follows has = has
fault_breaks t earlier number s NotUnwritten follows has = has
fault_breaks t earlier number s CycleUnlisted follows has = has
fault_breaks t earlier number s EmptyCycle follows has = has

no_step_fault : (t : TraceValue) (steps : List CertStep) (fault : CertFault) → StepsHold t steps → IsStepFault t steps fault → ⊥
no_step_fault t steps fault hold f = fault_breaks t (take f.place steps) (suc f.place) f.step fault (hold f.place f.step f.at) f.has

no_cycle_fault : (steps : List CertStep) (cycle : List ℕ) (fault : CertFault) → IsCycle (λ x y. IsStep steps x y) cycle → IsCycleFault steps cycle fault → ⊥
no_cycle_fault steps cycle CycleUnlisted closed f = f.1 closed
no_cycle_fault steps [] EmptyCycle closed f = closed
no_cycle_fault steps (x ∷ cycle) EmptyCycle closed f = absurd cc
no_cycle_fault steps cycle (BaseRefused k) closed f = f
no_cycle_fault steps cycle (SideRefused k) closed f = f
no_cycle_fault steps cycle (PathUnlisted k) closed f = f
no_cycle_fault steps cycle EventRange closed f = f
no_cycle_fault steps cycle NotUnwritten closed f = f

no_cycle_refusal : (t : TraceValue) (steps : List CertStep) (cycle : List ℕ) (fault : CertFault) → StepsHold t steps → IsCycle (λ x y. IsStep steps x y) cycle →
    IsCycleRefusal t steps cycle fault → ⊥
no_cycle_refusal t steps cycle fault hold closed refusal =
    ⊎_elim (λ f. no_step_fault t steps fault hold f) (λ f. no_cycle_fault steps cycle fault closed f.1) refusal

-- ---- the numbers of a certificate that holds are in range

rule_range : (t : TraceValue) (u v : ℕ) (reason : Reason) → MeetsRule t u v reason → (u ≤ event_total t) × (v ≤ event_total t)
rule_range t u v (Base rule) pair = let within = BasePair-within t rule u v pair in (omega (arith, within.0), omega (arith, within.1))
rule_range t u v (Inferred rule load path) (x, y, inferred, ends) =
    let within = InferredBy-within t rule load u v x y inferred in (omega (arith, within.from), omega (arith, within.to))

-- the ends of a step that holds
edge_range : (t : TraceValue) (steps : List CertStep) → StepsHold t steps → (u v : ℕ) → IsStep steps u v → (u ≤ event_total t) × (v ≤ event_total t)
edge_range t steps hold u v (k, s, at, from, to) =
    let range = rule_range t s.from s.to s.reason (hold k s at).0 in (omega (arith, range.0, from), omega (arith, range.1, to))

earlier_is_step : (steps : List CertStep) (k u v : ℕ) → IsStep (take k steps) u v → IsStep steps u v
earlier_is_step steps k u v (j, s, at, from, to) = (j, s, (slice_get-take k steps j s at).1, from, to)

linked_range : (E : ℕ → ℕ → Type 0) (last : ℕ) → ((u v : ℕ) → E u v → (u ≤ last) × (v ≤ last)) → (x : ℕ) (rest : List ℕ) → x ≤ last → Linked E (x ∷ rest) →
    AllByRecursion (λ n. n ≤ last) (x ∷ rest)
linked_range E last range x [] within linked = (within, tt)
linked_range E last range x (y ∷ rest) within linked = (within, linked_range E last range y rest (range x y linked.0).1 linked.1)

path_range : (E : ℕ → ℕ → Type 0) (last : ℕ) → ((u v : ℕ) → E u v → (u ≤ last) × (v ≤ last)) → (path : List ℕ) (x y : ℕ) → HasEnds path x y → Linked E path →
    AllByRecursion (λ n. n ≤ last) path
path_range E last range [] x y ends linked = absurd ends
path_range E last range (a ∷ []) x y ends linked = absurd ends
path_range E last range (a ∷ (b ∷ rest)) x y ends linked = linked_range E last range a (b ∷ rest) (range a b linked.0).0 linked

cycle_range : (E : ℕ → ℕ → Type 0) (last : ℕ) → ((u v : ℕ) → E u v → (u ≤ last) × (v ≤ last)) → (cycle : List ℕ) → IsCycle E cycle → AllByRecursion (λ n. n ≤ last) cycle
cycle_range E last range [] closed = absurd closed
cycle_range E last range (x ∷ rest) closed = linked_range E last range x rest (range (last_of x rest) x closed.1).1 closed.0

reason_range : (t : TraceValue) (earlier : List CertStep) → ((u v : ℕ) → IsStep earlier u v → (u ≤ event_total t) × (v ≤ event_total t)) → (u v : ℕ) (reason : Reason) →
    MeetsRule t u v reason → IsPathIn (λ x y. IsStep earlier x y) reason → IsReasonUpTo (event_total t) reason
reason_range t earlier range u v (Base rule) meets path = tt
reason_range t earlier range u v (Inferred rule load path) (x, y, inferred, ends) linked =
    let within = InferredBy-within t rule load u v x y inferred in
    (omega (arith, within.load), All-from_recursion (λ n. n ≤ event_total t) path (path_range (λ x y. IsStep earlier x y) (event_total t) range path x y ends linked))

step_range : (t : TraceValue) (steps : List CertStep) → StepsHold t steps → (k : ℕ) (s : CertStep) → slice_get steps k ≡ Some s → IsStepUpTo (event_total t) s
step_range t steps hold k s at =
    let follows = hold k s at in
    let range = rule_range t s.from s.to s.reason follows.0 in (
      range.0,
      range.1,
      reason_range t (take k steps) (λ u v earlier. edge_range t steps hold u v (earlier_is_step steps k u v earlier)) s.from s.to s.reason follows.0 follows.1,
    )

in_range : (t : TraceValue) (certificate : Certificate) → Holds t certificate → IsInRange t certificate
in_range t (Unwritten n) ((e, at, load), none) = event_at-within t n e at
in_range t (Cycle steps cycle) holds = (
  λ k d within. step_range t steps holds.0 k (get_or steps k d) (slice_get-get_or steps k d within),
  All-from_recursion (λ n. n ≤ event_total t) cycle (cycle_range (λ x y. IsStep steps x y) (event_total t) (edge_range t steps holds.0) cycle holds.1),
)

pub not_refused : (t : TraceValue) (certificate : Certificate) (fault : CertFault) → Holds t certificate → IsCertRefusal t certificate fault → ⊥
not_refused t (Unwritten n) fault holds refusal =
    ⊎_elim (λ range. range.1 (in_range t (Unwritten n) holds)) (λ other. other.1.1 holds) refusal
not_refused t (Cycle steps cycle) fault holds refusal =
    ⊎_elim (λ range. range.1 (in_range t (Cycle steps cycle) holds)) (λ other. no_cycle_refusal t steps cycle fault holds.0 holds.1 other.1) refusal

-- ---- what the check answers

pub told_holds : (t : TraceValue) (certificate : Certificate) (r : Result (Unit {0}) CertFault) → MatchResult r (λ _. Holds t certificate) (IsCertRefusal t certificate) → OnOk r (Holds t certificate)
told_holds t certificate (Ok x) told = told
told_holds t certificate (Err fault) told = tt

pub told_no_order : (t : TraceValue) (certificate : Certificate) (r : Result (Unit {0}) CertFault) → IsTrace t → MatchResult r (λ _. Holds t certificate) (IsCertRefusal t certificate) →
    OnOk r (IsConsistent t → ⊥)
told_no_order t certificate (Ok x) trace told = not_consistent t (own_values t trace) certificate told
told_no_order t certificate (Err fault) trace told = tt

pub told_accepted : (t : TraceValue) (certificate : Certificate) (r : Result (Unit {0}) CertFault) → MatchResult r (λ _. Holds t certificate) (IsCertRefusal t certificate) →
    Holds t certificate → IsOk r
told_accepted t certificate (Ok x) told holds = refl
told_accepted t certificate (Err fault) told holds = absurd (not_refused t certificate fault holds told)

pub told_refused : (t : TraceValue) (certificate : Certificate) (r : Result (Unit {0}) CertFault) → MatchResult r (λ _. Holds t certificate) (IsCertRefusal t certificate) →
    IfErr r (IsCertRefusal t certificate)
told_refused t certificate (Ok x) told = tt
told_refused t certificate (Err fault) told = told

-- what the check answers of a certificate with a cycle, whose numbers are in range
pub told_of_cycle : (t : TraceValue) (certificate : Certificate) (steps : List CertStep) (cycle : List ℕ) (r : Result (Unit {0}) CertFault) → certificate ≡ Cycle steps cycle →
    IsInRange t certificate → MatchResult r (λ _. StepsHold t steps × IsCycle (λ x y. IsStep steps x y) cycle) (IsCycleRefusal t steps cycle) →
    MatchResult r (λ _. Holds t certificate) (IsCertRefusal t certificate)
told_of_cycle t certificate steps cycle (Ok x) is range told = rw is told
told_of_cycle t certificate steps cycle (Err fault) is range told = inr (range, rw is told)

-- what is told of a value that a call may answer
pub if_ok : {A E : Type 0} (P Q : A → Type 0) → ((a : A) → P a → Q a) → (r : Result A E) → IfOk r P → IfOk r Q
if_ok P Q more (Ok a) told = more a told
if_ok P Q more (Err e) told = tt

-- ---- one refusal at most

-- one step after the same steps has one fault at most
one_fault : (t : TraceValue) (earlier : List CertStep) (number : ℕ) (s : CertStep) (f g : CertFault) → HasFault t earlier number s f → HasFault t earlier number s g → f ≡ g
one_fault t earlier number s EventRange g has other = absurd has
one_fault t earlier number s NotUnwritten g has other = absurd has
one_fault t earlier number s (BaseRefused j) EventRange has other = absurd other
one_fault t earlier number s (BaseRefused j) NotUnwritten has other = absurd other
one_fault t earlier number s (BaseRefused j) (BaseRefused k) has other = ap BaseRefused (has.0 ∙ sym other.0)
one_fault t earlier number s (BaseRefused j) (SideRefused k) has other = absurd (other.1 has.1)
one_fault t earlier number s (BaseRefused j) (PathUnlisted k) has other = absurd (has.2 other.1)
one_fault t earlier number s (BaseRefused j) CycleUnlisted has other = absurd other
one_fault t earlier number s (BaseRefused j) EmptyCycle has other = absurd other
one_fault t earlier number s (SideRefused j) EventRange has other = absurd other
one_fault t earlier number s (SideRefused j) NotUnwritten has other = absurd other
one_fault t earlier number s (SideRefused j) (BaseRefused k) has other = absurd (has.1 other.1)
one_fault t earlier number s (SideRefused j) (SideRefused k) has other = ap SideRefused (has.0 ∙ sym other.0)
one_fault t earlier number s (SideRefused j) (PathUnlisted k) has other = absurd (has.2 other.1)
one_fault t earlier number s (SideRefused j) CycleUnlisted has other = absurd other
one_fault t earlier number s (SideRefused j) EmptyCycle has other = absurd other
one_fault t earlier number s (PathUnlisted j) EventRange has other = absurd other
one_fault t earlier number s (PathUnlisted j) NotUnwritten has other = absurd other
one_fault t earlier number s (PathUnlisted j) (BaseRefused k) has other = absurd (other.2 has.1)
one_fault t earlier number s (PathUnlisted j) (SideRefused k) has other = absurd (other.2 has.1)
one_fault t earlier number s (PathUnlisted j) (PathUnlisted k) has other = ap PathUnlisted (has.0 ∙ sym other.0)
one_fault t earlier number s (PathUnlisted j) CycleUnlisted has other = absurd other
one_fault t earlier number s (PathUnlisted j) EmptyCycle has other = absurd other
one_fault t earlier number s CycleUnlisted g has other = absurd has
one_fault t earlier number s EmptyCycle g has other = absurd has

-- two cycle faults are one
one_cycle_fault : (steps : List CertStep) (cycle : List ℕ) (f g : CertFault) → IsCycleFault steps cycle f → IsCycleFault steps cycle g → f ≡ g
one_cycle_fault steps cycle EventRange g has other = absurd has
one_cycle_fault steps cycle NotUnwritten g has other = absurd has
one_cycle_fault steps cycle (BaseRefused j) g has other = absurd has
one_cycle_fault steps cycle (SideRefused j) g has other = absurd has
one_cycle_fault steps cycle (PathUnlisted j) g has other = absurd has
one_cycle_fault steps cycle CycleUnlisted EventRange has other = absurd other
one_cycle_fault steps cycle CycleUnlisted NotUnwritten has other = absurd other
one_cycle_fault steps cycle CycleUnlisted (BaseRefused k) has other = absurd other
one_cycle_fault steps cycle CycleUnlisted (SideRefused k) has other = absurd other
one_cycle_fault steps cycle CycleUnlisted (PathUnlisted k) has other = absurd other
one_cycle_fault steps cycle CycleUnlisted CycleUnlisted has other = refl
one_cycle_fault steps cycle CycleUnlisted EmptyCycle has other = absurd (has.0 other)
one_cycle_fault steps cycle EmptyCycle EventRange has other = absurd other
one_cycle_fault steps cycle EmptyCycle NotUnwritten has other = absurd other
one_cycle_fault steps cycle EmptyCycle (BaseRefused k) has other = absurd other
one_cycle_fault steps cycle EmptyCycle (SideRefused k) has other = absurd other
one_cycle_fault steps cycle EmptyCycle (PathUnlisted k) has other = absurd other
one_cycle_fault steps cycle EmptyCycle CycleUnlisted has other = absurd (other.0 has)
one_cycle_fault steps cycle EmptyCycle EmptyCycle has other = refl

-- a step before the first one with a fault has none
not_earlier : (t : TraceValue) (steps : List CertStep) (f g : CertFault) (first : IsStepFault t steps f) (other : IsStepFault t steps g) → first.place < other.place → ⊥
not_earlier t steps f g first other before =
    fault_breaks t (take first.place steps) (suc first.place) first.step f (other.before first.place before first.step first.at) first.has

one_step_fault : (t : TraceValue) (steps : List CertStep) (f g : CertFault) → IsStepFault t steps f → IsStepFault t steps g → f ≡ g
one_step_fault t steps f g first other =
    ⊎_elim (λ before. absurd (not_earlier t steps f g first other before))
    (λ not_before. ⊎_elim (λ after. absurd (not_earlier t steps g f other first after))
    (λ not_after.
    let place : other.place ≡ first.place = omega arith in
    let at : slice_get steps first.place ≡ Some other.step = ap (slice_get steps) (sym place) ∙ other.at in
    let same : Some other.step ≡ Some first.step = sym at ∙ first.at in
    let one : other.step ≡ first.step = cc in
    let has : HasFault t (take first.place steps) (suc first.place) first.step g =
    subst (λ k. HasFault t (take k steps) (suc k) first.step g) place (subst (λ s. HasFault t (take other.place steps) (suc other.place) s g) one other.has) in
    one_fault t (take first.place steps) (suc first.place) first.step f g first.has has)
    (cases_lt other.place first.place))
    (cases_lt first.place other.place)

one_cycle_refusal : (t : TraceValue) (steps : List CertStep) (cycle : List ℕ) (f g : CertFault) → IsCycleRefusal t steps cycle f → IsCycleRefusal t steps cycle g → f ≡ g
one_cycle_refusal t steps cycle f g first other =
    ⊎_elim
    (λ step. ⊎_elim (λ also. one_step_fault t steps f g step also) (λ hold. absurd (no_step_fault t steps f hold.0 step)) other)
    (λ hold. ⊎_elim (λ step. absurd (no_step_fault t steps g hold.0 step)) (λ also. one_cycle_fault steps cycle f g hold.1 also.1) other)
    first

one_in_range : (t : TraceValue) (certificate : Certificate) (f g : CertFault) → IsRefusalInRange t certificate f → IsRefusalInRange t certificate g → f ≡ g
one_in_range t (Unwritten n) f g first other = first.0 ∙ sym other.0
one_in_range t (Cycle steps cycle) f g first other = one_cycle_refusal t steps cycle f g first other

pub one_refusal : (t : TraceValue) (certificate : Certificate) (f g : CertFault) → IsCertRefusal t certificate f → IsCertRefusal t certificate g → f ≡ g
one_refusal t certificate f g first other =
    ⊎_elim
    (λ range. ⊎_elim (λ also. range.0 ∙ sym also.0) (λ within. absurd (range.1 within.0)) other)
    (λ within. ⊎_elim (λ range. absurd (range.1 within.0)) (λ also. one_in_range t certificate f g within.1 also.1) other)
    first
