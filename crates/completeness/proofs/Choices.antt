-- A step that may be taken next: one that issues the first operation that is left of a processor, or a drain.
use Rattle.std.proofs.Common.{◌≡◌, ◌∙◌, ◌⊎◌, inl, inr, refl, sym, ap, subst, ℕ, suc, ◌+◌, ◌<◌, Option, None, Some, List, [], ◌∷◌, ◌++◌, length, arith}
use Rattle.std.specs.List.{cons_option}
use Rattle.std.proofs.lemmas.Bool.{cases_eq}
use Rattle.std.proofs.lemmas.List.{length-append}
use Rattle.tso_ops.specs.declared.settings.Order.{Order}
use Rattle.tso_ops.specs.declared.ops.Outcome.{Outcome}
use Rattle.tso_ops.specs.Values.{TraceValue}
use Rattle.unit_core.specs.declared.steps.Step.{Step}
use Rattle.unit_core.specs.declared.steps.Step.TheVariants.{Drain}
use Rattle.unit_core.specs.Machine.{State, IsAllowed, buffer_of, outcome_for, outcome_of, outcomes_of, proc_of, stbars_of}
use Rattle.embedding.specs.RunOrder.{Numbering, ordered_by}
use Rattle.embedding.proofs.Moments.{IsMoment, IsNumbered, outcomes-other, outcomes-own}

-- the step is allowed, and these are the steps and the events of memory's order that are left after it
pub record Choice (order : Order) (count : ℕ) (numberings : ℕ → Numbering) (s : State) (left : List Step) (later : List ℕ) : Type 0 where
  pub step : Step
  pub fewer : List Step
  pub rest : List ℕ
  pub allowed : IsAllowed order s step
  pub below : proc_of step < count
  pub alike : (q : ℕ) → outcomes_of q left ≡ outcomes_of q (step ∷ fewer)
  pub parts : later ≡ ordered_by (numberings (proc_of step)) s step ++ rest
  pub less : length fewer + length rest < length left + length later

-- a moment depends on the outcomes of the steps that are left
pub moment-alike : (t : TraceValue) (count : ℕ) (past : ℕ → ℕ) (numberings : ℕ → Numbering) (s : State) (done : List ℕ) (left other : List Step) →
    ((q : ℕ) → outcomes_of q left ≡ outcomes_of q other) → IsMoment t count past numberings s done left → IsMoment t count past numberings s done other
moment-alike t count past numberings s done left other same moment = record {
  sizes = moment.sizes;
  numbered = λ p below.
      subst (λ ops. IsNumbered t p (numberings p) (buffer_of s p) (stbars_of s p) ops (past p)) (same p) (moment.numbered p below);
  listed = moment.listed;
  others = moment.others;
  memory = moment.memory;
}

pub own_first : (p : ℕ) (x : Step) (steps : List Step) → proc_of x ≡ p → outcomes_of p (x ∷ steps) ≡ cons_option (outcome_of x) (outcomes_of p steps)
own_first p x steps same = subst (λ q. outcomes_of q (x ∷ steps) ≡ cons_option (outcome_of x) (outcomes_of q steps)) same (outcomes-own x steps)

-- a step without an answer doesn't count
pub unanswered : (x : Step) (steps : List Step) → outcome_of x ≡ None → (q : ℕ) → outcomes_of q (x ∷ steps) ≡ outcomes_of q steps
unanswered x steps none q = elim (cases_eq (proc_of x) q) [
  | inl same ↦ own_first q x steps same ∙ ap (λ o. cons_option o (outcomes_of q steps)) none
  | inr other ↦ outcomes-other x steps q other
]

-- these are the steps without the first operation of p
abbrev IsWithout : ℕ → List Outcome → List Step → List Step → Type 0
IsWithout p rest left fewer =
    (outcomes_of p fewer ≡ rest) × ((q : ℕ) → (p ≡ q → ⊥) → outcomes_of q fewer ≡ outcomes_of q left) × (length left ≡ suc (length fewer))

taken_out : (p : ℕ) (o : Outcome) (rest : List Outcome) (left : List Step) → outcomes_of p left ≡ o ∷ rest → (fewer : List Step) × IsWithout p rest left fewer
taken_out p o rest [] is = absurd cc
taken_out p o rest (x ∷ left) is = by_processor (cases_eq (proc_of x) p) (λ h. taken_out p o rest left h)
  where
    skip : ((steps : List Step) → outcomes_of p (x ∷ steps) ≡ outcomes_of p steps) → (outcomes_of p left ≡ o ∷ rest → (fewer : List Step) × IsWithout p rest left fewer) →
        (fewer : List Step) × IsWithout p rest (x ∷ left) fewer
    skip skips inner =
        let found = inner (sym (skips left) ∙ is) in
        (x ∷ found.0, (skips found.0 ∙ found.1.0, (λ q other. ap (cons_option (outcome_for q x)) (found.1.1 q other)), ap suc found.1.2))

    by_outcome : proc_of x ≡ p → (h : Option Outcome) → outcome_of x ≡ h → (outcomes_of p left ≡ o ∷ rest → (fewer : List Step) × IsWithout p rest left fewer) →
        (fewer : List Step) × IsWithout p rest (x ∷ left) fewer
    by_outcome same None out inner = skip (λ steps. unanswered x steps out p) inner
    by_outcome same (Some y) out inner =
        let here : outcomes_of p (x ∷ left) ≡ y ∷ outcomes_of p left = own_first p x left same ∙ ap (λ h. cons_option h (outcomes_of p left)) out in
        let both : y ∷ outcomes_of p left ≡ o ∷ rest = sym here ∙ is in
        let tail : outcomes_of p left ≡ rest = cc in
        (left, (tail, (λ q other. sym (outcomes-other x left q (λ equal. other (sym same ∙ equal)))), refl))

    by_processor : (proc_of x ≡ p) ⊎ (proc_of x ≡ p → ⊥) → (outcomes_of p left ≡ o ∷ rest → (fewer : List Step) × IsWithout p rest left fewer) →
        (fewer : List Step) × IsWithout p rest (x ∷ left) fewer
    by_processor (inl same) inner = by_outcome same (outcome_of x) refl inner
    by_processor (inr other) inner = skip (λ steps. outcomes-other x steps p other) inner

module _ (order : Order) (count : ℕ) (numberings : ℕ → Numbering) (s : State) (left : List Step) (later : List ℕ) where
  -- the step that issues the first operation of its processor
  pub issue : (step : Step) (o : Outcome) (ops : List Outcome) → outcome_of step ≡ Some o → outcomes_of (proc_of step) left ≡ o ∷ ops → proc_of step < count →
      IsAllowed order s step → (rest : List ℕ) → later ≡ ordered_by (numberings (proc_of step)) s step ++ rest → Choice order count numberings s left later
  issue step o ops out is below allowed rest parts =
      let p = proc_of step in
      let found = taken_out p o ops left is in
      record {
        step = step;
        fewer = found.0;
        rest = rest;
        allowed = allowed;
        below = below;
        alike = λ q. elim (cases_eq p q) [
          | inl same ↦ (
              let own : outcomes_of p (step ∷ found.0) ≡ o ∷ ops =
              outcomes-own step found.0 ∙ ap (λ h. cons_option h (outcomes_of p found.0)) out ∙ ap (λ tail. o ∷ tail) found.1.0 in
              subst (λ r. outcomes_of r left ≡ outcomes_of r (step ∷ found.0)) same (is ∙ sym own)
              )
          | inr other ↦ sym (outcomes-other step found.0 q other ∙ found.1.1 q other)
        ];
        parts = parts;
        less = omega (arith, found.1.2, ap length parts, length-append (ordered_by (numberings p) s step) rest);
      }

  -- a drain of the oldest entry
  pub drain : (p n : ℕ) (rest : List ℕ) → p < count → IsAllowed order s (Drain p) → ordered_by (numberings p) s (Drain p) ≡ n ∷ [] → later ≡ n ∷ rest →
      Choice order count numberings s left later
  drain p n rest below allowed takes parts = record {
    step = Drain p;
    fewer = left;
    rest = rest;
    allowed = allowed;
    below = below;
    alike = λ q. sym (unanswered (Drain p) left refl q);
    parts = parts ∙ sym (ap (λ first. first ++ rest) takes);
    less = omega (arith, ap length parts);
  }
