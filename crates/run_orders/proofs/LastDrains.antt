-- Drains that empty all buffers.
use Rattle.std.proofs.Common.{◌≡◌, ◌∙◌, sym, ap, refl, subst, inl, inr, ℕ, zero, suc, ◌<◌, ◌≤◌, Bool, true, false, cond, ◌==◌, Option, None, Some, List, [], ◌∷◌, ◌++◌, slice_get, arith}
use Rattle.std.specs.List.{AllByRecursion, cons_option, remove}
use Rattle.std.proofs.lemmas.Bool.{cases_eq, cases_lt}
use Rattle.std.proofs.lemmas.List.{get_or-set_same, get_or_past}
use Rattle.tso_ops.specs.declared.ops.Outcome.{Outcome}
use Rattle.tso_ops.specs.declared.settings.Order.{Order}
use Rattle.unit_core.specs.declared.steps.Step.{Step}
use Rattle.unit_core.specs.declared.steps.Step.TheVariants.{Store, Drain, DrainAt, Load, Swap, Membar, Stbar}
use Rattle.unit_core.specs.Machine.{Entry, State, HasProcessors, after, buffer_of, next, outcome_of, outcomes_of, proc_of}
use Rattle.unit_core.proofs.RunFacts.{after-append, next-other}
use Rattle.embedding.specs.Sizes.{Sizes, IsAllowedIn, IsRunIn}
use Rattle.embedding.proofs.Moments.{HasSizes, drained-is, next-sizes}
use Rattle.run_orders.proofs.Lists.{all-append}

pub run-append : (z : Sizes) (order : Order) (u : State) (xs ys : List Step) → IsRunIn z order u xs → IsRunIn z order (after u xs) ys → IsRunIn z order u (xs ++ ys)
run-append z order u [] ys first second = second
run-append z order u (x ∷ xs) ys first second = (first.0, run-append z order (next u x) xs ys first.1 second)

-- a step that is allowed is one of a processor that has a buffer
allowed_within : (z : Sizes) (order : Order) (u : State) (step : Step) → IsAllowedIn z order u step → proc_of step < z.buffers
allowed_within z order u (Store p a v) allowed = allowed.0
allowed_within z order u (Drain p) allowed = allowed.0
allowed_within z order u (DrainAt p a) allowed = allowed.0
allowed_within z order u (Load p a r) allowed = allowed.0
allowed_within z order u (Swap p a r v) allowed = allowed.0
allowed_within z order u (Membar p) allowed = allowed.0
allowed_within z order u (Stbar p) allowed = allowed

pub run_within : (z : Sizes) (order : Order) (u : State) (steps : List Step) → IsRunIn z order u steps → HasProcessors z.buffers steps
run_within z order u [] run = tt
run_within z order u (step ∷ steps) run = (allowed_within z order u step run.0, run_within z order (next u step) steps run.1)

-- steps that answer nothing
pub silent_outcomes : (q : ℕ) (steps : List Step) → AllByRecursion (λ step. outcome_of step ≡ None) steps → outcomes_of q steps ≡ []
silent_outcomes q [] silent = refl
silent_outcomes q (step ∷ steps) silent =
    let here : cond (proc_of step == q) (outcome_of step) None ≡ None = either (proc_of step == q) (outcome_of step) silent.0 in
    ap (λ o. cons_option o (outcomes_of q steps)) here ∙ silent_outcomes q steps silent.1
  where
    either : (b : Bool) (o : Option Outcome) → o ≡ None → cond b o None ≡ None
    either true o e = e
    either false o e = refl

-- Steps that answer nothing, after which the buffers of these processors are empty, and those of others are as before.
pub record Emptied (z : Sizes) (order : Order) (u : State) (among : ℕ → Type 0) : Type 0 where
  pub steps : List Step
  pub run : IsRunIn z order u steps
  pub silent : AllByRecursion (λ step. outcome_of step ≡ None) steps
  pub sizes : HasSizes z (after u steps)
  pub empty : (q : ℕ) → among q → buffer_of (after u steps) q ≡ []
  pub others : (q : ℕ) → (among q → ⊥) → buffer_of (after u steps) q ≡ buffer_of u q

module _ (z : Sizes) (order : Order) where
  -- one processor
  empty_one : (p : ℕ) → p < z.buffers → (buffer : List Entry) (u : State) → buffer_of u p ≡ buffer → HasSizes z u → Emptied z order u (λ q. q ≡ p)
  empty_one p within [] u is sizes = record {
    steps = [];
    run = tt;
    silent = tt;
    sizes = sizes;
    empty = λ q same. ap (buffer_of u) same ∙ is;
    others = λ q other. refl;
  }
  empty_one p within (e ∷ buffer) u is sizes =
      let there : slice_get (buffer_of u p) 0 ≡ Some e = ap (λ b. slice_get b 0) is in
      let allowed : IsAllowedIn z order u (Drain p) = (within, (e, there)) in
      let one = next u (Drain p) in
      let left : buffer_of one p ≡ buffer =
      ap (λ (v : State). buffer_of v p) (drained-is u p 0 e there)
      ∙ get_or-set_same u.buffers p (remove (buffer_of u p) 0) [] (omega (arith, within, sizes.buffers)) ∙ ap (λ b. remove b 0) is in
      let rest = empty_one p within buffer one left (next-sizes z order u (Drain p) allowed sizes) in
      record {
        steps = Drain p ∷ rest.steps;
        run = (allowed, rest.run);
        silent = (refl, rest.silent);
        sizes = rest.sizes;
        empty = rest.empty;
        others = λ q other. rest.others q other ∙ next-other u (Drain p) q other;
      }

  -- those below a number
  empty_below : (count : ℕ) → count ≤ z.buffers → (u : State) → HasSizes z u → Emptied z order u (λ q. q < count)
  empty_below zero within u sizes = record { steps = []; run = tt; silent = tt; sizes = sizes; empty = λ q small. absurd (omega (arith, small)); others = λ q other. refl }
  empty_below (suc count) within u sizes =
      let first = empty_below count (omega (arith, within)) u sizes in
      let one = after u first.steps in
      let last = empty_one count (omega (arith, within)) (buffer_of one count) one refl first.sizes in
      let is = after-append u first.steps last.steps in
      record {
        steps = first.steps ++ last.steps;
        run = run-append z order u first.steps last.steps first.run last.run;
        silent = all-append (λ step. outcome_of step ≡ None) first.steps last.steps first.silent last.silent;
        sizes = subst (HasSizes z) (sym is) last.sizes;
        empty = λ q small. ap (λ (v : State). buffer_of v q) is ∙ elim (cases_eq q count) [
          | inl same ↦ last.empty q same
          | inr other ↦ last.others q other ∙ first.empty q (omega (arith, small, other))
        ];
        others = λ q past. ap (λ (v : State). buffer_of v q) is ∙ last.others q (λ same. past (omega (arith, same)))
            ∙ first.others q (λ small. past (omega (arith, small)));
      }

  -- all
  pub empty_all : (u : State) → HasSizes z u → Emptied z order u (λ q. Unit {0})
  empty_all u sizes =
      let below = empty_below z.buffers (omega arith) u sizes in
      record {
        steps = below.steps;
        run = below.run;
        silent = below.silent;
        sizes = below.sizes;
        empty = λ q any. elim (cases_lt q z.buffers) [
          | inl small ↦ below.empty q small
          | inr past ↦ get_or_past (after u below.steps).buffers q [] (omega (arith, past, below.sizes.buffers))
        ];
        others = λ q none. absurd (none tt);
      }
