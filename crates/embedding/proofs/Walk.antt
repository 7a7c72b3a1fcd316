-- A run from a moment on: what holds of each event that memory takes, and what holds at the end.
use Rattle.std.proofs.Common.{◌≡◌, ◌∙◌, inl, inr, sym, subst, ℕ, ◌<◌, List, [], ◌∷◌, ◌++◌, append_assoc, arith}
use Rattle.std.proofs.lemmas.Bool.{cases_lt}
use Rattle.std.proofs.lemmas.List.{append-nil}
use Rattle.tso_ops.specs.declared.settings.Order.{Order}
use Rattle.tso_ops.specs.Values.{TraceValue}
use Rattle.tso_model.specs.Axioms.{occurrences}
use Rattle.tso_model.proofs.Places.{occurrences-append}
use Rattle.unit_core.specs.declared.steps.Step.{Step}
use Rattle.unit_core.specs.Machine.{State, HasProcessors, after, next, proc_of}
use Rattle.embedding.specs.Sizes.{Sizes, IsAllowedIn, IsRunIn}
use Rattle.embedding.specs.RunOrder.{Numbering, numberings_after, order_from, ordered_by}
use Rattle.embedding.proofs.Moments.{IsMomentIn}
use Rattle.embedding.proofs.Steps.{next_moment_in}

-- The fact holds of each event that memory takes at a step of the run whose order this is.
pub record HoldsWhereTaken (z : Sizes) (t : TraceValue) (count : ℕ) (past : ℕ → ℕ) (order : Order) (whole : List ℕ) (Q : ℕ → Type 0) : Type 0 where
  pub at_step : (numberings : ℕ → Numbering) (s : State) (done : List ℕ) (step : Step) (left : List Step) (later : List ℕ) → IsAllowedIn z order s step →
      proc_of step < count → IsMomentIn z t count past numberings s done (step ∷ left) → whole ≡ done ++ (ordered_by (numberings (proc_of step)) s step ++ later) →
      (n : ℕ) → 0 < occurrences n (ordered_by (numberings (proc_of step)) s step) → Q n

module _ (z : Sizes) (t : TraceValue) (count : ℕ) (past : ℕ → ℕ) (order : Order) where
  -- it holds of all events that are taken from a moment on
  pub walk : (whole : List ℕ) (Q : ℕ → Type 0) → HoldsWhereTaken z t count past order whole Q →
      (numberings : ℕ → Numbering) (s : State) (done : List ℕ) (left : List Step) →
      IsRunIn z order s left → HasProcessors count left → IsMomentIn z t count past numberings s done left → whole ≡ done ++ order_from numberings s left →
      (n : ℕ) → 0 < occurrences n (order_from numberings s left) → Q n
  walk whole Q holds numberings s done [] run processors moment is n listed = absurd (omega (arith, listed))
  walk whole Q holds numberings s done (step ∷ left) run processors moment is n listed =
      let taken = ordered_by (numberings (proc_of step)) s step in
      let later = order_from (numberings_after numberings s step) (next s step) left in
      elim (cases_lt 0 (occurrences n taken)) [
        | inl here ↦ holds.at_step numberings s done step left later run.0 processors.0 moment is n here
        | inr unlisted ↦
            walk whole Q holds (numberings_after numberings s step) (next s step) (done ++ taken) left run.1 processors.1
            (next_moment_in z t count past order numberings s done step left run.0 processors.0 moment) (is ∙ sym (append_assoc done taken later)) n
            (omega (arith, listed, unlisted, occurrences-append n taken later))
      ]

  -- the moment after the last step, where all of the order is listed
  pub last_moment : (numberings : ℕ → Numbering) (s : State) (done : List ℕ) (left : List Step) → IsRunIn z order s left → HasProcessors count left →
      IsMomentIn z t count past numberings s done left → (last : ℕ → Numbering) × IsMomentIn z t count past last (after s left) (done ++ order_from numberings s left) []
  last_moment numberings s done [] run processors moment = (numberings, subst (λ list. IsMomentIn z t count past numberings s list []) (sym (append-nil done)) moment)
  last_moment numberings s done (step ∷ left) run processors moment =
      let taken = ordered_by (numberings (proc_of step)) s step in
      let later = order_from (numberings_after numberings s step) (next s step) left in
      let rest = last_moment (numberings_after numberings s step) (next s step) (done ++ taken) left run.1 processors.1
      (next_moment_in z t count past order numberings s done step left run.0 processors.0 moment) in
      (rest.0, subst (λ list. IsMomentIn z t count past rest.0 (after (next s step) left) list []) (append_assoc done taken later) rest.1)
