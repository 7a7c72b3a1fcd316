-- What a step of a run says to a log, and what steps of the machine of units answer for it.
use Rattle.std.proofs.Common.{◌≡◌, ◌∙◌, sym, ap, refl, ℕ, Bool, true, false, cond, None, List, [], ◌∷◌, filter_map, if◌then◌else◌, eq-eqb, ne_eqb}
use Rattle.std.specs.List.{AllByRecursion, cons_option}
use Rattle.tso_ops.specs.declared.ops.Outcome.{Outcome}
use Rattle.tso_ops.specs.declared.ops.Outcome.TheVariants.{Ld, St, Sw, Mb, Sb}
use Rattle.tso_ops.specs.declared.settings.Order.{Order}
use Rattle.run_steps.specs.declared.steps.RunStep.{RunStep}
use Rattle.run_steps.specs.declared.steps.RunStep.TheVariants.{Load, Store, Drain, Write, Swap, Reserve, StoreReserved, Membar, Stbar, Unknown, Last}
use Rattle.run_steps.specs.Machine.{MachineState}
use Rattle.log_text.specs.declared.lines.LogLine.{LogLine}
use Rattle.log_text.specs.declared.lines.LogLine.TheVariants as said
use Rattle.unit_core.specs.declared.steps.Step.{Step}
use Rattle.unit_core.specs.Machine.{State, after, outcome_of, outcomes_of, proc_of}
use Rattle.embedding.specs.Sizes.{Sizes, IsRunIn}
use Rattle.run_orders.proofs.Matching.{Matches}
use Rattle.run_orders.proofs.Waiting.{is_known}

-- the line says something to a log: that a store reached memory, and what memory holds, don't
abbrev pub is_said : LogLine → Bool
is_said said.Note = false
is_said said.Pso = false
is_said (said.First a v) = false
is_said (said.Issued p x) = true
is_said (said.Unknown p a) = true
is_said said.Memory = false
is_said said.End = false

-- the operation, where its location is known
abbrev pub when_known : Bool → Outcome → List Outcome
when_known b o = if b then o ∷ [] else []

-- the operation that a step says to a log
abbrev pub outcomes_told : List ℕ → RunStep → List Outcome
outcomes_told unknown (Load place v) = when_known (is_known unknown place.address) (Ld place.address v)
outcomes_told unknown (Store place v) = when_known (is_known unknown place.address) (St place.address v)
outcomes_told unknown (Drain at v) = []
outcomes_told unknown (Write place v) = when_known (is_known unknown place.address) (St place.address v)
outcomes_told unknown (Swap place r v) = when_known (is_known unknown place.address) (Sw place.address r v)
outcomes_told unknown (Reserve place v) = when_known (is_known unknown place.address) (Ld place.address v)
outcomes_told unknown (StoreReserved place v) = when_known (is_known unknown place.address) (St place.address v)
outcomes_told unknown Membar = Mb ∷ []
outcomes_told unknown Stbar = Sb ∷ []
outcomes_told unknown (Unknown place) = []
outcomes_told unknown (Last place v) = []

-- Steps of processor p on the machine of units that answer this, and lead to what the state of the run is before the line of this number.
pub record Matched (z : Sizes) (unknown : List ℕ) (order : Order) (line : ℕ) (t : MachineState) (u : State) (p : ℕ) (said : List Outcome) : Type 0 where
  pub steps : List Step
  pub run : IsRunIn z order u steps
  pub own : AllByRecursion (λ step. proc_of step ≡ p) steps
  pub answers : filter_map outcome_of steps ≡ said
  pub matches : Matches z unknown line t (after u steps)

-- what the steps answer their processor and the others
pub outcomes_own : (p : ℕ) (steps : List Step) → AllByRecursion (λ step. proc_of step ≡ p) steps → outcomes_of p steps ≡ filter_map outcome_of steps
outcomes_own p [] own = refl
outcomes_own p (step ∷ steps) own =
    ap (λ b. cons_option (cond b (outcome_of step) None) (outcomes_of p steps)) (eq-eqb (proc_of step) p own.0)
    ∙ ap (cons_option (outcome_of step)) (outcomes_own p steps own.1)

pub outcomes_others : (p q : ℕ) (steps : List Step) → (p ≡ q → ⊥) → AllByRecursion (λ step. proc_of step ≡ p) steps → outcomes_of q steps ≡ []
outcomes_others p q [] other own = refl
outcomes_others p q (step ∷ steps) other own =
    ap (λ b. cons_option (cond b (outcome_of step) None) (outcomes_of q steps)) (ne_eqb (proc_of step) q (λ same. other (sym own.0 ∙ same)))
    ∙ outcomes_others p q steps other own.1
