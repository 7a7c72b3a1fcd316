-- Lemmas on runs of the store-buffer machine: their parts in order, and which buffers they leave empty.
use Rattle.std.proofs.Common.{◌≡◌, ◌∙◌, sym, ap, refl, subst, ℕ, zero, suc, ◌<◌, ◌≤◌, inl, inr, cond, Option, None, Some, List, [], ◌∷◌, ◌++◌, get_or, replicate, slice_get, eq-eqb, arith}
use Rattle.std.specs.List.{remove, cons_option}
use Rattle.std.proofs.lemmas.List.{get_or-set_other}
use Rattle.std.proofs.lemmas.Bool.{cases_lt}
use Rattle.tso_ops.specs.declared.settings.Order.{Order}
use Rattle.tso_ops.specs.declared.settings.Order.TheVariants.{Tso, Pso}
use Rattle.unit_core.specs.declared.steps.Step.{Step}
use Rattle.unit_core.specs.declared.steps.Step.TheVariants.{Store, Drain, DrainAt, Load, Swap, Membar, Stbar}
use Rattle.unit_core.specs.Machine.{Entry, State, HasProcessors, IsAllowed, IsRunFrom, after, buffer_of, first_state, next, oldest_of, outcome_for, outcome_of, outcomes_of, proc_of, written}
use Rattle.unit_core.specs.Units.{AreDrains}

pub after-append : (s : State) (xs ys : List Step) → after s (xs ++ ys) ≡ after (after s xs) ys
after-append s [] ys = refl
after-append s (x ∷ xs) ys = after-append (next s x) xs ys

pub IsRunFrom-append : (order : Order) (s : State) (xs ys : List Step) → IsRunFrom order s xs → IsRunFrom order (after s xs) ys → IsRunFrom order s (xs ++ ys)
IsRunFrom-append order s [] ys first second = second
IsRunFrom-append order s (x ∷ xs) ys first second = (first.0, IsRunFrom-append order (next s x) xs ys first.1 second)

-- each step that the TSO machine allows the PSO machine allows
IsAllowed-pso : (s : State) (step : Step) → IsAllowed Tso s step → IsAllowed Pso s step
IsAllowed-pso s (Store p a v) allowed = allowed
IsAllowed-pso s (Drain p) allowed = allowed
IsAllowed-pso s (DrainAt p a) allowed = let e : Tso ≡ Pso = allowed.1 in absurd cc
IsAllowed-pso s (Load p a r) allowed = allowed
IsAllowed-pso s (Swap p a r v) allowed = allowed
IsAllowed-pso s (Membar p) allowed = allowed
IsAllowed-pso s (Stbar p) allowed = allowed

pub IsRunFrom-pso : (s : State) (steps : List Step) → IsRunFrom Tso s steps → IsRunFrom Pso s steps
IsRunFrom-pso s [] run = tt
IsRunFrom-pso s (step ∷ steps) run = (IsAllowed-pso s step run.0, IsRunFrom-pso (next s step) steps run.1)

-- an entry that leaves one buffer leaves the others
written-other : (s : State) (p q : ℕ) (entry : Option Entry) (rest : List Entry) → (q ≡ p → ⊥) → buffer_of (written s p entry rest) q ≡ buffer_of s q
written-other s p q None rest other = refl
written-other s p q (Some e) rest other = get_or-set_other s.buffers p q rest [] other

-- a step changes the buffer of its processor alone
pub next-other : (s : State) (step : Step) (q : ℕ) → (q ≡ proc_of step → ⊥) → buffer_of (next s step) q ≡ buffer_of s q
next-other s (Store p a v) q other = get_or-set_other s.buffers p q _ [] other
next-other s (Drain p) q other = written-other s p q (slice_get (buffer_of s p) 0) (remove (buffer_of s p) 0) other
next-other s (DrainAt p a) q other =
    written-other s p q (slice_get (buffer_of s p) (oldest_of (buffer_of s p) a)) (remove (buffer_of s p) (oldest_of (buffer_of s p) a)) other
next-other s (Load p a r) q other = refl
next-other s (Swap p a r v) q other = refl
next-other s (Membar p) q other = refl
next-other s (Stbar p) q other = refl

-- drains of p and later processors leave the earlier buffers
pub after-drains : (s : State) (least past q : ℕ) (steps : List Step) → AreDrains least past steps → q < least → buffer_of (after s steps) q ≡ buffer_of s q
after-drains s least past q [] drains before = refl
after-drains s least past q (step ∷ steps) drains before =
    after-drains (next s step) (proc_of step) past q steps drains.3 (omega (arith, drains.1)) ∙ next-other s step q (λ e. absurd (omega (arith, drains.1, e)))

-- a drain isn't allowed where the buffer of its processor is empty
not_drained : (order : Order) (s : State) (step : Step) → buffer_of s (proc_of step) ≡ [] → outcome_of step ≡ None → IsAllowed order s step → ⊥
not_drained order s (Store p a v) empty none allowed = absurd cc
not_drained order s (Drain p) empty none allowed =
    let e : slice_get [] 0 ≡ Some allowed.1.0 = subst (λ b. slice_get b 0 ≡ Some allowed.1.0) empty allowed.1.1 in absurd cc
not_drained order s (DrainAt p a) empty none allowed =
    let e : slice_get [] (oldest_of (buffer_of s p) a) ≡ Some allowed.2.0 =
    subst (λ b. slice_get b (oldest_of (buffer_of s p) a) ≡ Some allowed.2.0) empty allowed.2.1 in
    absurd cc
not_drained order s (Load p a r) empty none allowed = absurd cc
not_drained order s (Swap p a r v) empty none allowed = absurd cc
not_drained order s (Membar p) empty none allowed = absurd cc
not_drained order s (Stbar p) empty none allowed = absurd cc

cons_none : {X : Type 0} (o : Option X) (xs : List X) → cons_option o xs ≡ [] → (o ≡ None) × (xs ≡ [])
cons_none None xs e = (refl, e)
cons_none (Some x) xs e = absurd cc

-- the processors from `count` on are answered nothing and have empty buffers: so all steps are of those below
pub runs_below : (order : Order) (count : ℕ) (s : State) (steps : List Step) → IsRunFrom order s steps → ((p : ℕ) → count ≤ p → outcomes_of p steps ≡ []) →
    ((p : ℕ) → count ≤ p → buffer_of s p ≡ []) → HasProcessors count steps × ((p : ℕ) → count ≤ p → buffer_of (after s steps) p ≡ [])
runs_below order count s [] run none empty = (tt, empty)
runs_below order count s (step ∷ steps) run none empty =
    let p = proc_of step in
    let here : p < count =
    elim (cases_lt p count) [
      | inl below ↦ below
      | inr past ↦
          let own : outcome_for p step ≡ outcome_of step = ap (λ b. cond b (outcome_of step) None) (eq-eqb p p refl) in
          absurd (not_drained order s step (empty p past) (sym own ∙ (cons_none (outcome_for p step) (outcomes_of p steps) (none p past)).0) run.0)
    ] in
    let rest =
    runs_below order count (next s step) steps run.1 (λ q past. (cons_none (outcome_for q step) (outcomes_of q steps) (none q past)).1)
    (λ q past. next-other s step q (λ e. absurd (omega (arith, here, e, past))) ∙ empty q past) in
    ((here, rest.0), rest.1)

same_or : {X : Type 0} (n p : ℕ) (x : X) → get_or (replicate n x) p x ≡ x
same_or zero p x = refl
same_or (suc n) zero x = refl
same_or (suc n) (suc p) x = same_or n p x

-- at first all buffers are empty
pub first-empty : (memory : List ℕ) (p : ℕ) → buffer_of (first_state memory) p ≡ []
first-empty memory p = same_or 16 p []
