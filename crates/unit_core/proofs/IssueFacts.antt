-- Each operation of a program can be issued, and a unit that takes its steps was asked for it.
use Rattle.std.proofs.Common.{◌≡◌, ◌∙◌, ap, refl, ℕ, zero, suc, ◌<◌, ◌==◌, true, false, cond, eq-eqb, arith, None, Some, List, [], ◌∷◌, ◌++◌, get_or, All}
use Rattle.std.specs.List.{flat_map, AllByRecursion}
use Rattle.std.specs.Option.{option_to_list}
use Rattle.std.proofs.lemmas.Bool.Decides.{nat_tests}
use Rattle.std.proofs.lemmas.List.{append-nil}
use Rattle.std.proofs.lemmas.List.Elements.{recursion_from_All, All-from_recursion}
use Rattle.tso_ops.specs.declared.ops.Op.{Op}
use Rattle.tso_ops.specs.declared.ops.Op.TheVariants.{Ld, St, Sw, Mb, Sb}
use Rattle.tso_ops.specs.declared.ops.Outcome.{Outcome}
use Rattle.tso_ops.specs.declared.ops.Outcome.TheVariants.{Ld as OutcomeLd, St as OutcomeSt, Sw as OutcomeSw, Mb as OutcomeMb, Sb as OutcomeSb}
use Rattle.tso_ops.specs.Limits.{IsProgram, addresses_of, stored_values}
use Rattle.tso_ops.specs.Values.{ProgramValue, ops_at}
use Rattle.unit_core.specs.Issues.{IsIssuable, step_of}
use Rattle.unit_core.specs.Machine.{outcome_for, outcome_of, outcomes_of, proc_of}
use Rattle.unit_core.specs.Units.{Takes, UnitValue}
use Rattle.unit_core.proofs.OutcomeFacts.{outcomes-taken}

-- addresses in range and values that aren't 0 make operations that can be issued
issuable : (ops : List Op) → AllByRecursion (λ a. a < 256) (addresses_of ops) → AllByRecursion (λ v. 0 < v) (stored_values ops) → AllByRecursion IsIssuable ops
issuable [] addresses values = tt
issuable (Ld a ∷ ops) addresses values = (addresses.0, issuable ops addresses.1 values)
issuable (St a v ∷ ops) addresses values = ((addresses.0, values.0), issuable ops addresses.1 values.1)
issuable (Sw a v ∷ ops) addresses values = ((addresses.0, values.0), issuable ops addresses.1 values.1)
issuable (Mb ∷ ops) addresses values = (tt, issuable ops addresses values)
issuable (Sb ∷ ops) addresses values = (tt, issuable ops addresses values)

first_part : {X : Type 0} (P : X → Type 0) (xs ys : List X) → AllByRecursion P (xs ++ ys) → AllByRecursion P xs × AllByRecursion P ys
first_part P [] ys all = (tt, all)
first_part P (x ∷ xs) ys all = let rest = first_part P xs ys all.1 in ((all.0, rest.0), rest.1)

of_list : {X : Type 0} (P : X → Type 0) (lists : List (List X)) (p : ℕ) → AllByRecursion P (flat_map (λ xs. xs) lists) → AllByRecursion P (get_or lists p [])
of_list P [] p all = tt
of_list P (xs ∷ lists) zero all = (first_part P xs (flat_map (λ ys. ys) lists) all).0
of_list P (xs ∷ lists) (suc p) all = of_list P lists p (first_part P xs (flat_map (λ ys. ys) lists) all).1

-- what a processor of a program issues a unit takes
pub ops-issuable : (program : ProgramValue) (p : ℕ) → IsProgram program → All IsIssuable (ops_at program p)
ops-issuable program p kept =
    All-from_recursion IsIssuable (ops_at program p)
    (of_list IsIssuable program.lists p
    (issuable _ (recursion_from_All (λ a. a < 256) _ kept.limits.addresses) (recursion_from_All (λ v. 0 < v) _ kept.limits.non_zero)))

pub proc_of-step_of : (p : ℕ) (outcome : Outcome) → proc_of (step_of p outcome) ≡ p
proc_of-step_of p (OutcomeLd a r) = refl
proc_of-step_of p (OutcomeSt a v) = refl
proc_of-step_of p (OutcomeSw a r v) = refl
proc_of-step_of p OutcomeMb = refl
proc_of-step_of p OutcomeSb = refl

outcome_of-step_of : (p : ℕ) (outcome : Outcome) → outcome_of (step_of p outcome) ≡ Some outcome
outcome_of-step_of p (OutcomeLd a r) = refl
outcome_of-step_of p (OutcomeSt a v) = refl
outcome_of-step_of p (OutcomeSw a r v) = refl
outcome_of-step_of p OutcomeMb = refl
outcome_of-step_of p OutcomeSb = refl

not_same : (p q : ℕ) → (q ≡ p → ⊥) → (p == q) ≡ false
not_same p q other = grind (arith, nat_tests)

-- a unit that performs an operation answers its processor the outcome, and the others nothing
pub performed-own : (old new : UnitValue) (p : ℕ) (outcome : Outcome) → Takes old new (step_of p outcome) → outcomes_of p new.steps ≡ outcomes_of p old.steps ++ outcome ∷ []
performed-own old new p outcome takes =
    let same : (proc_of (step_of p outcome) == p) ≡ true = eq-eqb _ p (proc_of-step_of p outcome) in
    let one : outcome_for p (step_of p outcome) ≡ Some outcome = ap (λ b. cond b (outcome_of (step_of p outcome)) None) same ∙ outcome_of-step_of p outcome in
    outcomes-taken p old new (step_of p outcome) takes ∙ ap (λ o. outcomes_of p old.steps ++ option_to_list o) one

pub performed-other : (old new : UnitValue) (p q : ℕ) (outcome : Outcome) → (q ≡ p → ⊥) → Takes old new (step_of p outcome) → outcomes_of q new.steps ≡ outcomes_of q old.steps
performed-other old new p q outcome other takes =
    let apart : (proc_of (step_of p outcome) == q) ≡ false = ap (λ n. n == q) (proc_of-step_of p outcome) ∙ not_same p q other in
    let none : outcome_for q (step_of p outcome) ≡ None = ap (λ b. cond b (outcome_of (step_of p outcome)) None) apart in
    outcomes-taken q old new (step_of p outcome) takes ∙ ap (λ o. outcomes_of q old.steps ++ option_to_list o) none ∙ append-nil (outcomes_of q old.steps)
