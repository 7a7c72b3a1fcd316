-- The steps of all operations of a program are as many of each kind as the operations.
use Rattle.std.proofs.Common.{◌≡◌, ◌≢◌, ◌∙◌, sym, ap, refl, ℕ, zero, suc, ◌+◌, ◌<◌, ◌≤◌, ◌==◌, inl, inr, Bool, false, cond, eq-eqb, Option, None, Some, List, [], ◌∷◌, length, map, arith}
use Rattle.std.specs.List.{count_by, flat_map, cons_option}
use Rattle.std.proofs.lemmas.Bool.{cases_eq, cases_lt}
use Rattle.std.proofs.lemmas.Bool.Decides.{nat_tests}
use Rattle.std.proofs.lemmas.List.Concat.{flat_map-cons}
use Rattle.std.proofs.lemmas.List.Sums.{sum_by-append, sum_by-cons}
use Rattle.tso_ops.specs.declared.ops.Op.{Op}
use Rattle.tso_ops.specs.declared.ops.Outcome.{Outcome}
use Rattle.tso_ops.specs.Values.{ProgramValue, op_of, in_file_order}
use Rattle.unit_core.specs.declared.steps.Step.{Step}
use Rattle.unit_core.specs.declared.steps.Step.TheVariants.{Store, Drain, DrainAt, Load, Swap, Membar, Stbar}
use Rattle.unit_core.specs.declared.accounts.Account.{Account}
use Rattle.unit_core.specs.Accounts.{IsAccountOf}
use Rattle.unit_core.specs.Replays.{CountsProgram, is_load_op, is_membar_op, is_store_op, is_swap_op}
use Rattle.unit_core.specs.Machine.{is_load, is_membar, is_store, is_swap, lists_from, outcome_for, outcome_of, outcomes_of, proc_of}
use Rattle.unit_core.specs.Records.{AreOpsOf}
use Rattle.unit_core.proofs.OutcomeFacts.{outcomes_past, program_lists}

-- whether the operation that was answered, if there was one, is of the kind
abbrev pub by_op : (Op → Bool) → Option Outcome → Bool
by_op g None = false
by_op g (Some o) = g (op_of o)

count-cons : {X : Type 0} (f : X → Bool) (x : X) (xs : List X) → count_by f (x ∷ xs) ≡ cond (f x) 1 0 + count_by f xs
count-cons f x xs = sum_by-cons (λ y. cond (f y) 1 0) x xs

-- how many operations of the kind `count` processors from p on were answered
abbrev pub total : (Op → Bool) → ℕ → ℕ → List Step → ℕ
total g p zero steps = 0
total g p (suc count) steps = count_by (λ o. g (op_of o)) (outcomes_of p steps) + total g (suc p) count steps

total-none : (g : Op → Bool) (p count : ℕ) → total g p count [] ≡ 0
total-none g p zero = refl
total-none g p (suc count) = omega (arith, total-none g (suc p) count)

total-other : (g : Op → Bool) (p count : ℕ) (step : Step) (steps : List Step) → ((q : ℕ) → p ≤ q → q < p + count → outcome_for q step ≡ None) →
    total g p count (step ∷ steps) ≡ total g p count steps
total-other g p zero step steps none = refl
total-other g p (suc count) step steps none =
    ap (λ o. count_by (λ x. g (op_of x)) (cons_option o (outcomes_of p steps)) + total g (suc p) count (step ∷ steps)) (none p (omega arith) (omega arith))
    ∙ ap (λ n. count_by (λ x. g (op_of x)) (outcomes_of p steps) + n) (total-other g (suc p) count step steps (λ q low high. none q (omega arith) (omega arith)))

own : (step : Step) (o : Outcome) → outcome_of step ≡ Some o → outcome_for (proc_of step) step ≡ Some o
own step o is = ap (λ b. cond b (outcome_of step) None) (eq-eqb (proc_of step) (proc_of step) refl) ∙ is

not_own : (step : Step) (q : ℕ) → q ≢ proc_of step → outcome_for q step ≡ None
not_own step q other =
    let p = proc_of step in
    let apart : (p == q) ≡ false = grind (arith, nat_tests) in
    ap (λ b. cond b (outcome_of step) None) apart

total-own : (g : Op → Bool) (p count : ℕ) (step : Step) (steps : List Step) (o : Outcome) → outcome_of step ≡ Some o → p ≤ proc_of step → proc_of step < p + count →
    total g p count (step ∷ steps) ≡ cond (g (op_of o)) 1 0 + total g p count steps
total-own g p zero step steps o is low high = absurd (omega arith)
total-own g p (suc count) step steps o is low high =
    let h : Outcome → Bool = λ x. g (op_of x) in
    elim (cases_eq (proc_of step) p) [
      | inl e ↦
          let here : outcome_for p step ≡ Some o = ap (λ q. outcome_for q step) (sym e) ∙ own step o is in
          let head : count_by h (outcomes_of p (step ∷ steps)) ≡ cond (g (op_of o)) 1 0 + count_by h (outcomes_of p steps) =
          ap (λ x. count_by h (cons_option x (outcomes_of p steps))) here ∙ count-cons h o (outcomes_of p steps) in
          let rest = total-other g (suc p) count step steps (λ q after within. not_own step q (λ same. absurd (omega (arith, e, same)))) in
          omega (arith, head, rest)
      | inr other ↦
          let head : count_by h (outcomes_of p (step ∷ steps)) ≡ count_by h (outcomes_of p steps) =
          ap (λ x. count_by h (cons_option x (outcomes_of p steps))) (not_own step p (λ same. other (sym same))) in
          let rest = total-own g (suc p) count step steps o is (omega (arith, other)) (omega arith) in
          omega (arith, head, rest)
    ]

tail_none : {X : Type 0} (o : Option X) (xs : List X) → cons_option o xs ≡ [] → xs ≡ []
tail_none None xs e = e
tail_none (Some x) xs e = absurd cc

some_listed : {X : Type 0} (o : Option X) (x : X) (xs : List X) → o ≡ Some x → cons_option o xs ≡ [] → ⊥
some_listed None x xs is e = absurd cc
some_listed (Some y) x xs is e = absurd cc

-- with one step more
one_more : (f : Step → Bool) (g : Op → Bool) (count : ℕ) (step : Step) (steps : List Step) → f step ≡ by_op g (outcome_of step) → count_by f steps ≡ total g 0 count steps →
    ((p : ℕ) → count ≤ p → outcomes_of p (step ∷ steps) ≡ []) → count_by f (step ∷ steps) ≡ total g 0 count (step ∷ steps)
one_more f g count step steps same rest none = whole (outcome_of step) refl
  where
    nothing : (q : ℕ) → outcome_of step ≡ None → outcome_for q step ≡ None
    nothing q is = elim (cases_eq q (proc_of step)) [
      | inl e ↦ (ap (λ r. outcome_for r step) e ∙ ap (λ b. cond b (outcome_of step) None) (eq-eqb (proc_of step) (proc_of step) refl) ∙ is)
      | inr other ↦ not_own step q other
    ]

    whole : (o : Option Outcome) → outcome_of step ≡ o → count_by f (step ∷ steps) ≡ total g 0 count (step ∷ steps)
    whole None is =
        let kind : ◌≡◌ {A = ℕ} (cond (f step) 1 0) 0 = ap (λ b. cond b 1 0) (same ∙ ap (by_op g) is) in
        let unchanged = total-other g 0 count step steps (λ q low high. nothing q is) in
        omega (arith, count-cons f step steps, kind, rest, unchanged)
    whole (Some o) is =
        let kind : ◌≡◌ {A = ℕ} (cond (f step) 1 0) (cond (g (op_of o)) 1 0) = ap (λ b. cond b 1 0) (same ∙ ap (by_op g) is) in
        let below : proc_of step < count = elim (cases_lt (proc_of step) count) [
          | inl low ↦ low
          | inr past ↦ absurd (some_listed (outcome_for (proc_of step) step) o (outcomes_of (proc_of step) steps) (own step o is) (none (proc_of step) past))
        ] in
        let more = total-own g 0 count step steps o is (omega arith) (omega arith) in
        omega (arith, count-cons f step steps, kind, rest, more)

-- the steps of a kind are those that were answered to processors below `count`
steps_total : (f : Step → Bool) (g : Op → Bool) → ((step : Step) → f step ≡ by_op g (outcome_of step)) → (count : ℕ) (steps : List Step) →
    ((p : ℕ) → count ≤ p → outcomes_of p steps ≡ []) → count_by f steps ≡ total g 0 count steps
steps_total f g same count [] none = sym (total-none g 0 count)
steps_total f g same count (step ∷ steps) none =
    one_more f g count step steps (same step)
    (steps_total f g same count steps (λ p past. tail_none (outcome_for p step) (outcomes_of p steps) (none p past))) none

count-map : (g : Op → Bool) (xs : List Outcome) → count_by g (map op_of xs) ≡ count_by (λ o. g (op_of o)) xs
count-map g [] = refl
count-map g (x ∷ xs) = count-cons g (op_of x) (map op_of xs) ∙ ap (λ n. cond (g (op_of x)) 1 0 + n) (count-map g xs) ∙ sym (count-cons (λ o. g (op_of o)) x xs)

-- and those are the operations of the lists
lists_total : (g : Op → Bool) (p count : ℕ) (steps : List Step) → count_by g (flat_map (λ ops. ops) (map (map op_of) (lists_from p count steps))) ≡ total g p count steps
lists_total g p zero steps = refl
lists_total g p (suc count) steps =
    let head = map op_of (outcomes_of p steps) in
    let rest = map (map op_of) (lists_from (suc p) count steps) in
    ap (count_by g) (flat_map-cons (λ ops. ops) head rest) ∙ sum_by-append (λ o. cond (g o) 1 0) head (flat_map (λ ops. ops) rest)
    ∙ ap (λ n. n + count_by g (flat_map (λ ops. ops) rest)) (count-map g (outcomes_of p steps))
    ∙ ap (λ n. count_by (λ o. g (op_of o)) (outcomes_of p steps) + n) (lists_total g (suc p) count steps)

-- all operations of a program have as many steps of a kind as there are operations of it
pub counted : (f : Step → Bool) (g : Op → Bool) → ((step : Step) → f step ≡ by_op g (outcome_of step)) → (program : ProgramValue) (steps : List Step) → AreOpsOf program steps →
    count_by f steps ≡ count_by g (in_file_order program)
counted f g same program steps ops =
    steps_total f g same (length program.lists) steps (outcomes_past program steps ops) ∙ sym (lists_total g 0 (length program.lists) steps)
    ∙ ap (λ ls. count_by g (flat_map (λ xs. xs) ls)) (program_lists program steps ops)

-- two tests of steps that agree on each kind of step
agree : (f g : Step → Bool) → ((p a v : ℕ) → f (Store p a v) ≡ g (Store p a v)) → ((p : ℕ) → f (Drain p) ≡ g (Drain p)) → ((p a : ℕ) → f (DrainAt p a) ≡ g (DrainAt p a)) →
    ((p a r : ℕ) → f (Load p a r) ≡ g (Load p a r)) → ((p a r v : ℕ) → f (Swap p a r v) ≡ g (Swap p a r v)) → ((p : ℕ) → f (Membar p) ≡ g (Membar p)) →
    ((p : ℕ) → f (Stbar p) ≡ g (Stbar p)) → (step : Step) → f step ≡ g step
agree f g store drain drain_at load swap membar stbar (Store p a v) = store p a v
agree f g store drain drain_at load swap membar stbar (Drain p) = drain p
agree f g store drain drain_at load swap membar stbar (DrainAt p a) = drain_at p a
agree f g store drain drain_at load swap membar stbar (Load p a r) = load p a r
agree f g store drain drain_at load swap membar stbar (Swap p a r v) = swap p a r v
agree f g store drain drain_at load swap membar stbar (Membar p) = membar p
agree f g store drain drain_at load swap membar stbar (Stbar p) = stbar p

load_kind : (step : Step) → is_load step ≡ by_op is_load_op (outcome_of step)
load_kind =
    agree is_load (λ step. by_op is_load_op (outcome_of step)) (λ p a v. refl) (λ p. refl) (λ p a. refl) (λ p a r. refl) (λ p a r v. refl) (λ p. refl) (λ p. refl)

store_kind : (step : Step) → is_store step ≡ by_op is_store_op (outcome_of step)
store_kind =
    agree is_store (λ step. by_op is_store_op (outcome_of step)) (λ p a v. refl) (λ p. refl) (λ p a. refl) (λ p a r. refl) (λ p a r v. refl) (λ p. refl) (λ p. refl)

swap_kind : (step : Step) → is_swap step ≡ by_op is_swap_op (outcome_of step)
swap_kind =
    agree is_swap (λ step. by_op is_swap_op (outcome_of step)) (λ p a v. refl) (λ p. refl) (λ p a. refl) (λ p a r. refl) (λ p a r v. refl) (λ p. refl) (λ p. refl)

membar_kind : (step : Step) → is_membar step ≡ by_op is_membar_op (outcome_of step)
membar_kind =
    agree is_membar (λ step. by_op is_membar_op (outcome_of step)) (λ p a v. refl) (λ p. refl) (λ p a. refl) (λ p a r. refl) (λ p a r v. refl) (λ p. refl) (λ p. refl)

-- the closed account of all operations of a program
pub counts_program : (program : ProgramValue) (steps : List Step) (account : Account) → AreOpsOf program steps → IsAccountOf steps account → CountsProgram program account
counts_program program steps account ops closed = record {
  loads = closed.loads ∙ counted is_load is_load_op load_kind program steps ops;
  stores = closed.stores ∙ counted is_store is_store_op store_kind program steps ops;
  swaps = closed.swaps ∙ counted is_swap is_swap_op swap_kind program steps ops;
  membars = closed.membars ∙ counted is_membar is_membar_op membar_kind program steps ops;
}
