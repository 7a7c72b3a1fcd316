-- Lemmas on what processors were answered.
use Rattle.std.proofs.Common.{Option, ◌≡◌, ◌∙◌, sym, ap, refl, ℕ, zero, suc, ◌+◌, ◌<◌, ◌≤◌, ◌==◌, Bool, true, false, cond, None, Some, List, [], ◌∷◌, ◌++◌, length, get_or, slice_get, take, map, All, add-one, arith}
use Rattle.std.specs.List.{flat_map, cons_option}
use Rattle.std.specs.Option.{option_to_list}
use Rattle.std.proofs.lemmas.List.{append-nil}
use Rattle.std.proofs.lemmas.List.Concat.{flat_map-append}
use Rattle.std.proofs.lemmas.List.Elements.{filter_map-append, All-append}
use Rattle.tso_ops.specs.declared.ops.Op.{Op}
use Rattle.tso_ops.specs.declared.ops.Outcome.{Outcome}
use Rattle.tso_ops.specs.Values.{ProgramValue, ReadFits, op_of}
use Rattle.unit_core.specs.declared.steps.Step.{Step}
use Rattle.unit_core.specs.declared.steps.Step.TheVariants.{Store, Drain, DrainAt, Load, Swap, Membar, Stbar}
use Rattle.unit_core.specs.Machine.{is_drain, proc_of, outcome_of, outcome_for, outcomes_of, lists_from}
use Rattle.unit_core.specs.Units.{AreDrains, Takes, UnitValue}
use Rattle.unit_core.specs.Records.{AreOpsOf}

taken : {X : Type 0} (xs : List X) (k : ℕ) (x : X) → slice_get xs k ≡ Some x → take (suc k) xs ≡ take k xs ++ x ∷ []
taken [] k x read = absurd cc
taken (y ∷ xs) zero x read = let e : y ≡ x = cc in ap (λ z. z ∷ []) e
taken (y ∷ xs) (suc k) x read = ap (λ rest. y ∷ rest) (taken xs k x read)

pub take-next : {X : Type 0} (xs : List X) (k : ℕ) (x : X) → slice_get xs k ≡ Some x → take (k + 1) xs ≡ take k xs ++ x ∷ []
take-next xs k x read = rw add-one (taken xs k x read)

outcome_of-drain : (step : Step) → is_drain step ≡ true → outcome_of step ≡ None
outcome_of-drain (Drain p) drain = refl
outcome_of-drain (DrainAt p a) drain = refl
outcome_of-drain (Store p a v) drain = absurd cc
outcome_of-drain (Load p a r) drain = absurd cc
outcome_of-drain (Swap p a r v) drain = absurd cc
outcome_of-drain (Membar p) drain = absurd cc
outcome_of-drain (Stbar p) drain = absurd cc

cond_same : {X : Type 0} (b : Bool) (x : X) → cond b x x ≡ x
cond_same true x = refl
cond_same false x = refl

outcome_for-drain : (p : ℕ) (step : Step) → is_drain step ≡ true → outcome_for p step ≡ None
outcome_for-drain p step drain = rw (outcome_of-drain step drain) (cond_same (proc_of step == p) None)

pub outcomes_of-drains : (p least past : ℕ) (steps : List Step) → AreDrains least past steps → outcomes_of p steps ≡ []
outcomes_of-drains p least past [] drains = refl
outcomes_of-drains p least past (step ∷ steps) drains =
    rw (outcome_for-drain p step drains.0) (outcomes_of-drains p (proc_of step) past steps drains.3)

-- drains answer no processor
pub outcomes_of-drained : (p least past : ℕ) (steps drained : List Step) → AreDrains least past drained → outcomes_of p (steps ++ drained) ≡ outcomes_of p steps
outcomes_of-drained p least past steps drained drains =
    filter_map-append (outcome_for p) steps drained ∙ ap (λ rest. outcomes_of p steps ++ rest) (outcomes_of-drains p least past drained drains) ∙ append-nil (outcomes_of p steps)

pub AreOpsOf-drained : (program : ProgramValue) (least past : ℕ) (steps drained : List Step) → AreDrains least past drained → AreOpsOf program steps →
    AreOpsOf program (steps ++ drained)
AreOpsOf-drained program least past steps drained drains ops p = rw (outcomes_of-drained p least past steps drained drains) (ops p)

pub length-lists_from : (p count : ℕ) (steps : List Step) → length (lists_from p count steps) ≡ count
length-lists_from p zero steps = refl
length-lists_from p (suc count) steps = ap suc (length-lists_from (suc p) count steps)

-- the lists of the processors are those of the program
lists_of : (p : ℕ) (lists : List (List Op)) (steps : List Step) → ((k : ℕ) → k < length lists → map op_of (outcomes_of (p + k) steps) ≡ get_or lists k []) →
    map (map op_of) (lists_from p (length lists) steps) ≡ lists
lists_of p [] steps same = refl
lists_of p (ops ∷ lists) steps same =
    let here : map op_of (outcomes_of p steps) ≡ ops = ap (λ q. map op_of (outcomes_of q steps)) (omega arith) ∙ same 0 (omega arith) in
    let rest : map (map op_of) (lists_from (suc p) (length lists) steps) ≡ lists =
    lists_of (suc p) lists steps (λ k within. ap (λ q. map op_of (outcomes_of q steps)) (omega arith) ∙ same (suc k) (omega arith)) in
    rw (here, rest) refl

pub program_lists : (program : ProgramValue) (steps : List Step) → AreOpsOf program steps → map (map op_of) (lists_from 0 (length program.lists) steps) ≡ program.lists
program_lists program steps ops = lists_of 0 program.lists steps (λ k within. ap (λ q. map op_of (outcomes_of q steps)) (omega arith) ∙ ops k)

map-none : (xs : List Outcome) → map op_of xs ≡ [] → xs ≡ []
map-none [] e = refl
map-none (x ∷ xs) e = absurd cc

get_or-past : (lists : List (List Op)) (p : ℕ) → length lists ≤ p → get_or lists p [] ≡ []
get_or-past [] p past = refl
get_or-past (ops ∷ lists) zero past = absurd (omega arith)
get_or-past (ops ∷ lists) (suc p) past = get_or-past lists p (omega arith)

-- no processor past those of the program was answered anything
pub outcomes_past : (program : ProgramValue) (steps : List Step) → AreOpsOf program steps → (p : ℕ) → length program.lists ≤ p → outcomes_of p steps ≡ []
outcomes_past program steps ops p past = map-none (outcomes_of p steps) (ops p ∙ get_or-past program.lists p past)

-- the lists of one processor more
pub lists_from-more : (p count : ℕ) (steps : List Step) → lists_from p (suc count) steps ≡ lists_from p count steps ++ outcomes_of (p + count) steps ∷ []
lists_from-more p zero steps = ap (λ q. outcomes_of q steps ∷ []) (omega arith)
lists_from-more p (suc count) steps =
    ap (λ rest. outcomes_of p steps ∷ rest) (lists_from-more (suc p) count steps ∙ ap (λ q. lists_from (suc p) count steps ++ outcomes_of q steps ∷ []) (omega arith))

-- what processor p was answered by one step more
pub outcomes-more-some : (p : ℕ) (steps : List Step) (k : ℕ) (list : List Outcome) (step : Step) (outcome : Outcome) → slice_get steps k ≡ Some step →
    list ≡ outcomes_of p (take k steps) → Some outcome ≡ outcome_for p step → list ++ outcome ∷ [] ≡ outcomes_of p (take (k + 1) steps)
outcomes-more-some p steps k list step outcome read so_far is =
    ap (λ xs. xs ++ outcome ∷ []) so_far ∙ ap (λ o. outcomes_of p (take k steps) ++ cons_option o []) is ∙ sym (filter_map-append (outcome_for p) (take k steps) (step ∷ []))
    ∙ ap (outcomes_of p) (sym (take-next steps k step read))

pub outcomes-more-none : (p : ℕ) (steps : List Step) (k : ℕ) (list : List Outcome) (step : Step) → slice_get steps k ≡ Some step → list ≡ outcomes_of p (take k steps) →
    None ≡ outcome_for p step → list ≡ outcomes_of p (take (k + 1) steps)
outcomes-more-none p steps k list step read so_far is =
    so_far ∙ sym (append-nil (outcomes_of p (take k steps))) ∙ ap (λ o. outcomes_of p (take k steps) ++ cons_option o []) is
    ∙ sym (filter_map-append (outcome_for p) (take k steps) (step ∷ [])) ∙ ap (outcomes_of p) (sym (take-next steps k step read))

-- the outcomes of one processor more
pub lists_from-push : (p : ℕ) (steps : List Step) (lists : List (List Outcome)) (list : List Outcome) → lists ≡ lists_from 0 p steps → list ≡ outcomes_of p steps →
    lists ++ list ∷ [] ≡ lists_from 0 (p + 1) steps
lists_from-push p steps lists list so_far is =
    ap (λ ls. ls ++ list ∷ []) so_far ∙ ap (λ l. lists_from 0 p steps ++ l ∷ []) is ∙ (sym (ap (λ n. lists_from 0 n steps) (add-one p) ∙ lists_from-more 0 p steps ∙ ap (λ q. lists_from 0 p steps ++ outcomes_of q steps ∷ []) (omega arith)))

pub reads-push : (lists : List (List Outcome)) (list : List Outcome) → All ReadFits (flat_map (λ ops. ops) lists) → All ReadFits list →
    All ReadFits (flat_map (λ ops. ops) (lists ++ list ∷ []))
reads-push lists list so_far more =
    rw (flat_map-append, append-nil) (All-append ReadFits (flat_map (λ ops. ops) lists) list so_far more)

single : {X : Type 0} (o : Option X) → cons_option o [] ≡ option_to_list o
single None = refl
single (Some x) = refl

-- What a unit that takes a step answers: the step's processor its outcome, and the others nothing.
pub outcomes-taken : (p : ℕ) (old new : UnitValue) (step : Step) → Takes old new step → outcomes_of p new.steps ≡ outcomes_of p old.steps ++ option_to_list (outcome_for p step)
outcomes-taken p old new step takes =
    let q = proc_of step in
    let one : outcomes_of p (step ∷ takes.after) ≡ option_to_list (outcome_for p step) =
    ap (cons_option (outcome_for p step)) (outcomes_of-drains p q (suc q) takes.after takes.drains_after) ∙ single (outcome_for p step) in
    let rest : outcomes_of p (takes.before ++ step ∷ takes.after) ≡ option_to_list (outcome_for p step) =
    filter_map-append (outcome_for p) takes.before (step ∷ takes.after)
    ∙ ap (λ xs. xs ++ outcomes_of p (step ∷ takes.after)) (outcomes_of-drains p q (suc q) takes.before takes.drains_before) ∙ one in
    ap (outcomes_of p) takes.steps ∙ filter_map-append (outcome_for p) old.steps (takes.before ++ step ∷ takes.after) ∙ ap (λ xs. outcomes_of p old.steps ++ xs) rest
