-- What is left of a log's processor, or is read of it, comes from its operations.
use Rattle.std.proofs.Common.{◌≡◌, ◌⊎◌, ℕ, Bool, true, false, cond, Contains, List, [], ◌∷◌, Option, None, get_or, inl, inr, ⊎_elim, refl, subst, arith}
use Rattle.std.specs.List.{flat_map}
use Rattle.std.proofs.Math.ListN.{get_or-map}
use Rattle.std.proofs.lemmas.List.Elements.{Contains-append_cases, Contains-append_left, Contains-append_right}
use Rattle.tso_ops.specs.declared.settings.Order.{Order}
use Rattle.tso_ops.specs.declared.settings.Order.TheVariants.{Tso, Pso}
use Rattle.log_text.specs.declared.logs.LoggedOperation.{LoggedOperation}
use Rattle.log_text.specs.LogValues.{NumberedLog}
use Rattle.log_thinning.specs.IdleSwaps.{lists_read, read_of, with_idle_swaps_read}
use Rattle.log_thinning.specs.Thinned.{is_load_of, last_load_after, next_load, thinned, thinned_before, thinned_behind, thinned_list}

-- what an operation or nothing has, the operation and others have
kept_or_not : (test : Bool) (y x : LoggedOperation) (ys : List LoggedOperation) → Contains (cond test [] (y ∷ [])) x → Contains (y ∷ ys) x
kept_or_not false y x ys here = Contains-append_left (y ∷ []) ys x here
kept_or_not true y x ys (k, within, is) = absurd (omega (arith, within))

-- what is left of operations is among them
left_behind : (last : Option (ℕ × ℕ)) (xs : List LoggedOperation) (x : LoggedOperation) → Contains (thinned_behind last xs) x → Contains xs x
left_behind last [] x here = here
left_behind last (y ∷ ys) x here =
    ⊎_elim
    (λ first. kept_or_not (is_load_of y.operation last) y x ys first)
    (λ later. Contains-append_right (y ∷ []) ys x (left_behind (last_load_after y.operation last) ys x later))
    (Contains-append_cases (cond (is_load_of y.operation last) [] (y ∷ [])) (thinned_behind (last_load_after y.operation last) ys) x here)

-- the same of the other rule
left_before : (xs : List LoggedOperation) (x : LoggedOperation) → Contains (thinned_before xs) x → Contains xs x
left_before [] x here = here
left_before (y ∷ ys) x here =
    ⊎_elim
    (λ first. kept_or_not (is_load_of y.operation (next_load ys)) y x ys first)
    (λ later. Contains-append_right (y ∷ []) ys x (left_before ys x later))
    (Contains-append_cases (cond (is_load_of y.operation (next_load ys)) [] (y ∷ [])) (thinned_before ys) x here)

-- each operation of a processor of the thinned log is one of it in the log
pub left_from : (log : NumberedLog) (p : ℕ) (x : LoggedOperation) → Contains (get_or (thinned log).lists p []) x → Contains (get_or log.lists p []) x
left_from log p x here =
    let left = subst (λ xs. Contains xs x) (get_or-map thinned_list log.lists p []) here in
    left_behind None (get_or log.lists p []) x (left_before (thinned_behind None (get_or log.lists p [])) x left)

-- the operation, or one that it is read of
ComesFrom : List LoggedOperation → LoggedOperation → Type 0
ComesFrom xs x = (y : LoggedOperation) × Contains xs y × ((x ≡ y) ⊎ Contains (read_of y) x)

-- what is read of operations comes from them
read_from_list : (xs : List LoggedOperation) (x : LoggedOperation) → Contains (flat_map read_of xs) x → ComesFrom xs x
unfolding ComesFrom
read_from_list [] x (k, within, is) = absurd (omega (arith, within))
read_from_list (y ∷ ys) x here =
    ⊎_elim
    (λ first. (y, Contains-append_left (y ∷ []) ys y (0, omega arith, refl), inr first))
    (λ later. let found = read_from_list ys x later in (found.0, Contains-append_right (y ∷ []) ys found.0 found.1, found.2))
    (Contains-append_cases (read_of y) (flat_map read_of ys) x here)

read_under : (order : Order) (lists : List (List LoggedOperation)) (p : ℕ) (x : LoggedOperation) → Contains (get_or (lists_read order lists) p []) x → ComesFrom (get_or lists p []) x
unfolding ComesFrom
read_under Tso lists p x here = read_from_list (get_or lists p []) x (subst (λ xs. Contains xs x) (get_or-map (flat_map read_of) lists p []) here)
read_under Pso lists p x here = (x, here, inl refl)

-- each operation of a processor of the log that is read comes from one of it in the log
pub read_from : (log : NumberedLog) (p : ℕ) (x : LoggedOperation) → Contains (get_or (with_idle_swaps_read log).lists p []) x →
    (y : LoggedOperation) × Contains (get_or log.lists p []) y × ((x ≡ y) ⊎ Contains (read_of y) x)
unfolding ComesFrom
read_from log = read_under log.order log.lists
