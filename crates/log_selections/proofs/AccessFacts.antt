-- Accesses and numbers, list by list, and the events that they are.
use Rattle.std.proofs.Common.{◌≡◌, ◌∙◌, refl, sym, ap, ℕ, zero, suc, ◌+◌, ◌<◌, List, [], ◌∷◌, ◌++◌, length, get_or, take, drop, map, arith, append_assoc}
use Rattle.std.specs.Global.{Vec}
use Rattle.std.proofs.lemmas.List.{drop-map, drop_more, length-append}
use Rattle.std.specs.List.{flat_map}
use Rattle.std.proofs.lemmas.List.Sums.{sum_by-append, sum_by-cons}
use Rattle.tso_ops.specs.Values.{op_of, rows}
use Rattle.tso_ops.specs.Limits.{event_count, total_events}
use Rattle.log_text.specs.LogValues.{logged_outcome, logged_outcomes}
use Rattle.log_text.specs.declared.logs.LogOperation.TheVariants.{Sw}
use Rattle.log_text.specs.declared.logs.LogOperation.{LogOperation}
use Rattle.log_text.specs.declared.logs.LoggedOperation.{LoggedOperation}
use Rattle.log_selections.specs.declared.accesses.Access.{Access}
use Rattle.log_selections.specs.Internal.Accesses.{accesses_of, accesses_of_list, accesses_of_lists, numbers_from, numbers_of_lists}

-- the lists from one of them on
pub rows-next : {X : Type 0} (lists : List (Vec X)) (i : ℕ) (x : Vec X) → i < length lists → x ≡ get_or lists i x → drop i (rows lists) ≡ x.items ∷ drop (i + 1) (rows lists)
rows-next {X} lists i x within at =
    let items = λ (row : Vec X). row.items in
    drop-map items i lists ∙ ap (map items) (drop_more lists i x within) ∙ ap (λ (y : Vec X). y.items ∷ map items (drop (i + 1) lists)) (sym at)
    ∙ ap (λ ys. x.items ∷ ys) (sym (drop-map items (i + 1) lists))

-- the accesses that stand before a list and in it, and those after it
pub accesses-next : (done : List Access) (row : List LoggedOperation) (rest : List (List LoggedOperation)) →
    (done ++ accesses_of_list row) ++ accesses_of_lists rest ≡ done ++ accesses_of_lists (row ∷ rest)
accesses-next done row rest = append_assoc done (accesses_of_list row) (accesses_of_lists rest)

-- the numbers, likewise
pub numbers-next : (done : List Access) (numbers : List (List ℕ)) (row : List LoggedOperation) (rest : List (List LoggedOperation)) →
    (numbers ++ numbers_from (suc (length done)) row ∷ []) ++ numbers_of_lists (suc (length (done ++ accesses_of_list row))) rest
    ≡ numbers ++ numbers_of_lists (suc (length done)) (row ∷ rest)
numbers-next done numbers row rest =
    let count : suc (length (done ++ accesses_of_list row)) ≡ suc (length done) + length (accesses_of_list row) = omega (arith, length-append done (accesses_of_list row)) in
    append_assoc numbers _ _ ∙ ap (λ n. numbers ++ numbers_from (suc (length done)) row ∷ numbers_of_lists n rest) count

-- ---- the numbers of operations

-- how many events an operation gives
event_count-accesses : (x : LogOperation) → event_count (op_of (logged_outcome x)) ≡ length (accesses_of x)
event_count-accesses (Sw a r v) = refl
event_count-accesses x = refl

-- a processor's events are its accesses
pub total_events-accesses : (xs : List LoggedOperation) → total_events (map op_of (logged_outcomes xs)) ≡ length (accesses_of_list xs)
total_events-accesses [] = refl
total_events-accesses (x ∷ xs) =
    omega (arith, sum_by-cons event_count (op_of (logged_outcome x.operation)) (map op_of (logged_outcomes xs)), event_count-accesses x.operation, total_events-accesses xs, length-append (accesses_of x.operation) (accesses_of_list xs))

-- the number of an operation: that of the first, and the events of those before it
pub number_at : (n : ℕ) (xs : List LoggedOperation) (i d : ℕ) → i < length xs → get_or (numbers_from n xs) i d ≡ n + total_events (map op_of (take i (logged_outcomes xs)))
number_at n [] i d within = omega (arith)
number_at n (x ∷ xs) zero d within = omega (arith)
number_at n (x ∷ xs) (suc i) d within =
    omega (arith, number_at (n + length (accesses_of x.operation)) xs i d (omega arith), event_count-accesses x.operation, sum_by-cons event_count (op_of (logged_outcome x.operation)) (map op_of (take i (logged_outcomes xs))))

-- the numbers of a processor's operations: those after the events of the processors before it
pub numbers_at : (n : ℕ) (lists : List (List LoggedOperation)) (p : ℕ) → p < length lists →
    get_or (numbers_of_lists n lists) p [] ≡ numbers_from (n + total_events (flat_map (map op_of) (take p (map logged_outcomes lists)))) (get_or lists p [])
numbers_at n [] p within = let none : ⊥ = omega arith in absurd none
numbers_at n (xs ∷ lists) zero within = ap (λ m. numbers_from m xs) (omega arith)
numbers_at n (xs ∷ lists) (suc p) within =
    numbers_at (n + length (accesses_of_list xs)) lists p (omega arith)
    ∙ ap (λ m. numbers_from m (get_or lists p []))
    (omega (arith, total_events-accesses xs, sum_by-append event_count (map op_of (logged_outcomes xs)) (flat_map (map op_of) (take p (map logged_outcomes lists)))))
