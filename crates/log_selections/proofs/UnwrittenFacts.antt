-- A log with a load of a value that nothing wrote has no order.
use Rattle.std.proofs.Common.{◌≡◌, ◌∙◌, ⊎_elim, inl, inr, ℕ, zero, suc, true, false, List, [], ◌∷◌, get_or, Some, slice_get, refl, sym, ap, subst, arith}
use Rattle.std.specs.List.{Contains}
use Rattle.std.proofs.lemmas.List.Elements.{Contains-append_left, Contains-append_right, Contains-append_cases}
use Rattle.std.proofs.lemmas.Option.{slice_get-get_or, slice_get_within}
use Rattle.tso_ops.specs.Values.{TraceValue}
use Rattle.tso_ops.specs.Events.{IsLoad, HasSource}
use Rattle.tso_ops.proofs.NumberFacts.{store_source}
use Rattle.tso_model.specs.Axioms.{ReadsGreatest, IsConsistent}
use Rattle.log_text.specs.declared.logs.LogOperation.{LogOperation}
use Rattle.log_text.specs.declared.logs.LogOperation.TheVariants.{Ld, St, Sw, Mb, Sb}
use Rattle.log_text.specs.declared.logs.LoggedOperation.{LoggedOperation}
use Rattle.log_text.specs.LogValues.{NumberedLog, log_operations}
use Rattle.log_selections.specs.declared.accesses.Access.{Access}
use Rattle.log_selections.specs.Internal.Accesses.{accesses_of, accesses_of_list, accesses_of_lists}
use Rattle.log_selections.specs.Internal.Writers.{IsStoreOf}
use Rattle.log_selections.specs.Unwritten.{read_by, pair_stored_by, IsOperationOfLog, IsUnwrittenOperation}
use Rattle.log_selections.proofs.KnownFacts.{no_source_at}

-- Value: a load reads what some source wrote
pub no_order : (t : TraceValue) (l : ℕ) → IsLoad t l → ((s : ℕ) → HasSource t l s → ⊥) → IsConsistent t → ⊥
no_order t l load none (order, axioms) = by_cases (axioms.value l load)
  where
    by_cases : ReadsGreatest t order l → ⊥
    by_cases (inl read) = none 0 (load, read.0)
    by_cases (inr read) = none read.0 (store_source t l read.0 load read.1.0 read.1.1 read.2)

-- ---- operations and accesses

load_of : ℕ × ℕ → Access
load_of w = record { load = true; a = w.0; value = w.1 }

one : {X : Type 0} (x y : X) → Contains (x ∷ []) y → x ≡ y
one x y (zero, within, is) = is
one x y (suc k, within, is) = absurd (omega arith)

alone : {X : Type 0} (x : X) (xs : List X) → Contains (x ∷ xs) x
alone x xs = (0, omega arith, refl)

read_access : (x : LogOperation) (w : ℕ × ℕ) → Contains (read_by x) w → Contains (accesses_of x) (load_of w)
unfolding load_of
read_access (Ld a r) w reads = subst (λ v. Contains (accesses_of (Ld a r)) (load_of v)) (one (a, r) w reads) (alone _ [])
read_access (Sw a r v) w reads = subst (λ u. Contains (accesses_of (Sw a r v)) (load_of u)) (one (a, r) w reads) (alone (load_of (a, r)) (record { load = false; a = a; value = v } ∷ []))
read_access (St a v) w (k, within, is) = absurd (omega arith)
read_access Mb w (k, within, is) = absurd (omega arith)
read_access Sb w (k, within, is) = absurd (omega arith)

list_access : (xs : List LoggedOperation) (x : LoggedOperation) (y : Access) → Contains xs x → Contains (accesses_of x.operation) y → Contains (accesses_of_list xs) y
list_access [] x y (k, within, is) has = absurd (omega arith)
list_access (z ∷ xs) x y (zero, within, is) has = Contains-append_left (accesses_of z.operation) (accesses_of_list xs) y (subst (λ (u : LoggedOperation). Contains (accesses_of u.operation) y) (sym is) has)
list_access (z ∷ xs) x y (suc k, within, is) has = Contains-append_right (accesses_of z.operation) (accesses_of_list xs) y (list_access xs x y (k, omega arith, is) has)

lists_access : (lists : List (List LoggedOperation)) (xs : List LoggedOperation) (y : Access) → Contains lists xs → Contains (accesses_of_list xs) y → Contains (accesses_of_lists lists) y
lists_access [] xs y (k, within, is) has = absurd (omega arith)
lists_access (zs ∷ lists) xs y (zero, within, is) has = Contains-append_left (accesses_of_list zs) (accesses_of_lists lists) y (subst (λ us. Contains (accesses_of_list us) y) (sym is) has)
lists_access (zs ∷ lists) xs y (suc k, within, is) has = Contains-append_right (accesses_of_list zs) (accesses_of_lists lists) y (lists_access lists xs y (k, omega arith, is) has)

-- the other way round
stored_access : (x : LogOperation) (y : Access) → Contains (accesses_of x) y → y.load ≡ false → Contains (pair_stored_by x) (y.a, y.value)
stored_access (Ld a r) y has store = let is = one _ y has in absurd (cc)
stored_access (St a v) y has store = let is = one _ y has in subst (λ (z : Access). Contains (pair_stored_by (St a v)) (z.a, z.value)) is (alone (a, v) [])
stored_access (Sw a r v) y (zero, within, is) store = absurd cc
stored_access (Sw a r v) y (suc k, within, is) store = let same = one _ y (k, omega arith, is) in subst (λ (z : Access). Contains (pair_stored_by (Sw a r v)) (z.a, z.value)) same (alone (a, v) [])
stored_access Mb y (k, within, is) store = absurd (omega arith)
stored_access Sb y (k, within, is) store = absurd (omega arith)

record FromOperation (xs : List LoggedOperation) (y : Access) : Type 0 where
  x : LoggedOperation
  here : Contains xs x
  has : Contains (accesses_of x.operation) y

from_operation : (xs : List LoggedOperation) (y : Access) → Contains (accesses_of_list xs) y → FromOperation xs y
from_operation [] y (k, within, is) = absurd (omega arith)
from_operation (z ∷ xs) y has =
    ⊎_elim (λ first. record { x = z; here = alone z xs; has = first })
    (λ rest. let from = from_operation xs y rest in record { x = from.x; here = after from.here; has = from.has })
    (Contains-append_cases (accesses_of z.operation) (accesses_of_list xs) y has)
  where
    after : {x : LoggedOperation} → Contains xs x → Contains (z ∷ xs) x
    after (k, within, is) = (suc k, omega arith, is)

record FromList (lists : List (List LoggedOperation)) (y : Access) : Type 0 where
  xs : List LoggedOperation
  here : Contains lists xs
  has : Contains (accesses_of_list xs) y

from_list : (lists : List (List LoggedOperation)) (y : Access) → Contains (accesses_of_lists lists) y → FromList lists y
from_list [] y (k, within, is) = absurd (omega arith)
from_list (zs ∷ lists) y has =
    ⊎_elim (λ first. record { xs = zs; here = alone zs lists; has = first })
    (λ rest. let from = from_list lists y rest in record { xs = from.xs; here = after from.here; has = from.has })
    (Contains-append_cases (accesses_of_list zs) (accesses_of_lists lists) y has)
  where
    after : {xs : List LoggedOperation} → Contains lists xs → Contains (zs ∷ lists) xs
    after (k, within, is) = (suc k, omega arith, is)

-- ---- logs

pub unwritten_no_order : (log : NumberedLog) (x : LoggedOperation) → IsUnwrittenOperation log x → IsConsistent (log_operations log) → ⊥
unfolding load_of
unwritten_no_order log x unwritten =
    let w = unwritten.written in
    let (xs, listed, here) = unwritten.here in
    let (k, within, is) = lists_access log.lists xs (load_of w) listed (list_access xs x (load_of w) here (read_access x.operation w unwritten.reads)) in
    let at : slice_get (accesses_of_lists log.lists) k ≡ Some (load_of w) = slice_get-get_or (accesses_of_lists log.lists) k (load_of w) within ∙ ap Some is in
    let none = no_source_at log k w.0 w.1 at unwritten.first (λ j store. unstored w unwritten.unstored j store) in
    no_order (log_operations log) (suc k) none.0 none.1
  where
    unstored : (w : ℕ × ℕ) → ((y : LoggedOperation) → IsOperationOfLog log y → Contains (pair_stored_by y.operation) w → ⊥) → (j : ℕ) → IsStoreOf (accesses_of_lists log.lists) (w.0, w.1) j → ⊥
    unstored w none j (y, at, store, address, value) =
        let has : Contains (accesses_of_lists log.lists) y = (j, slice_get_within (accesses_of_lists log.lists) j y at, got (accesses_of_lists log.lists) j y at) in
        let list = from_list log.lists y has in
        let operation = from_operation list.xs y list.has in
        none operation.x (list.xs, list.here, operation.here) (subst (Contains (pair_stored_by operation.x.operation)) (λ i. (address i, value i)) (stored_access operation.x.operation y operation.has store))
      where
        got : (ys : List Access) (j : ℕ) (y : Access) → slice_get ys j ≡ Some y → get_or ys j y ≡ y
        got [] j y at = absurd cc
        got (z ∷ ys) zero y at = cc
        got (z ∷ ys) (suc j) y at = got ys j y at
