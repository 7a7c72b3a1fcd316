-- Lemmas on the stores of a value to an address, and on the only one.
use Rattle.std.proofs.Common.{◌≡◌, ◌≢◌, ◌∙◌, ⊎_elim, sym, ap, subst, refl, ℕ, suc, ◌+◌, ◌<◌, true, false, cond, List, length, Option, Some, None, slice_get, arith, add-one}
use Rattle.std.specs.HashMap.{HashMap, get, Updates, IsEmpty}
use Rattle.std.proofs.lemmas.Bool.{false≢true, cases_eq, cases_lt}
use Rattle.std.proofs.lemmas.Bool.Decides.{nat_tests}
use Rattle.std.proofs.lemmas.Option.{slice_get_within}
use Rattle.tso_ops.specs.Settings.{first_value}
use Rattle.log_selections.specs.declared.accesses.Access.{Access}
use Rattle.log_selections.specs.declared.writers.Writers.{Writers}
use Rattle.log_selections.specs.declared.writers.Writers.TheVariants.{One, Several}
use Rattle.log_selections.specs.Internal.Writers.{IsStoreOf, FindsWriter, FindsWriters, same_written, with_store}
use Rattle.log_selections.specs.Internal.Known.{HasTwoWriters, IsOnlyWriter}

module _ (accesses : List Access) where
  -- the access at a place of the list
  pub same_access : (k : ℕ) (x y : Access) → slice_get accesses k ≡ Some x → slice_get accesses k ≡ Some y → x ≡ y
  same_access k x y at_x at_y = let same : Some x ≡ Some y = sym at_x ∙ at_y in cc

  -- one more access that no look-up of the value finds
  kept : (i : ℕ) (written : ℕ × ℕ) (found : Option Writers) → (IsStoreOf accesses written i → ⊥) → FindsWriter accesses i written found → FindsWriter accesses (i + 1) written found
  kept i written None other finds =
      λ k within store. ⊎_elim (λ before. finds k before store) (λ not_before. let same : k ≡ i = omega arith in other (subst (IsStoreOf accesses written) same store)) (cases_lt k i)
  kept i written (Some (One n)) other (k, within, is, store, only) = (
    k,
    omega arith,
    is,
    store,
    λ j below st. ⊎_elim (λ before. only j before st) (λ not_before. let same : j ≡ i = omega arith in absurd (other (subst (IsStoreOf accesses written) same st))) (cases_lt j i),
  )
  kept i written (Some Several) other (j, k, less, within, first, second) = (j, k, less, omega (arith, within), first, second)

  found_here : (i : ℕ) (x : Access) (old : Option Writers) → slice_get accesses i ≡ Some x → x.load ≡ false →
      FindsWriter accesses i (x.a, x.value) old → FindsWriter accesses (i + 1) (x.a, x.value) (Some (with_store old (i + 1)))
  found_here i x None at store finds = (
    i,
    omega arith,
    add-one i,
    (x, at, store, refl, refl),
    λ j below st. ⊎_elim (λ before. absurd (finds j before st)) (λ not_before. omega arith) (cases_lt j i),
  )
  found_here i x (Some (One n)) at store (k, within, is, stored, only) = (k, i, within, omega arith, stored, (x, at, store, refl, refl))
  found_here i x (Some Several) at store (j, k, less, within, first, second) = (j, k, less, omega (arith, within), first, second)

  module _ {S : Type 0} where
    pub writers-none : (writers : HashMap (ℕ × ℕ) Writers S) → IsEmpty writers → FindsWriters accesses 0 writers
    writers-none writers empty written = rw empty (λ k within store. omega arith)

    -- one more load
    pub writers-load : (i : ℕ) (x : Access) (writers : HashMap (ℕ × ℕ) Writers S) → slice_get accesses i ≡ Some x → x.load ≡ true →
        FindsWriters accesses i writers → FindsWriters accesses (i + 1) writers
    writers-load i x writers at load finds written =
        kept i written (get same_written writers written)
        (λ (y, at_y, store, same_a, same_v). let one = same_access i y x at_y at in false≢true (sym store ∙ ap (λ (z : Access). z.load) one ∙ load)) (finds written)

    -- one more store, which is put into the map
    pub writers-store : (i : ℕ) (x : Access) (old new : HashMap (ℕ × ℕ) Writers S) → slice_get accesses i ≡ Some x → x.load ≡ false →
        Updates same_written old new (x.a, x.value) (Some (with_store (get same_written old (x.a, x.value)) (i + 1))) → FindsWriters accesses i old → FindsWriters accesses (i + 1) new
    writers-store i x old new at store updates finds written =
        ⊎_elim
        (λ (same_a : x.a ≡ written.0).
        ⊎_elim
        (λ (same_v : x.value ≡ written.1).
        let test : same_written (x.a, x.value) written ≡ true = grind (arith, nat_tests) in
        let here : written ≡ (x.a, x.value) = λ i. (sym same_a i, sym same_v i) in
        let looked_up : get same_written new written ≡ Some (with_store (get same_written old (x.a, x.value)) (i + 1)) =
        updates.0 written ∙ ap (λ b. cond b (Some (with_store (get same_written old (x.a, x.value)) (i + 1))) (get same_written old written)) test in
        subst (FindsWriter accesses (i + 1) written) (sym looked_up)
        (subst (λ w. FindsWriter accesses (i + 1) w (Some (with_store (get same_written old (x.a, x.value)) (i + 1)))) (sym here)
        (found_here i x (get same_written old (x.a, x.value)) at store (finds (x.a, x.value)))))
        (λ (other : x.value ≡ written.1 → ⊥). elsewhere written at updates (let test : same_written (x.a, x.value) written ≡ false = grind (arith, nat_tests) in test)
        (λ (y, at_y, is_store, same1, same2). let one = same_access i y x at_y at in other (ap (λ (z : Access). z.value) (sym one) ∙ same2)) (finds written))
        (cases_eq x.value written.1))
        (λ (other : x.a ≡ written.0 → ⊥). elsewhere written at updates (let test : same_written (x.a, x.value) written ≡ false = grind (arith, nat_tests) in test)
        (λ (y, at_y, is_store, same1, same2). let one = same_access i y x at_y at in other (ap (λ (z : Access). z.a) (sym one) ∙ same1)) (finds written))
        (cases_eq x.a written.0)
      where
        elsewhere : (written : ℕ × ℕ) → slice_get accesses i ≡ Some x →
            Updates same_written old new (x.a, x.value) (Some (with_store (get same_written old (x.a, x.value)) (i + 1))) → same_written (x.a, x.value) written ≡ false →
            (IsStoreOf accesses written i → ⊥) → FindsWriter accesses i written (get same_written old written) → FindsWriter accesses (i + 1) written (get same_written new written)
        elsewhere written at updates test other finds =
            let looked_up : get same_written new written ≡ get same_written old written =
            updates.0 written ∙ ap (λ b. cond b (Some (with_store (get same_written old (x.a, x.value)) (i + 1))) (get same_written old written)) test in
            subst (FindsWriter accesses (i + 1) written) (sym looked_up) (kept i written (get same_written old written) other finds)

  -- ---- the only writer

  within : (written : ℕ × ℕ) (k : ℕ) → IsStoreOf accesses written k → k < length accesses
  within written k (x, at, store, same_a, same_v) = slice_get_within accesses k x at

  pub only_first : (first : List (ℕ × ℕ)) (written : ℕ × ℕ) → FindsWriter accesses (length accesses) written None → first_value first written.0 ≡ written.1 → IsOnlyWriter first accesses written 0
  only_first first written finds same = (same, λ k store. finds k (within written k store) store)

  pub no_store : (written : ℕ × ℕ) → FindsWriter accesses (length accesses) written None → (k : ℕ) → IsStoreOf accesses written k → ⊥
  no_store written finds k store = finds k (within written k store) store

  -- a store of the first value, which then two can have written
  pub first_and_store : (first : List (ℕ × ℕ)) (written : ℕ × ℕ) (n : ℕ) → FindsWriter accesses (length accesses) written (Some (One n)) → first_value first written.0 ≡ written.1 → HasTwoWriters first accesses written
  first_and_store first written n (k, below, is, store, only) same = (0, suc k, λ equal. omega (arith, equal), same, store)

  -- a look-up that finds several
  pub two_stores : (first : List (ℕ × ℕ)) (written : ℕ × ℕ) → FindsWriter accesses (length accesses) written (Some Several) → HasTwoWriters first accesses written
  two_stores first written (j, k, less, below, one, other) = (suc j, suc k, λ equal. omega (arith, equal, less), one, other)

  pub only_store : (first : List (ℕ × ℕ)) (written : ℕ × ℕ) (n : ℕ) → FindsWriter accesses (length accesses) written (Some (One n)) → first_value first written.0 ≢ written.1 → IsOnlyWriter first accesses written n
  only_store first written n (k, below, is, store, only) other =
      subst (IsOnlyWriter first accesses written) (sym is) (other, store, λ j st. only j (within written j st) st)
