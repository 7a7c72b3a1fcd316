-- A processor's stores to an address, with one event more, and tables that grow by an item.
use Rattle.std.proofs.Common.{◌≡◌, ◌∙◌, ⊎_elim, sym, ap, subst, refl, ℕ, suc, ◌+◌, ◌<◌, ◌≤◌, IsTrue, IsFalse, false, Some, List, [], ◌∷◌, ◌++◌, length, get_or, slice_index, max, arith}
use Rattle.std.specs.Prelude.{unwrap_or}
use Rattle.std.specs.HashMap.{HashMap, Updates}
use Rattle.std.proofs.lemmas.Bool.{cases_eq, cases_lt, false≢true}
use Rattle.std.proofs.lemmas.Bool.Decides.{nat_tests}
use Rattle.std.proofs.lemmas.List.{get_or_append_left}
use Rattle.std.proofs.Math.Seq.{get_or-append_seam}
use Rattle.tso_ops.specs.Values.{TraceValue}
use Rattle.tso_ops.specs.declared.events.Event.{Event}
use Rattle.tso_ops.specs.Events.{event_at}
use Rattle.tso_ops.proofs.NumberFacts.{event_above_zero, event_unique}
use Rattle.log_order_check.specs.Internal.Most.{IsMost}
use Rattle.log_order_check.specs.Internal.Passed.{IsOneUpTo, IsStoreToUpTo}
use Rattle.log_order_check.specs.Internal.Tables.{IsOwnStore, same_pair, pair_looked_up}
use Rattle.log_order_check.proofs.MostFacts.{most_none, most_same}
use Rattle.log_order_check.proofs.PassedFacts.{most_kept, most_met}

-- ---- a list with one item more

pub each_more : {X : Type 0} (P : ℕ → X → Type 0) (xs : List X) (d x : X) (i : ℕ) → length xs ≡ i → P i x → ((y : ℕ) → y < i → P y (get_or xs y d)) →
    (y : ℕ) → y < i + 1 → P y (get_or (xs ++ x ∷ []) y d)
each_more P xs d x i whole here before y below =
    ⊎_elim
    (λ (earlier : y < i). subst (P y) (sym (get_or_append_left xs (x ∷ []) d y (omega (arith, earlier, whole)))) (before y earlier))
    (λ (from : i ≤ y).
    let last : y ≡ i = omega (arith, from, below) in
    let at : get_or (xs ++ x ∷ []) i d ≡ x = ap (λ n. get_or (xs ++ x ∷ []) n d) (sym whole) ∙ get_or-append_seam xs x [] d in
    subst (λ n. P n (get_or (xs ++ x ∷ []) n d)) (sym last) (subst (P i) (sym at) here))
    (cases_lt y i)

-- ---- no number has an event up to 0

pub most_first : (t : TraceValue) (places : List ℕ) (P : Event → Type 0) → IsMost (IsOneUpTo t 0 P) places 0
most_first t places P = most_none _ places (λ u is. (let above = event_above_zero t u (is.1.0, is.1.1) in omega (arith, above, is.0)))

-- ---- one event more

module _ (t : TraceValue) (places : List ℕ) (x : ℕ) (e : Event) (at : event_at t (suc x) ≡ Some e) where
  -- the stores of its processor to its address before it are those that it sees
  pub own_here : (m : ℕ) → IsMost (IsStoreToUpTo t x (e.proc, e.a)) places m → IsMost (IsOwnStore t (suc x)) places m
  own_here m is = most_same _ _ places m to from is
    where
      to : (u : ℕ) → IsStoreToUpTo t x (e.proc, e.a) u → IsOwnStore t (suc x) u
      to u (within, (d, at_d, (store, same, address))) = ((d, at_d, store), (d, e, at_d, at, same, omega (arith, within)), (d, e, at_d, at, address))

      from : (u : ℕ) → IsOwnStore t (suc x) u → IsStoreToUpTo t x (e.proc, e.a) u
      from u ((d, at_d, store), (c, f, at_c, at_f, same, less), (b, g, at_b, at_g, address)) = (
        omega (arith, less),
        (
          d,
          at_d,
          (
            store,
            ap (λ (y : Event). y.proc) (event_unique t u d c at_d at_c) ∙ same ∙ ap (λ (y : Event). y.proc) (event_unique t (suc x) f e at_f at),
            ap (λ (y : Event). y.a) (event_unique t u d b at_d at_b) ∙ address ∙ ap (λ (y : Event). y.a) (event_unique t (suc x) g e at_g at),
          ),
        ),
      )

  -- a load changes nothing
  pub stores_kept : (key : ℕ × ℕ) (m : ℕ) → IsTrue e.load → IsMost (IsStoreToUpTo t x key) places m → IsMost (IsStoreToUpTo t (suc x) key) places m
  stores_kept key m load is = most_kept t places x e at (λ (d : Event). IsFalse d.load × (d.proc ≡ key.0) × (d.a ≡ key.1)) m (λ store. false≢true (sym store.0 ∙ load)) is

  -- a store changes what is known of its own processor and address
  pub stores_met : {S : Type 0} (old new : HashMap (ℕ × ℕ) ℕ S) (place : ℕ) → place ≡ slice_index places (suc x) → IsFalse e.load →
      Updates same_pair old new (e.proc, e.a) (Some (max (pair_looked_up old (e.proc, e.a)) place)) → ((key : ℕ × ℕ) → IsMost (IsStoreToUpTo t x key) places (pair_looked_up old key)) →
      (key : ℕ × ℕ) → IsMost (IsStoreToUpTo t (suc x) key) places (pair_looked_up new key)
  stores_met {S} old new place is_place store updates before key =
      ⊎_elim
      (λ (first : e.proc ≡ key.0). ⊎_elim (λ (second : e.a ≡ key.1). here first second) (λ (other : e.a ≡ key.1 → ⊥). apart (λ has. other has.1)
      (let test : same_pair (e.proc, e.a) key ≡ false = grind (arith, nat_tests) in test)) (cases_eq e.a key.1))
      (λ (other : e.proc ≡ key.0 → ⊥). apart (λ has. other has.0) (let test : same_pair (e.proc, e.a) key ≡ false = grind (arith, nat_tests) in test))
      (cases_eq e.proc key.0)
    where
      most : ℕ
      most = max (pair_looked_up old (e.proc, e.a)) place

      here : e.proc ≡ key.0 → e.a ≡ key.1 → IsMost (IsStoreToUpTo t (suc x) key) places (pair_looked_up new key)
      here first second =
          let same : (e.proc, e.a) ≡ key = (λ i. (first i, second i)) in
          subst (λ (k : ℕ × ℕ). IsMost (IsStoreToUpTo t (suc x) k) places (pair_looked_up new k)) same
          (subst (IsMost (IsStoreToUpTo t (suc x) (e.proc, e.a)) places) (sym (ap (λ o. unwrap_or o 0) updates.1))
          (most_met t places x e at (λ (d : Event). IsFalse d.load × (d.proc ≡ e.proc) × (d.a ≡ e.a)) (pair_looked_up old (e.proc, e.a)) place is_place (store, refl, refl) (before (e.proc, e.a))))

      apart : ((e.proc ≡ key.0) × (e.a ≡ key.1) → ⊥) → same_pair (e.proc, e.a) key ≡ false → IsMost (IsStoreToUpTo t (suc x) key) places (pair_looked_up new key)
      apart other test =
          subst (IsMost (IsStoreToUpTo t (suc x) key) places) (sym (ap (λ o. unwrap_or o 0) (updates.2 key test)))
          (most_kept t places x e at (λ (d : Event). IsFalse d.load × (d.proc ≡ key.0) × (d.a ≡ key.1)) (pair_looked_up old key) (λ has. other (has.1, has.2)) (before key))
