-- In an order of the model a load sees its source as the greatest store, and no two swaps of an address have one source.
use Rattle.std.proofs.Common.{◌≡◌, ◌≢◌, ◌⊎◌, ℕ, suc, List, inl, inr, refl, sym, ◌∙◌, arith}
use Rattle.tso_ops.specs.Values.{TraceValue}
use Rattle.tso_ops.specs.Events.{IsEvent, IsLoad, IsStore, IsSwapLoad, HasSource, SameAddress, Earlier}
use Rattle.tso_ops.proofs.NumberFacts.{event_above_zero, event_unique, store_event, store_source}
use Rattle.tso_ops.proofs.SwapFacts.{IsSwapLoad-store, IsSwapLoad-earlier}
use Rattle.tso_model.specs.Axioms.{IsUpTo, IsBefore, IsVisible, ReadsGreatest, IsModelOrder}
use Rattle.tso_model.proofs.EdgesForward.{SeesSource, nothing, greatest}
use Rattle.tso_model.proofs.Places.{place_same, before_from_up_to, before_not_up_to, up_to_from_before}
use Rattle.value_evidence.proofs.SwapAddresses.{swap_address}

-- one address in common with a third event
pub address_turned : (t : TraceValue) (u v : ℕ) → SameAddress t u v → SameAddress t v u
address_turned t u v same = (same.1, same.0, same.3, same.2, sym same.4)

pub address_joined : (t : TraceValue) (u v w : ℕ) → SameAddress t u v → SameAddress t v w → SameAddress t u w
address_joined t u v w first second =
    let one = event_unique t v first.1 second.0 first.3 second.2 in
    let left : first.0.a ≡ first.1.a = first.4 in
    let right : second.0.a ≡ second.1.a = second.4 in
    (first.0, second.1, first.2, second.3, cc)

module _ (t : TraceValue) (order : List ℕ) (axioms : IsModelOrder t order) where
  -- a number that stands no later than an event, and isn't it, stands before it
  pub strict : (u v : ℕ) → IsEvent t v → u ≢ v → IsUpTo order u v → IsBefore order u v
  strict u v event other up_to =
      let once = axioms.memory_order.once v event in
      before_from_up_to order u v (omega arith) (event_above_zero t v event) other up_to

  -- what a load read
  pub read_by : (l : ℕ) → IsLoad t l → (s : ℕ) × HasSource t l s × SeesSource t order l s
  read_by l load = by_cases (axioms.value l load)
    where
      by_cases : ReadsGreatest t order l → (s : ℕ) × HasSource t l s × SeesSource t order l s
      by_cases (inl read) = (0, (load, read.0), nothing refl read.1)
      by_cases (inr read) = (read.0, store_source t l read.0 load read.1.0 read.1.1 read.2, greatest read.1 read.3)

  -- it is one number
  pub one_read : (l r s : ℕ) → SeesSource t order l r → SeesSource t order l s → r ≡ s
  one_read l r s (nothing zero_r none_r) (nothing zero_s none_s) = zero_r ∙ sym zero_s
  one_read l r s (nothing zero_r none_r) (greatest seen_s last_s) = absurd (none_r s seen_s)
  one_read l r s (greatest seen_r last_r) (nothing zero_s none_s) = absurd (none_s r seen_r)
  one_read l r s (greatest seen_r last_r) (greatest seen_s last_s) =
      let first = last_r s seen_s in
      let second = last_s r seen_r in
      let once = axioms.memory_order.once s (store_event t s seen_s.0) in
      place_same order r s (omega arith) (omega arith)

  -- a store that a load sees stands no later than what the load read
  pub up_to_read : (l r w : ℕ) → SeesSource t order l r → IsVisible t order w l → IsVisible t order r l × IsUpTo order w r
  up_to_read l r w (nothing zero_r none_r) visible = absurd (none_r w visible)
  up_to_read l r w (greatest seen last) visible = (seen, last w visible)

  -- the store of a swap stands before another swap's load of its address: they have not read one number
  first_taken : (l m r : ℕ) → IsSwapLoad t m → SameAddress t m l → SeesSource t order m r → SeesSource t order l r → IsUpTo order (suc m) l → ⊥
  first_taken l m r swap address by_m by_l up_to = by_cases seen.2
    where
      store : IsStore t (suc m)
      store = IsSwapLoad-store t m swap

      visible : IsVisible t order (suc m) l
      visible = (store, address_joined t (suc m) m l (address_turned t m (suc m) (swap_address t m swap)) address, inl up_to)

      read : IsVisible t order r l × IsUpTo order (suc m) r
      read = up_to_read l r (suc m) by_l visible

      seen : IsVisible t order r m
      seen = seen_by_m by_m
        where
          seen_by_m : SeesSource t order m r → IsVisible t order r m
          seen_by_m (nothing zero_r none) = let above = event_above_zero t r (store_event t r read.0.0) in absurd (omega arith)
          seen_by_m (greatest visible_r last) = visible_r

      swap_store : IsBefore order m (suc m)
      swap_store = strict m (suc m) (store_event t (suc m) store) (λ same. omega arith) (axioms.swap m swap)

      by_cases : IsUpTo order r m ⊎ Earlier t r m → ⊥
      by_cases (inl r_first) =
          let back = up_to_from_before order m (suc m) (event_above_zero t m (swap.0, swap.1)) swap_store in
          before_not_up_to order m (suc m) (event_above_zero t m (swap.0, swap.1)) swap_store (omega (arith, read.1, r_first))
      by_cases (inr earlier) =
          let own = IsSwapLoad-earlier t m swap in
          let one = event_unique t m earlier.1 own.0 earlier.3 own.2 in
          let first : earlier.0.proc ≡ earlier.1.proc = earlier.4 in
          let second : own.0.proc ≡ own.1.proc = own.4 in
          let later : Earlier t r (suc m) = (earlier.0, own.1, earlier.2, own.3, cc, omega (arith, earlier.5)) in
          let same : SameAddress t r (suc m) = address_joined t r m (suc m) seen.1 (swap_address t m swap) in
          let in_order = axioms.store_store r (suc m) seen.0 store later (inr same) in
          let once = axioms.memory_order.once (suc m) (store_event t (suc m) store) in
          let is : r ≡ suc m = place_same order r (suc m) (omega arith) (omega (arith, in_order, read.1)) in
          omega (arith, earlier.5, is)

  -- two swaps of an address have not read one number
  pub taken_once : (l m r : ℕ) → IsSwapLoad t l → IsSwapLoad t m → SameAddress t m l → m ≢ l → SeesSource t order m r → SeesSource t order l r → ⊥
  taken_once l m r swap_l swap_m address other by_m by_l = by_cases (axioms.atomicity l (suc m) swap_l store_m (λ same. other (omega (arith, same))))
    where
      store_l : IsStore t (suc l)
      store_l = IsSwapLoad-store t l swap_l

      store_m : IsStore t (suc m)
      store_m = IsSwapLoad-store t m swap_m

      by_order : IsUpTo order (suc l) m ⊎ IsUpTo order (suc m) (suc l) → IsUpTo order (suc l) (suc m) → ⊥
      by_order (inl first) up_to = first_taken m l r swap_l (address_turned t m l address) by_l by_m first
      by_order (inr second) up_to =
          let once = axioms.memory_order.once (suc m) (store_event t (suc m) store_m) in
          let is : suc l ≡ suc m = place_same order (suc l) (suc m) (omega arith) (omega arith) in
          other (omega (arith, is))

      by_cases : IsUpTo order (suc m) l ⊎ IsUpTo order (suc l) (suc m) → ⊥
      by_cases (inl first) = first_taken l m r swap_m address by_m by_l first
      by_cases (inr second) = by_order (axioms.atomicity m (suc l) swap_m store_l (λ same. other (omega (arith, same)))) second
