-- Which stores wrote a value to an address.
use Rattle.std.specs.Prelude.{◌≡◌, ℕ, suc, ◌<◌, IsFalse, List, Option, None, Some, slice_get, nat_eq, ◌&&◌, Bool}
use Rattle.std.specs.HashMap.{HashMap, get}
use Rattle.log_selections.specs.declared.accesses.Access.{Access}
use Rattle.log_selections.specs.declared.writers.Writers.{Writers}
use Rattle.log_selections.specs.declared.writers.Writers.TheVariants.{One, Several}

-- Access k, from 0, stores this value to this address.
abbrev pub IsStoreOf : List Access → ℕ × ℕ → ℕ → Type 0
IsStoreOf accesses written k = (x : Access) × (slice_get accesses k ≡ Some x) × IsFalse x.load × (x.a ≡ written.0) × (x.value ≡ written.1)

-- What a look-up gives, after the first `count` accesses.
abbrev pub FindsWriter : List Access → ℕ → ℕ × ℕ → Option Writers → Type 0
FindsWriter accesses count written None = (k : ℕ) → k < count → IsStoreOf accesses written k → ⊥
FindsWriter accesses count written (Some (One n)) =
    (k : ℕ) × (k < count) × (n ≡ suc k) × IsStoreOf accesses written k × ((j : ℕ) → j < count → IsStoreOf accesses written j → j ≡ k)
FindsWriter accesses count written (Some Several) = (j : ℕ) × (k : ℕ) × (j < k) × (k < count) × IsStoreOf accesses written j × IsStoreOf accesses written k

-- what a look-up gives after one more store of the value, of this number
abbrev pub with_store : Option Writers → ℕ → Writers
with_store None n = One n
with_store (Some found) n = Several

abbrev pub same_written : ℕ × ℕ → ℕ × ℕ → Bool
same_written u v = nat_eq u.0 v.0 && nat_eq u.1 v.1

module _ {S : Type 0} where
  abbrev pub FindsWriters : List Access → ℕ → HashMap (ℕ × ℕ) Writers S → Type 0
  FindsWriters accesses count writers = (written : ℕ × ℕ) → FindsWriter accesses count written (get same_written writers written)
