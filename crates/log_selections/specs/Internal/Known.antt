-- The sources of loads that the values of a log tell.
use Rattle.std.specs.Prelude.{◌≡◌, ◌≢◌, ◌+◌, ℕ, zero, suc, IsTrue, List, [], Option, None, Some, slice_get, get_or}
use Rattle.tso_ops.specs.declared.events.Source.{Source}
use Rattle.tso_ops.specs.declared.events.Source.TheVariants.{Init, Store}
use Rattle.tso_ops.specs.Settings.{first_value}
use Rattle.tso_ops.specs.Events.{IsUnwritten}
use Rattle.log_selections.specs.Sources.{IsAmbiguousCount, IsOnlySource}
use Rattle.log_text.specs.declared.logs.Log.{Log}
use Rattle.log_text.specs.LogValues.{log_operations, log_value}
use Rattle.tso_ops.specs.Values.{rows}
use Rattle.log_selections.specs.declared.accesses.Access.{Access}
use Rattle.log_selections.specs.declared.sources.LoadSource.{LoadSource}
use Rattle.log_selections.specs.declared.sources.LoadSource.TheVariants.{Known, Ambiguous, Unwritten}
use Rattle.log_selections.specs.Internal.Accesses.{numbers_of_lists}
use Rattle.log_selections.specs.Internal.Writers.{IsStoreOf}

-- Number s alone can have written this value of this address: number 0 the first value.
abbrev pub IsOnlyWriter : List (ℕ × ℕ) → List Access → ℕ × ℕ → ℕ → Type 0
IsOnlyWriter first accesses written zero = (first_value first written.0 ≡ written.1) × ((k : ℕ) → IsStoreOf accesses written k → ⊥)
IsOnlyWriter first accesses written (suc k) =
    (first_value first written.0 ≢ written.1) × IsStoreOf accesses written k × ((j : ℕ) → IsStoreOf accesses written j → j ≡ k)

-- number s can have written it
abbrev pub IsWriter : List (ℕ × ℕ) → List Access → ℕ × ℕ → ℕ → Type 0
IsWriter first accesses written zero = first_value first written.0 ≡ written.1
IsWriter first accesses written (suc k) = IsStoreOf accesses written k

-- two numbers can
abbrev pub HasTwoWriters : List (ℕ × ℕ) → List Access → ℕ × ℕ → Type 0
HasTwoWriters first accesses written = (r : ℕ) × (s : ℕ) × (r ≢ s) × IsWriter first accesses written r × IsWriter first accesses written s

-- what is found of a load's value
abbrev pub IsFound : List (ℕ × ℕ) → List Access → ℕ × ℕ → LoadSource → Type 0
IsFound first accesses written (Known s) = IsOnlyWriter first accesses written s
IsFound first accesses written Ambiguous = HasTwoWriters first accesses written
IsFound first accesses written Unwritten = (first_value first written.0 ≢ written.1) × ((k : ℕ) → IsStoreOf accesses written k → ⊥)

-- the number of the source, where it is known
abbrev pub known_number : LoadSource → Option ℕ
known_number (Known s) = Some s
known_number Ambiguous = None
known_number Unwritten = None

-- Number n is a load, the value of which number s alone can have written.
abbrev pub IsKnownSource : List (ℕ × ℕ) → List Access → ℕ → ℕ → Type 0
IsKnownSource first accesses n s =
    (k : ℕ) × (n ≡ suc k) × (x : Access) × (slice_get accesses k ≡ Some x) × IsTrue x.load × IsOnlyWriter first accesses (x.a, x.value) s

-- Number n is a load, the value of which two numbers can have written.
abbrev pub IsAmbiguousLoad : List (ℕ × ℕ) → List Access → ℕ → Type 0
IsAmbiguousLoad first accesses n =
    (k : ℕ) × (n ≡ suc k) × (x : Access) × (slice_get accesses k ≡ Some x) × IsTrue x.load × HasTwoWriters first accesses (x.a, x.value)

-- Number n is a load, the value of which nothing wrote.
abbrev pub IsUnwrittenNumber : List (ℕ × ℕ) → List Access → ℕ → Type 0
IsUnwrittenNumber first accesses n =
    (k : ℕ) × (n ≡ suc k) × (x : Access) × (slice_get accesses k ≡ Some x) × IsTrue x.load × IsFound first accesses (x.a, x.value) Unwritten

-- where none is listed, none is so
abbrev pub AreAllListed : List (ℕ × ℕ) → List Access → List ℕ → Type 0
AreAllListed first accesses unwritten = unwritten ≡ [] → (n : ℕ) → IsUnwrittenNumber first accesses n → ⊥

-- how many loads are ambiguous after one more of which this was found
abbrev pub with_found : ℕ → LoadSource → ℕ
with_found count (Known s) = count
with_found count Ambiguous = count + 1
with_found count Unwritten = count

-- the source that the table has for number n
abbrev pub source_in : List (Option ℕ) → ℕ → Option ℕ
source_in numbers n = get_or numbers n None

-- the table's sources are known
abbrev pub AreSources : List (ℕ × ℕ) → List Access → List (Option ℕ) → Type 0
AreSources first accesses numbers = (n s : ℕ) → source_in numbers n ≡ Some s → IsKnownSource first accesses n s

-- What `KnownLog` keeps: the numbers of the operations, only sources, how many loads are ambiguous, and a list that is empty only where no load is
-- unwritten.
pub record IsKnownLog (log : Log) (numbers : List (List ℕ)) (sources : List (Option ℕ)) (ambiguous : ℕ) (unwritten : List ℕ) : Type 0 where
  pub numbered : numbers ≡ numbers_of_lists 1 (rows log.lists.items)
  pub known : (l s : ℕ) → source_in sources l ≡ Some s → IsOnlySource (log_operations (log_value log)) l s
  pub ambiguous_are : IsAmbiguousCount (log_value log) ambiguous
  pub unwritten_are : unwritten ≡ [] → (l : ℕ) → IsUnwritten (log_operations (log_value log)) l → ⊥

-- the source of number s
abbrev pub source_at : ℕ → Source
source_at zero = Init
source_at (suc k) = Store (suc k)
