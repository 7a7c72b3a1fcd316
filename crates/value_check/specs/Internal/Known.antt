-- What is known of a log's events by the steps so far.
use Rattle.std.specs.Prelude.{◌≡◌, ◌≢◌, ◌↔◌, ℕ, suc, ◌<◌, false, Bool, IsTrue, cond, List, length, get_or, map}
use Rattle.std.specs.List.{Contains}
use Rattle.tso_ops.specs.Values.{TraceValue}
use Rattle.tso_ops.specs.Events.{HasFirstValue, IsEvent, IsLoad, IsSwapLoad, SameAddress}
use Rattle.chain_reach.specs.Groups.{count_of}
use Rattle.chain_reach.specs.Leading.{Leads}
use Rattle.program_chains.specs.declared.events.LogEvent.{LogEvent}
use Rattle.program_chains.specs.Chains.{AreProgramChains}
use Rattle.program_chains.specs.LogEvents.{AreEventsOf}
use Rattle.value_evidence.specs.declared.steps.ValueStep.{ValueStep}
use Rattle.value_evidence.specs.declared.steps.ValueStep.TheVariants.{Read}
use Rattle.value_evidence.specs.Candidates.{ComesBefore, SaysBefore}
use Rattle.value_check.specs.declared.cells.Cells.{Cells}
use Rattle.value_check.specs.declared.known.Known.{Known}
use Rattle.value_check.specs.Internal.Cells.{AreCells, class_in}
use Rattle.value_check.specs.Internal.Noted.{IsNotedOf, noted_at}

-- the key of an event by its address and value, and by its address alone
abbrev pub value_key : LogEvent → ℕ × ℕ
value_key e = (e.address, e.value)

abbrev pub address_only : LogEvent → ℕ × ℕ
address_only e = (e.address, 0)

-- the two keys, the first where the test is true
abbrev pub key_by : Bool → LogEvent → ℕ × ℕ
key_by by_value e = (e.address, cond by_value e.value 0)

-- The tables are of the events of these operations.
pub record AreTablesOf (t : TraceValue) (k : Known) : Type 0 where
  pub events : AreEventsOf t k.events.items
  pub chains : AreProgramChains t k.reach.chains
  pub values : AreCells (map value_key k.events.items) k.reach.chains k.values
  pub addresses : AreCells (map address_only k.events.items) k.reach.chains k.addresses
  pub first_sized : length k.has_first.items ≡ length k.events.items
  pub first : (x : ℕ) → x < length k.events.items → IsTrue (get_or k.has_first.items x false) ↔ HasFirstValue t (suc x)
  pub sources_sized : length k.sources.items ≡ length k.events.items
  pub takers_sized : length k.takers.items ≡ length k.events.items
  pub first_takers_sized : length k.first_takers.items ≡ count_of k.addresses.classes

-- steps say that a swap's load read a store to its address
abbrev pub Takes : TraceValue → List ValueStep → ℕ → ℕ → Type 0
Takes t steps x m = IsSwapLoad t (suc m) × SameAddress t (suc x) (suc m) × Contains steps (Read (suc m) (suc x))

-- steps say that a swap's load read the first value, and its address is of this class
abbrev pub TakesFirst : TraceValue → List ValueStep → Cells → ℕ → ℕ → Type 0
TakesFirst t steps addresses d m = IsSwapLoad t (suc m) × (class_in addresses m ≡ d) × Contains steps (Read (suc m) 0)

-- another swap of the address read number r, if load l is a swap's
abbrev pub IsTaken : TraceValue → List ValueStep → ℕ → ℕ → Type 0
IsTaken t steps l r = (m : ℕ) × IsSwapLoad t l × IsSwapLoad t m × SameAddress t m l × (m ≢ l) × Contains steps (Read m r)

-- The tables are of these operations, and what is known is just what the steps say; of swaps that took a source, what earlier steps say.
pub record IsKnownFrom (t : TraceValue) (steps earlier : List ValueStep) (k : Known) : Type 0 where
  pub tables : AreTablesOf t k
  pub leads : (x y : ℕ) → Leads k.reach x y ↔ ComesBefore t steps (suc x) (suc y)
  pub events : (step : ValueStep) (u v : ℕ) → Contains steps step → SaysBefore step u v → IsEvent t u × IsEvent t v
  pub sources : (l : ℕ) → l < length k.events.items → IsNotedOf (noted_at k.sources.items l) (λ s. Contains steps (Read (suc l) s))
  pub takers : (x : ℕ) → x < length k.events.items → IsNotedOf (noted_at k.takers.items x) (Takes t earlier x)
  pub first_takers : (d : ℕ) → d < count_of k.addresses.classes → IsNotedOf (noted_at k.first_takers.items d) (TakesFirst t earlier k.addresses d)

-- the tables are of these operations, and what is known is just what the steps say
abbrev pub IsKnownBy : TraceValue → List ValueStep → Known → Type 0
IsKnownBy t steps k = IsKnownFrom t steps steps k

-- the step says that u comes before v, and nothing else
abbrev pub SaysJust : ValueStep → ℕ → ℕ → Type 0
SaysJust step u v = (x y : ℕ) → SaysBefore step x y ↔ ((u ≡ x) × (v ≡ y))

-- The step speaks of events, and of a load where it says what that read.
pub record IsOfEvents (t : TraceValue) (s : ValueStep) : Type 0 where
  pub pairs : (u v : ℕ) → SaysBefore s u v → IsEvent t u × IsEvent t v
  pub loads : (l r : ℕ) → s ≡ Read l r → IsLoad t l
