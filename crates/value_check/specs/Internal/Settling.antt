-- What a step asks of the numbers that a load can have read.
use Rattle.std.specs.Prelude.{◌≡◌, ◌⊎◌, ℕ, suc, ◌<◌, List, length, slice_index}
use Rattle.std.specs.List.{Contains}
use Rattle.tso_ops.specs.Values.{TraceValue}
use Rattle.tso_ops.specs.Events.{Earlier, HasSource, IsStore}
use Rattle.chain_reach.specs.Groups.{IsIn}
use Rattle.value_evidence.specs.declared.steps.ValueStep.{ValueStep}
use Rattle.value_evidence.specs.Candidates.{ComesBefore, IsGone, IsProgramPair, SeesStore}
use Rattle.value_evidence.specs.Evidence.{IsUpToBy}
use Rattle.value_check.specs.declared.known.Known.{Known}
use Rattle.value_check.specs.declared.settling.Demand.{Demand}
use Rattle.value_check.specs.declared.settling.Question.{Question}
use Rattle.value_check.specs.declared.settling.Demand.TheVariants.{Is, After, Before, UpTo, SetAside}

-- the number of a source meets what is asked
abbrev pub Meets : TraceValue → List ValueStep → ℕ → Demand → ℕ → Type 0
Meets t steps l (Is number) r = r ≡ number
Meets t steps l (After from) r = (0 < r) × (Earlier t r l → ⊥) × IsUpToBy t steps (suc from) r
Meets t steps l (Before to) r = (r ≡ 0) ⊎ ComesBefore t steps r (suc to)
Meets t steps l (UpTo to) r = IsUpToBy t steps r (suc to)
Meets t steps l (SetAside numbers) r = Contains numbers.items r

-- it does, or the load can't have read it
abbrev pub IsSettled : TraceValue → List ValueStep → ℕ → Demand → ℕ → Type 0
IsSettled t steps l wanted r = IsGone t steps l r ⊎ Meets t steps l wanted r

-- the same of a store at an index
abbrev pub Settles : TraceValue → List ValueStep → Question → ℕ → Type 0
Settles t steps q x = IsSettled t steps (suc q.load) q.wanted (suc x)

-- event r is event x, or before it in program order
abbrev pub IsUpToInProgram : TraceValue → ℕ → ℕ → Type 0
IsUpToInProgram t r x = (r ≡ x) ⊎ IsProgramPair t r x

-- one of these stores is store w, or after it in program order
abbrev pub HasLater : TraceValue → List ℕ → ℕ → Type 0
HasLater t stores w = (v : ℕ) × Contains stores v × IsUpToInProgram t (suc w) (suc v)

-- The load sees these stores, and each other that it sees is before one of them in program order.
pub record AreLastSeen (t : TraceValue) (steps : List ValueStep) (load : ℕ) (stores : List ℕ) : Type 0 where
  pub seen : (w : ℕ) → Contains stores w → SeesStore t steps (suc load) (suc w)
  pub last : (w : ℕ) → SeesStore t steps (suc load) (suc w) → HasLater t stores w

-- those of a question
abbrev pub AreSeen : TraceValue → List ValueStep → Question → Type 0
AreSeen t steps q = AreLastSeen t steps q.load q.seen.items

-- the load sees a store that comes after this one
abbrev pub IsOver : TraceValue → List ValueStep → ℕ → ℕ → Type 0
IsOver t steps l r = (w : ℕ) × SeesStore t steps l w × ComesBefore t steps r w

-- a store, and what is before it in program order, is settled since it comes before something
abbrev pub IsLedOn : TraceValue → List ValueStep → Demand → ℕ → Type 0
IsLedOn t steps (Is number) r = ⊥
IsLedOn t steps (After from) r = ⊥
IsLedOn t steps (Before to) r = ComesBefore t steps r (suc to)
IsLedOn t steps (UpTo to) r = ComesBefore t steps r (suc to)
IsLedOn t steps (SetAside numbers) r = ⊥

abbrev pub SettlesBefore : TraceValue → List ValueStep → Question → ℕ → Type 0
SettlesBefore t steps q x = IsOver t steps (suc q.load) (suc x) ⊎ IsLedOn t steps q.wanted (suc x)

-- a store, and what is after it in program order, is settled since it comes after something
abbrev pub IsLedTo : TraceValue → List ValueStep → Demand → ℕ → Type 0
IsLedTo t steps (Is number) r = ⊥
IsLedTo t steps (After from) r = ComesBefore t steps (suc from) r
IsLedTo t steps (Before to) r = ⊥
IsLedTo t steps (UpTo to) r = ⊥
IsLedTo t steps (SetAside numbers) r = ⊥

abbrev pub SettlesAfter : TraceValue → List ValueStep → Question → ℕ → Type 0
SettlesAfter t steps q x = (Earlier t (suc x) (suc q.load) → ⊥) × (ComesBefore t steps (suc q.load) (suc x) ⊎ IsLedTo t steps q.wanted (suc x))

-- a store itself is as asked
abbrev pub IsAsked : TraceValue → Question → Demand → ℕ → Type 0
IsAsked t q (Is number) x = suc x ≡ number
IsAsked t q (After from) x = (from ≡ x) × (Earlier t (suc x) (suc q.load) → ⊥)
IsAsked t q (Before to) x = ⊥
IsAsked t q (UpTo to) x = x ≡ to
IsAsked t q (SetAside numbers) x = Contains numbers.items (suc x)

-- the load can have read these stores by their values
abbrev pub AreSources : TraceValue → ℕ → List ℕ → Type 0
AreSources t load stores = (i : ℕ) → i < length stores → HasSource t (suc load) (suc (slice_index stores i))

-- each of these events is in program order before those after it
abbrev pub AreInOrder : TraceValue → List ℕ → Type 0
AreInOrder t events = (i j : ℕ) → i < j → j < length events → IsProgramPair t (suc (slice_index events i)) (suc (slice_index events j))

-- one of the stores isn't settled
abbrev pub HasUnsettled : TraceValue → List ValueStep → Question → List ℕ → Type 0
HasUnsettled t steps q stores = (i : ℕ) × (i < length stores) × (Settles t steps q (slice_index stores i) → ⊥)

-- all stores of a cell are settled, or one isn't
abbrev pub SettlesIn : TraceValue → List ValueStep → Known → Question → ℕ → Type 0
SettlesIn t steps k q cell = (x : ℕ) → IsIn k.values.cells cell x → IsStore t (suc x) → Settles t steps q x

abbrev pub HasUnsettledIn : TraceValue → List ValueStep → Known → Question → ℕ → Type 0
HasUnsettledIn t steps k q cell = (x : ℕ) × IsIn k.values.cells cell x × HasSource t (suc q.load) (suc x) × (Settles t steps q x → ⊥)

-- the event of this index is a store that the load sees
abbrev pub IsSeen : TraceValue → List ValueStep → ℕ → ℕ → Type 0
IsSeen t steps load x = SeesStore t steps (suc load) (suc x)

-- those of the events that the load sees as stores stand before the others
abbrev pub AreSeenFirst : TraceValue → List ValueStep → ℕ → List ℕ → Type 0
AreSeenFirst t steps load events =
    (i j : ℕ) → i < j → j < length events → IsSeen t steps load (slice_index events j) → IsSeen t steps load (slice_index events i)

-- of each store of a cell that the load sees one of these stores is a later one of its processor, or the same
abbrev pub IsLastOfCell : TraceValue → List ValueStep → Known → ℕ → ℕ → List ℕ → Type 0
IsLastOfCell t steps k load cell stores =
    (w : ℕ) → IsIn k.addresses.cells cell w → SeesStore t steps (suc load) (suc w) → HasLater t stores w
