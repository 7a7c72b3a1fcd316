-- What is known of a processor's events up to a number.
use Rattle.std.specs.Prelude.{◌≡◌, ◌⊎◌, ℕ, ◌<◌, ◌≤◌, IsTrue, IsFalse, List, Some, nat_eq, unwrap_or}
use Rattle.std.specs.HashMap.{HashMap, get}
use Rattle.tso_ops.specs.Values.{TraceValue}
use Rattle.tso_ops.specs.declared.events.Event.{Event}
use Rattle.tso_ops.specs.Events.{event_at}
use Rattle.log_order_check.specs.declared.passed.Fence.{Fence}
use Rattle.log_order_check.specs.declared.passed.Passed.{Passed}
use Rattle.log_order_check.specs.Internal.Most.{IsMost}

-- number u is up to x, and its event has a property
abbrev pub IsOneUpTo : TraceValue → ℕ → (Event → Type 0) → ℕ → Type 0
IsOneUpTo t x P u = (u ≤ x) × ((d : Event) × (event_at t u ≡ Some d) × P d)

-- it is a load of processor p
abbrev pub IsLoadUpTo : TraceValue → ℕ → ℕ → ℕ → Type 0
IsLoadUpTo t x p u = IsOneUpTo t x (λ (d : Event). IsTrue d.load × (d.proc ≡ p)) u

-- it is a store of processor p
abbrev pub IsStoreUpTo : TraceValue → ℕ → ℕ → ℕ → Type 0
IsStoreUpTo t x p u = IsOneUpTo t x (λ (d : Event). IsFalse d.load × (d.proc ≡ p)) u

-- and fewer barriers of a kind than this many stand before it
abbrev pub IsStoreBefore : TraceValue → (Event → ℕ) → ℕ → ℕ → ℕ → ℕ → Type 0
IsStoreBefore t barriers count x p u = IsOneUpTo t x (λ (d : Event). IsFalse d.load × (d.proc ≡ p) × (barriers d < count)) u

-- it is a store of the pair's processor to its address
abbrev pub IsStoreToUpTo : TraceValue → ℕ → ℕ × ℕ → ℕ → Type 0
IsStoreToUpTo t x key u = IsOneUpTo t x (λ (d : Event). IsFalse d.load × (d.proc ≡ key.0) × (d.a ≡ key.1)) u

-- Of processor p's events up to number x: how many barriers of a kind stand before the last one, and the greatest place of those stores that fewer
-- barriers stand before.
pub record IsFence (t : TraceValue) (places : List ℕ) (barriers : Event → ℕ) (x p : ℕ) (fence : Fence) : Type 0 where
  pub before : IsMost (IsStoreBefore t barriers fence.count x p) places fence.before
  pub up_to : (u : ℕ) (d : Event) → u ≤ x → event_at t u ≡ Some d → d.proc ≡ p → barriers d ≤ fence.count
  pub last : (fence.count ≡ 0) ⊎ ((u : ℕ) × (d : Event) × (u ≤ x) × (event_at t u ≡ Some d) × (d.proc ≡ p) × (barriers d ≡ fence.count))

-- Of processor p's events up to number x: the greatest places of loads and of stores, and the fences of both kinds of barriers.
pub record IsPassed (t : TraceValue) (places : List ℕ) (x p : ℕ) (passed : Passed) : Type 0 where
  pub loads : IsMost (IsLoadUpTo t x p) places passed.loads
  pub stores : IsMost (IsStoreUpTo t x p) places passed.stores
  pub stbars : IsFence t places (λ (d : Event). d.stbars) x p passed.stbars
  pub barriers : IsFence t places (λ (d : Event). d.bars) x p passed.barriers

-- what is known of a processor with no event
abbrev pub none_passed : Passed
none_passed = record { loads = 0; stores = 0; stbars = record { count = 0; before = 0 }; barriers = record { count = 0; before = 0 } }

-- what a table has of a processor
abbrev pub processor_in : {S : Type 0} → HashMap ℕ Passed S → ℕ → Passed
processor_in table p = unwrap_or (get nat_eq table p) none_passed
