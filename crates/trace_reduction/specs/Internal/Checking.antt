-- What is checked of each event and of each pair of events of a small trace, by the numbers that they have in the whole trace.
use Rattle.std.specs.Prelude.{◌≡◌, ◌↔◌, ℕ, suc}
use Rattle.tso_ops.specs.Values.{TraceValue}
use Rattle.tso_ops.specs.Events.{IsEvent, IsLoad, IsStore, IsSwapLoad, SameAddress, Earlier, HasFewerBarriersBefore, HasFewerStbarsBefore, HasSource}

-- Event n is one of the same kind in the whole trace, and reads from the same source.
pub record KeepsEvent (t small : TraceValue) (origin : ℕ → ℕ) (n : ℕ) : Type 0 where
  pub load : IsLoad small n → IsLoad t (origin n)
  pub store : IsStore small n → IsStore t (origin n)
  pub swap : IsSwapLoad small n → IsSwapLoad t (origin n) × (origin (suc n) ≡ suc (origin n))
  pub source : IsLoad small n → (s : ℕ) × HasSource small n s × HasSource t (origin n) (origin s)

-- Numbers u and v stand to each other as their events do in the whole trace, which may have more barriers between them.
pub record KeepsPair (t small : TraceValue) (origin : ℕ → ℕ) (u v : ℕ) : Type 0 where
  pub once : origin u ≡ origin v → u ≡ v
  pub program_order : Earlier small u v ↔ Earlier t (origin u) (origin v)
  pub addresses : SameAddress small u v ↔ SameAddress t (origin u) (origin v)
  pub barriers : Earlier small u v → HasFewerBarriersBefore small u v → HasFewerBarriersBefore t (origin u) (origin v)
  pub stbars : Earlier small u v → HasFewerStbarsBefore small u v → HasFewerStbarsBefore t (origin u) (origin v)

-- each event is so
abbrev pub KeepsEvents : TraceValue → TraceValue → (ℕ → ℕ) → Type 0
KeepsEvents t small origin = (n : ℕ) → IsEvent small n → KeepsEvent t small origin n

-- each pair of an event with event u is so
abbrev pub KeepsPairsOf : TraceValue → TraceValue → (ℕ → ℕ) → ℕ → Type 0
KeepsPairsOf t small origin u = (v : ℕ) → IsEvent small v → KeepsPair t small origin u v

-- each pair of events is so
abbrev pub KeepsPairs : TraceValue → TraceValue → (ℕ → ℕ) → Type 0
KeepsPairs t small origin = (u : ℕ) → IsEvent small u → KeepsPairsOf t small origin u
