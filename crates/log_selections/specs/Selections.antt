-- Traces that are selections of a log: some of its operations, renamed. A log's operations are those of a trace without limits: there may be any number
-- of them, at any addresses, with any values, which may repeat.
use Rattle.std.specs.Prelude.{◌≡◌, ◌↔◌, ℕ, suc}
use Rattle.tso_ops.specs.Values.{TraceValue}
use Rattle.tso_ops.specs.Events.{IsEvent, IsLoad, IsStore, IsSwapLoad, SameAddress, Earlier, HasFewerBarriersBefore, HasFewerStbarsBefore, HasSource}
use Rattle.log_selections.specs.Sources.{IsOnlySource}

-- Each event of the trace is the event of the log whose number `origin` gives for its own.
pub record IsSelectionBy (log t : TraceValue) (origin : ℕ → ℕ) : Type 0 where
  -- the trace has the log's memory model
  pub model : t.setting.order ≡ log.setting.order
  pub load : (n : ℕ) → IsLoad t n → IsLoad log (origin n)
  pub store : (n : ℕ) → IsStore t n → IsStore log (origin n)
  -- no event of the log is selected twice
  pub once : (u v : ℕ) → IsEvent t u → IsEvent t v → origin u ≡ origin v → u ≡ v
  -- Two events are of one processor, in this order, exactly where they are so in the log.
  pub program_order : (u v : ℕ) → IsEvent t u → IsEvent t v → Earlier t u v ↔ Earlier log (origin u) (origin v)
  -- Addresses are renamed: two events have one address exactly where they have one in the log.
  pub addresses : (u v : ℕ) → IsEvent t u → IsEvent t v → SameAddress t u v ↔ SameAddress log (origin u) (origin v)
  -- A barrier between two events of a processor is one of the log's between them. The log may have barriers that the trace leaves out.
  pub barriers : (u v : ℕ) → Earlier t u v → HasFewerBarriersBefore t u v → HasFewerBarriersBefore log (origin u) (origin v)
  pub stbars : (u v : ℕ) → Earlier t u v → HasFewerStbarsBefore t u v → HasFewerStbarsBefore log (origin u) (origin v)
  -- A swap of the trace is a swap of the log. A load or a store of the trace may be one of the log's swap's.
  pub swap : (l : ℕ) → IsSwapLoad t l → IsSwapLoad log (origin l) × (origin (suc l) ≡ suc (origin l))
  -- Init is init, and each load reads in the trace from the only source that it can have in the log. So the store that it read is selected, and the
  -- renamed values say which it is.
  pub init : origin 0 ≡ 0
  pub source : (l : ℕ) → IsLoad t l → (s : ℕ) × HasSource t l s × IsOnlySource log (origin l) (origin s)

-- The trace is a selection of the log.
abbrev pub IsSelection : TraceValue → TraceValue → Type 0
IsSelection log t = (origin : ℕ → ℕ) × IsSelectionBy log t origin
