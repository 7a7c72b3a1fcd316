-- The traces of final states, while those that stand there before are left out.
use Rattle.std.specs.Prelude.{◌≡◌, List, [], ◌∷◌, ◌++◌, All, map}
use Rattle.tso_ops.specs.Values.{ProgramValue, TraceValue}
use Rattle.final_states.specs.FinalStates.{FinalStateValue, values_read}
use Rattle.outcome_reports.specs.Internal.Counting.{AreRising}
use Rattle.final_states.specs.FinalStates.{IsRunTrace}

-- it stands in the list
abbrev pub StandsIn : {X : Type 0} → List X → X → Type 0
StandsIn {X} list x = (before : List X) × (after : List X) × (list ≡ before ++ x ∷ after)

-- These are the traces of the states, each once, and they ascend; the last one is the last state's.
pub record HasTracesOf (program : ProgramValue) (states : List FinalStateValue) (traces : List TraceValue) : Type 0 where
  pub each : All (IsRunTrace program) traces
  pub all : All (λ state. StandsIn traces state.trace) states
  pub rising : AreRising (map values_read traces)
  pub last : (before : List FinalStateValue) (state : FinalStateValue) → states ≡ before ++ state ∷ [] → (front : List TraceValue) × (traces ≡ front ++ state.trace ∷ [])
  pub none : states ≡ [] → traces ≡ []
