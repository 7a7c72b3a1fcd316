-- Refutations by values, as trees, the lines that they are written in, and which of them hold.
use Rattle.std.specs.Prelude.{◌≡◌, ◌≢◌, ℕ, List, [], ◌∷◌, ◌++◌, map}
use Rattle.std.specs.List.{Contains}
use Rattle.tso_ops.specs.Values.{TraceValue}
use Rattle.tso_ops.specs.Events.{IsEvent, IsLoad}
use Rattle.value_evidence.specs.declared.steps.ValueStep.{ValueStep}
use Rattle.value_evidence.specs.declared.steps.ValueStep.TheVariants.{Read, In}
use Rattle.value_evidence.specs.declared.steps.ValueEnd.{ValueEnd}
use Rattle.value_evidence.specs.declared.steps.ValueEnd.TheVariants.{NoSource, Cycle}
use Rattle.value_evidence.specs.declared.refutations.ValueRefutationLine.{ValueRefutationLine}
use Rattle.value_evidence.specs.declared.refutations.ValueRefutationLine.TheVariants.{Step, ReadCase, BeforeCase, Else, End}
use Rattle.value_evidence.specs.Candidates.{ComesBefore, CanRead}
use Rattle.value_evidence.specs.Evidence.{ValueStepHolds}

-- Why a log has no order: steps, and then an end, or a case with two refutations.
pub data ValueRefutation : Type 0 where
  end : ValueEnd → ValueRefutation
  -- a step, and what comes after it
  step : ValueStep → ValueRefutation → ValueRefutation
  -- a load and a source, then the refutation where it read that, then that where it read another
  by_source : ℕ → ℕ → ValueRefutation → ValueRefutation → ValueRefutation
  -- u and v, then the refutation where u comes before v, then that where v comes before u
  by_order : ℕ → ℕ → ValueRefutation → ValueRefutation → ValueRefutation

-- the lines of a refutation
abbrev pub value_lines_of : ValueRefutation → List ValueRefutationLine
value_lines_of (end e) = End e ∷ []
value_lines_of (step s rest) = Step s ∷ value_lines_of rest
value_lines_of (by_source load source first second) = ReadCase load source ∷ value_lines_of first ++ Else ∷ value_lines_of second
value_lines_of (by_order u v first second) = BeforeCase u v ∷ value_lines_of first ++ Else ∷ value_lines_of second

-- the lines are those of a refutation
abbrev pub IsValueRefutation : List ValueRefutationLine → Type 0
IsValueRefutation lines = (r : ValueRefutation) × (lines ≡ value_lines_of r)

-- the lines of evidence, which is a refutation without cases
abbrev pub evidence_lines : List ValueStep → ValueEnd → List ValueRefutationLine
evidence_lines steps e = map Step steps ++ End e ∷ []

-- ---- which refutations hold

-- a step that says that u comes before v, where that is supposed
abbrev pub supposed_before : ℕ → ℕ → ValueStep
supposed_before u v = In u v

-- u and v are different events, so that in each order one of them comes before the other
abbrev pub AreTwoLogEvents : TraceValue → ℕ → ℕ → Type 0
AreTwoLogEvents t u v = IsEvent t u × IsEvent t v × (u ≢ v)

-- The steps, and the sources of loads that are set aside, leave no order: a load can have read nothing but what is set aside of it.
abbrev pub EndHoldsBeside : TraceValue → List ValueStep → List (ℕ × ℕ) → ValueEnd → Type 0
EndHoldsBeside t steps aside (NoSource l) = IsLoad t l × ((r : ℕ) → CanRead t steps l r → Contains aside (l, r))
EndHoldsBeside t steps aside (Cycle u) = ComesBefore t steps u u

-- The refutation holds where these steps are in force, and these sources of loads are set aside. Then no order of the model keeps the steps and has
-- loads read nothing that is set aside: of what a case supposes and of its opposite each order keeps one.
abbrev pub HoldsBeside : TraceValue → List ValueStep → List (ℕ × ℕ) → ValueRefutation → Type 0
HoldsBeside t steps aside (end e) = EndHoldsBeside t steps aside e
HoldsBeside t steps aside (step s rest) = ValueStepHolds t steps s × HoldsBeside t (steps ++ s ∷ []) aside rest
HoldsBeside t steps aside (by_source load source first second) =
    IsLoad t load × HoldsBeside t (steps ++ Read load source ∷ []) aside first × HoldsBeside t steps (aside ++ (load, source) ∷ []) second
HoldsBeside t steps aside (by_order u v first second) =
    AreTwoLogEvents t u v × HoldsBeside t (steps ++ supposed_before u v ∷ []) aside first × HoldsBeside t (steps ++ supposed_before v u ∷ []) aside second

-- The lines are those of a refutation that holds, where nothing is in force at its beginning.
abbrev pub ValueRefutationHolds : TraceValue → List ValueRefutationLine → Type 0
ValueRefutationHolds t lines = (r : ValueRefutation) × (lines ≡ value_lines_of r) × HoldsBeside t [] [] r
