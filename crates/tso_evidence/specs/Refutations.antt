-- Refutations, as trees, and the lines that they are written in.
use Rattle.std.specs.Prelude.{◌≡◌, ℕ, List, [], ◌∷◌, ◌++◌}
use Rattle.tso_cert.specs.declared.steps.CertStep.{CertStep}
use Rattle.tso_evidence.specs.declared.refutations.RefutationLine.{RefutationLine}
use Rattle.tso_evidence.specs.declared.refutations.RefutationLine.TheVariants.{Step, Case, Else, Cycle}

-- Why a trace has no order: steps, and then a cycle, or a case with two refutations, one for each order of two events.
pub data Refutation : Type 0 where
  -- the cycle of these numbers
  cycle : List ℕ → Refutation
  -- a step, and what comes after it
  step : CertStep → Refutation → Refutation
  -- u and v, then the refutation where u comes before v, then that where v comes before u
  split : ℕ → ℕ → Refutation → Refutation → Refutation

-- the lines of a refutation
abbrev pub lines_of : Refutation → List RefutationLine
lines_of (cycle numbers) = Cycle numbers ∷ []
lines_of (step s rest) = Step s ∷ lines_of rest
lines_of (split u v first second) = Case u v ∷ lines_of first ++ Else v u ∷ lines_of second

-- the lines are those of a refutation
abbrev pub IsRefutation : List RefutationLine → Type 0
IsRefutation lines = (r : Refutation) × (lines ≡ lines_of r)
