-- Which refutations hold for a trace, so that it has no order of its model.
use Rattle.std.specs.Prelude.{◌≡◌, ◌≢◌, ◌⊎◌, ℕ, List}
use Rattle.tso_ops.specs.Values.{TraceValue}
use Rattle.tso_ops.specs.Events.{IsEvent}
use Rattle.tso_cert.specs.declared.steps.CertStep.{CertStep}
use Rattle.tso_evidence.specs.declared.refutations.RefutationLine.{RefutationLine}
use Rattle.tso_evidence.specs.Refutations.{Refutation, cycle, step, split, lines_of}
use Rattle.order_paths.specs.Paths.{IsCycle}
use Rattle.tso_model.specs.Certs.{MeetsRule, IsPathIn}

-- no pair
abbrev pub NoPair : ℕ → ℕ → Type 0
NoPair x y = ⊥

-- the pairs, and that of u and v
abbrev pub WithPair : (ℕ → ℕ → Type 0) → ℕ → ℕ → ℕ → ℕ → Type 0
WithPair Pair u v x y = Pair x y ⊎ ((u ≡ x) × (v ≡ y))

-- u and v are different events, so that in each order one of them comes before the other
abbrev pub AreTwoEvents : TraceValue → ℕ → ℕ → Type 0
AreTwoEvents t u v = IsEvent t u × IsEvent t v × (u ≢ v)

-- the step meets its rule, by a path over these pairs
abbrev pub StepHoldsOver : TraceValue → (ℕ → ℕ → Type 0) → CertStep → Type 0
StepHoldsOver t Pair s = MeetsRule t s.from s.to s.reason × IsPathIn Pair s.reason

-- The refutation holds where these pairs are in force. Then no order of the model keeps all of them: one that keeps the pairs of a step's path
-- keeps the step's own pair, and of the two pairs of a case each order keeps one.
abbrev pub HoldsUnder : TraceValue → (ℕ → ℕ → Type 0) → Refutation → Type 0
-- a cycle of pairs in force, which isn't empty
HoldsUnder t Pair (cycle numbers) = IsCycle Pair numbers
-- a step that holds puts its pair in force
HoldsUnder t Pair (step s rest) = StepHoldsOver t Pair s × HoldsUnder t (WithPair Pair s.from s.to) rest
-- the first part holds where u comes before v, and the second where v comes before u
HoldsUnder t Pair (split u v first second) =
    AreTwoEvents t u v × HoldsUnder t (WithPair Pair u v) first × HoldsUnder t (WithPair Pair v u) second

-- The lines are those of a refutation that holds, where no pair is in force at its beginning.
abbrev pub RefutationHolds : TraceValue → List RefutationLine → Type 0
RefutationHolds t lines = (r : Refutation) × (lines ≡ lines_of r) × HoldsUnder t NoPair r
