-- Which step an operation is.
use Rattle.std.specs.Prelude.{ℕ, ◌<◌}
use Rattle.tso_ops.specs.declared.ops.Op.{Op}
use Rattle.tso_ops.specs.declared.ops.Op.TheVariants.{Ld as OpLd, St as OpSt, Sw as OpSw, Mb as OpMb, Sb as OpSb}
use Rattle.tso_ops.specs.declared.ops.Outcome.{Outcome}
use Rattle.tso_ops.specs.declared.ops.Outcome.TheVariants.{Ld, St, Sw, Mb, Sb}
use Rattle.unit_core.specs.declared.steps.Step.{Step}
use Rattle.unit_core.specs.declared.steps.Step.TheVariants.{Store, Load, Swap, Membar, Stbar}

-- a unit takes the operation: its address is in range, and the value that it stores isn't 0
abbrev pub IsIssuable : Op → Type 0
IsIssuable (OpLd a) = a < 256
IsIssuable (OpSt a v) = (a < 256) × (0 < v)
IsIssuable (OpSw a v) = (a < 256) × (0 < v)
IsIssuable OpMb = Unit {0}
IsIssuable OpSb = Unit {0}

-- the step of processor p that was answered so
abbrev pub step_of : ℕ → Outcome → Step
step_of p (Ld a r) = Load p a r
step_of p (St a v) = Store p a v
step_of p (Sw a r v) = Swap p a r v
step_of p Mb = Membar p
step_of p Sb = Stbar p
