use Rattle.std.proofs.Common.{ℕ, ◌<◌, get_or}
use Rattle.tso_cert.specs.declared.rules.BaseRule.TheVariants.{Init}
use Rattle.tso_cert.specs.Internal.LineValues.{base_rules}
use Rattle.tso_model.specs.Rules.{BasePair}
use Rattle.tso_model.proofs.conditions.base.first_base_rule.Given as goal

-- no rule tried so far gives the edge
abbrev pub invariant-loop-k : goal.invariant-loop-k
invariant-loop-k l = (j : ℕ) → j < l.k → BasePair l.trace (get_or base_rules j Init) l.u l.v → ⊥
