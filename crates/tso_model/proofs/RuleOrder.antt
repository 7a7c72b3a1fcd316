-- The base rules by their places in the order in which a justification tries them.
use Rattle.std.proofs.Common.{◌≡◌, ℕ, zero, suc, ◌<◌, ◌≤◌, get_or, refl, sym, subst, inl, inr, arith}
use Rattle.std.proofs.lemmas.Bool.{cases_lt}
use Rattle.tso_ops.specs.Values.{TraceValue}
use Rattle.tso_cert.specs.declared.rules.BaseRule.{BaseRule}
use Rattle.tso_cert.specs.declared.rules.BaseRule.TheVariants.{Init, LoadOp, StoreStore, Stbar, Membar, Read, Own}
use Rattle.tso_cert.specs.Internal.LineValues.{base_rules}
use Rattle.tso_model.specs.Rules.{BasePair}
use Rattle.tso_model.specs.Certs.{base_index, IsFirstBase}

-- a rule stands at its place
rule_at : (rule : BaseRule) → get_or base_rules (base_index rule) Init ≡ rule
rule_at Init = refl
rule_at LoadOp = refl
rule_at StoreStore = refl
rule_at Stbar = refl
rule_at Membar = refl
rule_at Read = refl
rule_at Own = refl

place_below : (rule : BaseRule) → base_index rule < 7
place_below Init = omega arith
place_below LoadOp = omega arith
place_below StoreStore = omega arith
place_below Stbar = omega arith
place_below Membar = omega arith
place_below Read = omega arith
place_below Own = omega arith

-- and the rule at a place has it
place_of : (k : ℕ) → k < 7 → base_index (get_or base_rules k Init) ≡ k
place_of zero low = refl
place_of (suc zero) low = refl
place_of (suc (suc zero)) low = refl
place_of (suc (suc (suc zero))) low = refl
place_of (suc (suc (suc (suc zero)))) low = refl
place_of (suc (suc (suc (suc (suc zero))))) low = refl
place_of (suc (suc (suc (suc (suc (suc zero)))))) low = refl
place_of (suc (suc (suc (suc (suc (suc (suc k))))))) low = absurd (omega arith)

-- a rule that gives the edge stands at no place before which none does
not_before : (t : TraceValue) (u v k : ℕ) → ((j : ℕ) → j < k → BasePair t (get_or base_rules j Init) u v → ⊥) → (rule : BaseRule) → BasePair t rule u v → k ≤ base_index rule
not_before t u v k none rule pair = elim (cases_lt (base_index rule) k) [
  | inl before ↦ absurd (none (base_index rule) before (subst (λ r. BasePair t r u v) (sym (rule_at rule)) pair))
  | inr from ↦ from
]

-- the rule at a place gives the edge, and none before it does
pub first_base : (t : TraceValue) (u v k : ℕ) → k < 7 → BasePair t (get_or base_rules k Init) u v → ((j : ℕ) → j < k → BasePair t (get_or base_rules j Init) u v → ⊥) →
    IsFirstBase t u v (get_or base_rules k Init)
first_base t u v k low pair none = (pair, λ other given. rw (place_of k low) (not_before t u v k none other given))

-- no rule gives the edge
pub no_base : (t : TraceValue) (u v k : ℕ) → 7 ≤ k → ((j : ℕ) → j < k → BasePair t (get_or base_rules j Init) u v → ⊥) → (rule : BaseRule) → BasePair t rule u v → ⊥
no_base t u v k past none rule pair = let low = place_below rule in let from = not_before t u v k none rule pair in absurd (omega (arith, low, from, past))
