-- Which numbers a load can have read, by the values of a log, and by what is known to come before what.
use Rattle.std.specs.Prelude.{◌≡◌, ◌≢◌, ◌⊎◌, ℕ, suc, List}
use Rattle.std.specs.List.{Contains}
use Rattle.tso_ops.specs.Values.{TraceValue}
use Rattle.tso_ops.specs.Events.{IsStore, IsSwapLoad, HasSource, SameAddress, Earlier}
use Rattle.tso_cert.specs.declared.rules.BaseRule.TheVariants.{LoadOp, StoreStore, Stbar, Membar}
use Rattle.order_paths.specs.Paths.{Reaches}
use Rattle.tso_model.specs.Rules.{BasePair}
use Rattle.value_evidence.specs.declared.steps.ValueStep.{ValueStep}
use Rattle.value_evidence.specs.declared.steps.ValueStep.TheVariants.{Read, In, Out, Over, SwapAfter, SwapBefore}

-- u comes before v by the program alone: by LoadOp, StoreStore, STBAR or MEMBAR #StoreLoad
abbrev pub IsProgramPair : TraceValue → ℕ → ℕ → Type 0
IsProgramPair t u v = BasePair t LoadOp u v ⊎ (BasePair t StoreStore u v ⊎ (BasePair t Stbar u v ⊎ BasePair t Membar u v))

-- the step says that u comes before v
abbrev pub SaysBefore : ValueStep → ℕ → ℕ → Type 0
SaysBefore (Read load source) u v = ⊥
SaysBefore (In from load) u v = (from ≡ u) × (load ≡ v)
SaysBefore (Out load to) u v = (load ≡ u) × (to ≡ v)
SaysBefore (Over from to load) u v = (from ≡ u) × (to ≡ v)
SaysBefore (SwapAfter swap to) u v = (suc swap ≡ u) × (to ≡ v)
SaysBefore (SwapBefore from swap) u v = (from ≡ u) × (swap ≡ v)

-- u comes before v by the program, or by one of the steps
abbrev pub IsPairBy : TraceValue → List ValueStep → ℕ → ℕ → Type 0
IsPairBy t steps u v = IsProgramPair t u v ⊎ ((step : ValueStep) × Contains steps step × SaysBefore step u v)

-- u comes before v by such pairs, one or several
abbrev pub ComesBefore : TraceValue → List ValueStep → ℕ → ℕ → Type 0
ComesBefore t steps = Reaches (IsPairBy t steps)

-- load l sees the store, which comes before it or is program-earlier: a processor sees its own stores before memory has them
abbrev pub SeesStore : TraceValue → List ValueStep → ℕ → ℕ → Type 0
SeesStore t steps l w = IsStore t w × SameAddress t w l × (ComesBefore t steps w l ⊎ Earlier t w l)

-- Why load l can't have read number r, which has its value.
pub data IsGone (t : TraceValue) (steps : List ValueStep) (l r : ℕ) : Type 0 where
  -- it read another
  known : (s : ℕ) → Contains steps (Read l s) → s ≢ r → IsGone t steps l r
  -- r comes after the load, and can't have been forwarded to it
  behind : ComesBefore t steps l r → (Earlier t r l → ⊥) → IsGone t steps l r
  -- the load sees a store that comes after r, or after the first value
  over : (w : ℕ) → SeesStore t steps l w → (r ≡ 0) ⊎ ComesBefore t steps r w → IsGone t steps l r
  -- another swap of the address read r, and so did this one
  taken : (m : ℕ) → IsSwapLoad t l → IsSwapLoad t m → SameAddress t m l → m ≢ l → Contains steps (Read m r) → IsGone t steps l r

-- load l can have read number r: a store of its value to its address, or 0, if it read the first value
abbrev pub CanRead : TraceValue → List ValueStep → ℕ → ℕ → Type 0
CanRead t steps l r = HasSource t l r × (IsGone t steps l r → ⊥)
