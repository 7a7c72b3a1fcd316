-- What the line of a load in the text of an order says, in the words of the axioms.
use Rattle.std.specs.Prelude.{◌↔◌, ℕ, zero, suc, IsTrue, List}
use Rattle.tso_ops.specs.Values.{TraceValue}
use Rattle.tso_ops.specs.Events.{HasFirstValue, SameValue, Earlier}
use Rattle.tso_model.specs.Axioms.{IsBefore, IsUpTo, IsVisible}
use Rattle.decision_explanation.specs.Orders.{is_forwarded}

-- What the line of load l says, where it names number s.
abbrev pub EntrySays : TraceValue → List ℕ → ℕ → ℕ → Type 0
-- l read the first value of its address, and sees no store
EntrySays t order l zero = HasFirstValue t l × ((other : ℕ) → IsVisible t order other l → ⊥)
-- l read the value of store s, which it sees, and which is the last in the order of the stores that it sees. The line says that it was forwarded
-- exactly where s comes after l in the order, and then s is an earlier store of the load's processor.
EntrySays t order l (suc k) =
    IsVisible t order (suc k) l × SameValue t (suc k) l × ((other : ℕ) → IsVisible t order other l → IsUpTo order other (suc k))
    × (IsTrue (is_forwarded order l (suc k)) ↔ IsBefore order l (suc k)) × (IsBefore order l (suc k) → Earlier t (suc k) l)
