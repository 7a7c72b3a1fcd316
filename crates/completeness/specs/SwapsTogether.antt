-- Orders in which the two events of each swap are neighbours.
use Rattle.std.specs.Prelude.{◌≡◌, ℕ, suc, List}
use Rattle.tso_ops.specs.Values.{TraceValue}
use Rattle.tso_ops.specs.Events.{IsSwapLoad}
use Rattle.tso_model.specs.Axioms.{place}

-- each swap's store stands right after its load
abbrev pub HasSwapsTogether : TraceValue → List ℕ → Type 0
HasSwapsTogether t order = (l : ℕ) → IsSwapLoad t l → place order (suc l) ≡ suc (place order l)
