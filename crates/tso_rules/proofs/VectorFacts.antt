-- Lists that vectors hold.
use Rattle.std.proofs.Common.{◌≡◌, ℕ, zero, suc, ◌<◌, List, [], ◌∷◌, length, get_or, ap, arith}
use Rattle.std.specs.Global.{Vec}
use Rattle.tso_ops.specs.Values.{rows}

-- the list that a vector of a list holds
pub row_at : {X : Type 0} (vectors : List (Vec X)) (i : ℕ) (v : Vec X) → i < length vectors → v ≡ get_or vectors i v → v.items ≡ get_or (rows vectors) i []
row_at [] i v low is = absurd (omega arith)
row_at {X} (w ∷ vectors) zero v low is = ap (λ (u : Vec X). u.items) is
row_at (w ∷ vectors) (suc i) v low is = row_at vectors i v (omega arith) is
