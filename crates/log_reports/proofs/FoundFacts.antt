-- What is found in a log grows at its end.
use Rattle.std.proofs.Common.{◌≡◌, zero, suc, List, [], ◌∷◌, ◌++◌, arith, sym, subst}
use Rattle.std.specs.List.{All}
use Rattle.std.proofs.lemmas.List.Elements.{All-append}

-- one more that it holds of
pub all_more : {X : Type 0} (P : X → Type 0) (xs after : List X) (x : X) → after ≡ xs ++ x ∷ [] → All P xs → P x → All P after
all_more P xs after x is all holds = subst (All P) (sym is) (All-append P xs (x ∷ []) all one)
  where
    one : All P (x ∷ [])
    one zero d within = holds
    one (suc k) d within = absurd (omega (arith, within))
