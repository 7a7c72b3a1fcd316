-- When two lists of lists of outcomes are the same.
use Rattle.std.proofs.Common.{◌≡◌, ◌∙◌, ap, refl, Bool, ◌&&◌, List, [], ◌∷◌, Vec}
use Rattle.std.specs.Bool.{Decides}
use Rattle.std.specs.Global.{Global}
use Rattle.std.proofs.lemmas.Slice.Eq.{slice_eq-Decides}
use lib.Pointwise.{pointwise}
use Rattle.tso_ops.specs.declared.ops.Outcome.{Outcome}
use Rattle.tso_ops.specs.contracts.ops.OutcomePartialEq.TheImpl.{ghosts}
use Rattle.tso_ops.specs.Values.{rows}
use Rattle.std.proofs.Common.{rules}

outcome-Decides : (a b : Outcome) → Decides (ghosts.eq a b) (a ≡ b)
outcome-Decides a b = Prim.search rules

-- vectors are compared by their elements
outcomes_compared : (xs ys : List (Vec Outcome Global)) → pointwise (λ (x : Vec Outcome Global) (y : Vec Outcome Global). pointwise ghosts.eq x.items y.items) xs ys ≡ pointwise (pointwise ghosts.eq) (rows xs) (rows ys)
outcomes_compared [] [] = refl
outcomes_compared [] (y ∷ ys) = refl
outcomes_compared (x ∷ xs) [] = refl
outcomes_compared (x ∷ xs) (y ∷ ys) = ap (λ b. pointwise ghosts.eq x.items y.items && b) (outcomes_compared xs ys)

pub outcomes-Decides : (xs ys : List (Vec Outcome Global)) (r : Bool) → r ≡ pointwise (λ (x : Vec Outcome Global) (y : Vec Outcome Global). pointwise ghosts.eq x.items y.items) xs ys → Decides r (rows xs ≡ rows ys)
outcomes-Decides xs ys r is = slice_eq-Decides (λ a b. slice_eq-Decides outcome-Decides a b (pointwise ghosts.eq a b) refl) (rows xs) (rows ys) r (is ∙ outcomes_compared xs ys)
