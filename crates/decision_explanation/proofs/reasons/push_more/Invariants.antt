use Rattle.std.proofs.Common.{◌≡◌, ◌++◌, ◌∷◌, drop, string_bytes}
use Rattle.std.specs.Prelude.{codes}
use Rattle.std.specs.Fmt.{decimal}
use Rattle.std.specs.List.{flat_map, zip}
use Rattle.decision_explanation.specs.InForce.{pair_number}
use Rattle.decision_explanation.specs.Internal.Standings.{standing_of}
use Rattle.decision_explanation.proofs.reasons.push_more.Given as goal

abbrev pub invariant-loop-z : goal.invariant-loop-z
invariant-loop-z l =
    string_bytes l.text ++ flat_map (λ edge. codes ", " ++ decimal (pair_number (standing_of l.state).pairs edge)) (zip (l.previous ∷ drop l.z-index l.rest) (drop l.z-index l.rest))
    ≡ string_bytes l.fn.text ++ flat_map (λ edge. codes ", " ++ decimal (pair_number (standing_of l.state).pairs edge)) (zip (l.y ∷ l.rest) l.rest)
