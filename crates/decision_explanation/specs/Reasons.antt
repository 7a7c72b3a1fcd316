-- Why the edge of a step of a refutation holds: in the words of explanations, with the numbers of the lines in force.
use Rattle.std.specs.Prelude.{ℕ, nat_lt, List, [], ◌∷◌, ◌++◌, length, cond, codes}
use Rattle.std.specs.List.{flat_map, zip}
use Rattle.std.specs.Fmt.{decimal}
use Rattle.tso_ops.specs.Values.{TraceValue}
use Rattle.tso_cert.specs.declared.steps.Reason.{Reason}
use Rattle.tso_cert.specs.declared.steps.Reason.TheVariants.{Base, Inferred}
use Rattle.trace_explanation.specs.Namings.{naming_of}
use Rattle.trace_explanation.specs.Words.{reason_by}
use Rattle.decision_explanation.specs.declared.in_force.NumberedPair.{NumberedPair}
use Rattle.decision_explanation.specs.InForce.{pair_number}

-- the numbers of the lines in force that have a path's edges
unfoldable pub by_lines_text : List NumberedPair → List ℕ → List ℕ
by_lines_text pairs [] = []
by_lines_text pairs (x ∷ []) = []
by_lines_text pairs (x ∷ (y ∷ rest)) =
    cond (nat_lt 0 (length rest)) (codes "steps ") (codes "step ") ++ decimal (pair_number pairs (x, y)) ++ flat_map (λ edge. codes ", " ++ decimal (pair_number pairs edge)) (zip (y ∷ rest) rest)

-- the lines in force on which the path of a reason rests
abbrev pub path_by_lines_text : List NumberedPair → Reason → List ℕ
path_by_lines_text pairs (Base rule) = []
path_by_lines_text pairs (Inferred rule load path) = by_lines_text pairs path

-- why the edge from u to v holds
abbrev pub reason_text : TraceValue → List NumberedPair → ℕ → ℕ → Reason → List ℕ
reason_text t pairs u v reason = reason_by (naming_of t) t (path_by_lines_text pairs reason) u v reason
