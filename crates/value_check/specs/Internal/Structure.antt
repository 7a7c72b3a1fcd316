-- How far the structure of lines has come.
use Rattle.std.specs.Prelude.{◌≡◌, ℕ, zero, suc, Bool, true, false, List, [], ◌∷◌, ◌++◌}
use Rattle.value_evidence.specs.declared.refutations.ValueRefutationLine.{ValueRefutationLine}
use Rattle.value_evidence.specs.declared.refutations.ValueRefutationLine.TheVariants.{Else}
use Rattle.value_evidence.specs.Refutations.{ValueRefutation, value_lines_of}

-- The lines are what is missing after an end, where so many cases are open: the second part of each.
abbrev pub AfterEnd : ℕ → List ValueRefutationLine → Type 0
AfterEnd zero lines = lines ≡ []
AfterEnd (suc count) lines = (r : ValueRefutation) × (rest : List ValueRefutationLine) × (lines ≡ Else ∷ value_lines_of r ++ rest) × AfterEnd count rest

-- The lines are what is missing: after an end, or else a refutation first.
abbrev pub IsMissing : Bool → ℕ → List ValueRefutationLine → Type 0
IsMissing true count lines = AfterEnd count lines
IsMissing false count lines = (r : ValueRefutation) × (rest : List ValueRefutationLine) × (lines ≡ value_lines_of r ++ rest) × AfterEnd count rest
