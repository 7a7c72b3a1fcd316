-- How far the structure of lines has come.
use Rattle.std.specs.Prelude.{◌≡◌, Bool, true, false, List, [], ◌∷◌, ◌++◌}
use Rattle.tso_evidence.specs.declared.refutations.RefutationLine.{RefutationLine}
use Rattle.tso_evidence.specs.declared.refutations.RefutationLine.TheVariants.{Else}
use Rattle.tso_evidence.specs.Refutations.{Refutation, lines_of}
use Rattle.refutation_check.specs.declared.structure.OpenCase.{OpenCase}

-- The lines are what is missing after a cycle: for each open case, from the last one, the second part.
abbrev pub AfterCycle : List OpenCase → List RefutationLine → Type 0
AfterCycle [] lines = lines ≡ []
AfterCycle (c ∷ cases) lines =
    (r : Refutation) × (rest : List RefutationLine) × (lines ≡ Else c.second c.first ∷ lines_of r ++ rest) × AfterCycle cases rest

-- The lines are what is missing: after a cycle, or else a refutation first.
abbrev pub IsMissing : Bool → List OpenCase → List RefutationLine → Type 0
IsMissing true cases lines = AfterCycle cases lines
IsMissing false cases lines = (r : Refutation) × (rest : List RefutationLine) × (lines ≡ lines_of r ++ rest) × AfterCycle cases rest
