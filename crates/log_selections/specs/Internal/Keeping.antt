-- The numbers in the log of what a selection keeps.
use Rattle.std.specs.Prelude.{◌≡◌, ℕ, List, [], ◌∷◌, ◌++◌}
use Rattle.tso_ops.specs.declared.ops.Outcome.{Outcome}
use Rattle.log_selections.specs.Cuts.{IsCutFrom}
use Rattle.log_text.specs.declared.logs.LoggedOperation.{LoggedOperation}
use Rattle.log_text.specs.LogValues.{logged_outcomes}
use Rattle.log_selections.specs.Internal.Accesses.{numbers_from}
use Rattle.log_selections.specs.declared.keeping.Origins.{Origins}
use Rattle.log_selections.specs.declared.keeping.Origins.TheVariants.{Barrier, Access, Swap}

abbrev pub numbers_in : Origins → List ℕ
numbers_in Barrier = []
numbers_in (Access number) = number ∷ []
numbers_in (Swap load store) = load ∷ store ∷ []

-- The outcomes are cut out of a processor's operations, if these are the numbers of operations; those of the events that are kept have been pushed.
abbrev pub IsKeptOf : (addresses numbers : List ℕ) (list : List LoggedOperation) (origins pushed : List ℕ) (outcomes : List Outcome) → Type 0
IsKeptOf addresses numbers list origins pushed outcomes =
    (n : ℕ) → numbers ≡ numbers_from n list → (here : List ℕ) × IsCutFrom addresses n (logged_outcomes list) outcomes here × (pushed ≡ origins ++ here)
