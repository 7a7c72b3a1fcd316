use Rattle.std.proofs.Common.{◌≡◌, ℕ, ◌≤◌, List, ◌++◌, length, take}
use Rattle.log_selections.specs.Cuts.{IsCutFrom}
use Rattle.log_text.specs.LogValues.{logged_outcomes}
use Rattle.log_selections.specs.Internal.Accesses.{numbers_from}
use Rattle.log_selections.proofs.keeping.keep_list.Given as goal

-- what is kept so far is cut out of the operations before the next one
abbrev pub invariant-loop-kept : goal.invariant-loop-kept
invariant-loop-kept l =
    (l.next ≤ length l.list)
    × ((n : ℕ) → l.numbers ≡ numbers_from n l.list →
    (here : List ℕ) × IsCutFrom l.addresses n (take l.next (logged_outcomes l.list)) l.outcomes.items here × (l.origins.items ≡ l.fn.origins.items ++ here))
