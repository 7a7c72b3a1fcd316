-- What is counted of a run while its lines come.
use Rattle.std.specs.Prelude.{◌≡◌, ℕ, ◌==◌, Bool, true, false, List, get_or}
use Rattle.std.specs.List.{list_any}
use Rattle.run_steps.specs.declared.refusals.Comparison.{Comparison}
use Rattle.run_steps.specs.declared.refusals.Comparison.TheVariants as comparison
use Rattle.run_steps.specs.declared.steps.RunLine.{RunLine}
use Rattle.run_following.specs.declared.counts.RunCounts.{RunCounts}
use Rattle.run_following.specs.declared.tallies.Tally.{Tally}

-- one of the steps is of this processor
abbrev pub has_acted : List RunLine → ℕ → Bool
has_acted steps p = list_any (λ line. line.processor == p) steps

abbrev pub is_compared : Comparison → Bool
is_compared comparison.Nothing = false
is_compared comparison.Unknown = false
is_compared comparison.Compared = true

-- What is counted of these steps, and whether a value was compared.
pub record Tallies (tally : Tally) (steps : List RunLine) (counts : RunCounts) (compared : Bool) : Type 0 where
  pub acting : (p : ℕ) → get_or tally.acting p false ≡ has_acted steps p
  pub counts_all : tally.counts ≡ counts
  pub compared_one : tally.is_compared ≡ compared
