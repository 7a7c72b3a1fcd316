-- Where the pairs in force are looked up.
use Rattle.std.specs.Prelude.{◌≡◌, ℕ, List, [], ◌∷◌, map, reverse}
use Rattle.std.specs.BTreeMap.{BTreeMap, get}
use Rattle.trace_explanation.specs.Internal.Tables.{pair_cmp}
use Rattle.decision_explanation.specs.declared.in_force.NumberedPair.{NumberedPair}
use Rattle.decision_explanation.specs.declared.in_force.Entry.{Entry}
use Rattle.decision_explanation.specs.declared.in_force.InForce.{InForce}
use Rattle.decision_explanation.specs.InForce.{last_number, Standing}

-- the pairs of these entries
abbrev pub pairs_of : List Entry → List NumberedPair
pairs_of log = map (λ e. e.pair) log

-- where the refutation has come to, by the tables
abbrev pub standing_of : InForce → Standing
standing_of s = record { next = s.next; pairs = pairs_of (reverse s.log.items); cases = reverse s.cases.items }

-- the map finds the last number of each pair
abbrev pub FindsLast : List NumberedPair → BTreeMap (ℕ × ℕ) ℕ → Type 0
FindsLast pairs numbers = (u v : ℕ) → get pair_cmp numbers (u, v) ≡ last_number pairs (u, v)

-- each entry says which number its pair had before
abbrev pub IsLog : List Entry → Type 0
IsLog [] = Unit {0}
IsLog (e ∷ log) = (e.before ≡ last_number (pairs_of log) (e.pair.from, e.pair.to)) × IsLog log

-- the map has the pairs in force, and the log what it had before each of them
pub record IsKept (s : InForce) : Type 0 where
  pub finds : FindsLast (pairs_of (reverse s.log.items)) s.numbers
  pub log : IsLog (reverse s.log.items)
