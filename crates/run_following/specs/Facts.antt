-- What is told of a line that is no step of the machine: the facts that show it, with the texts of the lines that they name.
use Rattle.std.specs.Prelude.{ℕ, List, [], ◌∷◌, map, string_bytes}
use Rattle.run_steps.specs.declared.refusals.Origin.{Origin}
use Rattle.run_steps.specs.declared.refusals.Origin.TheVariants as origin
use Rattle.run_steps.specs.Reads.{RefusalValue, value, waiting, order, nothing_waits, reservation, no_reservation}
use Rattle.run_following.specs.declared.facts.Fact.{Fact}
use Rattle.run_following.specs.declared.facts.Fact.TheVariants as fact
use Rattle.run_following.specs.declared.facts.NamedLine.{NamedLine}
use Rattle.run_following.specs.declared.facts.RefusalKind.{RefusalKind}
use Rattle.run_following.specs.declared.facts.RefusalKind.TheVariants as kind
use Rattle.run_following.specs.declared.facts.Standing.{Standing}
use Rattle.run_following.specs.declared.facts.Standing.TheVariants as standing
use Rattle.run_following.specs.declared.facts.ToldRefusal.{ToldRefusal}

-- ---- values

-- a fact, without where its texts lie in memory
pub data FactValue : Type 0 where
  has : ℕ → FactValue
  first : FactValue
  store : ℕ → List ℕ → Standing → FactValue

abbrev pub fact_value : Fact → FactValue
fact_value (fact.Has v) = has v
fact_value fact.First = first
fact_value (fact.Store line at) = store line.number (string_bytes line.text) at

-- the number of a line, and its text
abbrev pub named_value : NamedLine → ℕ × List ℕ
named_value line = (line.number, string_bytes line.text)

-- a line that is no step, why it is none, and what shows it
pub record RefusalTold : Type 0 where
  pub line : ℕ × List ℕ
  pub kind : RefusalKind
  pub facts : List FactValue

abbrev pub told_value : ToldRefusal → RefusalTold
told_value t = record { line = named_value t.line; kind = t.kind; facts = map fact_value t.facts.items }

-- ---- what is told of a refusal, where a function gives the lines of the text

abbrev pub kind_of : RefusalValue → RefusalKind
kind_of (value v origins) = kind.Value
kind_of (waiting n) = kind.Waiting
kind_of (order n m) = kind.Order
kind_of nothing_waits = kind.NothingWaits
kind_of (reservation n k) = kind.Reservation
kind_of no_reservation = kind.NoReservation

abbrev pub store_fact : (ℕ → List ℕ) → ℕ → Standing → FactValue
store_fact lines n at = store n (lines n) at

-- where a value is from
abbrev pub origin_fact : (ℕ → List ℕ) → Origin → FactValue
origin_fact lines origin.First = first
origin_fact lines (origin.Waiting n) = store_fact lines n standing.Waiting
origin_fact lines (origin.Reached n k) = store_fact lines n (standing.Reached k)

abbrev pub refusal_facts : (ℕ → List ℕ) → RefusalValue → List FactValue
refusal_facts lines (value v origins) = has v ∷ map (origin_fact lines) origins
refusal_facts lines (waiting n) = store_fact lines n standing.Named ∷ []
refusal_facts lines (order n m) = store_fact lines n standing.Named ∷ store_fact lines m standing.Before ∷ []
refusal_facts lines nothing_waits = []
refusal_facts lines (reservation n k) = store_fact lines n (standing.Reached k) ∷ []
refusal_facts lines no_reservation = []

-- the line of this number is refused for this
abbrev pub told : (ℕ → List ℕ) → ℕ → RefusalValue → RefusalTold
told lines n refusal = record { line = (n, lines n); kind = kind_of refusal; facts = refusal_facts lines refusal }
