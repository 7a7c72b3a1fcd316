-- What the tables of an explanation keep: the numbers of steps, the marks of what steps name, and the names of cycles.
use Rattle.std.specs.Prelude.{◌≡◌, ℕ, ◌<◌, Bool, false, List, length, get_or}
use Rattle.std.specs.List.{position_from}
use Rattle.std.specs.Ordering.{nat_cmp, ordering_then}
use Rattle.std.specs.declared.cmp.Ordering.{Ordering}
use Rattle.std.specs.BTreeMap.{BTreeMap, get}
use Rattle.tso_cert.specs.declared.steps.CertStep.{CertStep}
use Rattle.trace_explanation.specs.declared.cycle_names.NamedCycle.{NamedCycle}
use Rattle.trace_explanation.specs.Steps.{is_edge}

-- how keys of two numbers compare
abbrev pub pair_cmp : ℕ × ℕ → ℕ × ℕ → Ordering
pair_cmp x y = ordering_then (nat_cmp x.0 y.0) (nat_cmp x.1 y.1)

-- the map finds the least numbers of these steps, of which the first has this number
abbrev pub FindsNumbers : ℕ → List CertStep → BTreeMap (ℕ × ℕ) ℕ → Type 0
FindsNumbers k steps numbers = (u v : ℕ) → get pair_cmp numbers (u, v) ≡ position_from (is_edge (u, v)) k steps

-- a row of the table of cycles that have names
abbrev pub row_of : NamedCycle → List ℕ × List ℕ
row_of cycle = (cycle.shape.now, cycle.name.now)

-- the marks below the number are what the test says
pub record AreMarks (test : ℕ → Bool) (count : ℕ) (marks : List Bool) : Type 0 where
  pub counted : length marks ≡ count
  pub each : (n : ℕ) → n < count → get_or marks n false ≡ test n
