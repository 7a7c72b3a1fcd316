-- Where the checker looks up the pairs of the steps so far.
use Rattle.std.specs.Prelude.{◌≡◌, ◌↔◌, ℕ, suc, ◌<◌, List}
use Rattle.tso_cert.specs.declared.steps.CertStep.{CertStep}
use Rattle.tso_model.specs.Certs.{IsStep}
use Rattle.cert_check.specs.declared.pair_tables.PairTable.{PairTable}
use Rattle.cert_check.specs.declared.pairs.Pairs.{Pairs}
use Rattle.cert_check.specs.declared.pairs.Pairs.TheVariants.{Steps, Table}
use Rattle.cert_check.specs.PairTables.{HasPair, IsSquare}

-- The table has the pairs of these steps, and no others.
pub record HasPairsOf (table : PairTable) (steps : List CertStep) : Type 0 where
  pub square : IsSquare table
  pub pairs : (u v : ℕ) → HasPair table u v ↔ IsStep steps u v

-- what is looked up are the pairs of these steps
abbrev pub ListsOf : Pairs → List CertStep → Type 0
ListsOf Steps steps = Unit {0}
ListsOf (Table table) steps = HasPairsOf table steps

-- the same, with room for the pairs of numbers up to this one
abbrev pub ListsUpTo : ℕ → Pairs → List CertStep → Type 0
ListsUpTo last Steps steps = Unit {0}
ListsUpTo last (Table table) steps = (table.nodes ≡ suc last) × HasPairsOf table steps

-- there is room for the pair of this step
abbrev pub Fits : Pairs → CertStep → Type 0
Fits Steps step = Unit {0}
Fits (Table table) step = IsSquare table × (step.from < table.nodes) × (step.to < table.nodes)
