-- What a picture shows beside its trace.
use Rattle.std.specs.Prelude.{ℕ, List, Option}
use Rattle.tso_cert.specs.declared.steps.Certificate.{Certificate}
use Rattle.trace_pictures.specs.declared.captions.Caption.{Caption}
use Rattle.trace_pictures.specs.declared.edge_names.EdgeNames.{EdgeNames}

-- A certificate or none, the cycle that is drawn, empty where there is none, an order in which events have numbers, empty where they have none, the
-- caption, and which names the cycle's edges have.
pub record ContentValue : Type 0 where
  pub certificate : Option Certificate
  pub cycle : List ℕ
  pub order : List ℕ
  pub caption : Caption
  pub edges : EdgeNames

abbrev pub content_of : Option Certificate → List ℕ → List ℕ → Caption → EdgeNames → ContentValue
content_of c cycle order caption edges = record { certificate = c; cycle = cycle; order = order; caption = caption; edges = edges }
