-- The arrows of a cycle whose edges have the names of the field.
use Rattle.std.specs.Prelude.{ℕ, List, [], ◌∷◌, map, cond}
use Rattle.std.specs.List.{filter}
use Rattle.tso_ops.specs.Values.{TraceValue}
use Rattle.tso_cert.specs.declared.steps.CertStep.{CertStep}
use Rattle.trace_explanation.specs.FieldEdges.{field_edge}
use Rattle.trace_explanation.specs.Steps.{links_of}
use Rattle.trace_pictures.specs.declared.arrows.Arrow.{Arrow}
use Rattle.trace_pictures.specs.declared.arrows.ArrowName.TheVariants.{Field}
use Rattle.trace_pictures.specs.declared.arrows.Mark.{Mark}
use Rattle.trace_pictures.specs.declared.arrows.Mark.TheVariants.{Red, BothWays, Back}
use Rattle.trace_pictures.specs.Edges.{are_nodes}

-- an edge with this mark, by the name that the field gives it
abbrev pub field_arrow : TraceValue → List CertStep → Mark → ℕ × ℕ → Arrow
field_arrow t steps mark link = record { mark = mark; from = link.0; to = link.1; name = Field (field_edge t steps link) }

-- of these edges those whose ends have nodes
abbrev pub field_links : TraceValue → List CertStep → List ℕ → List (ℕ × ℕ) → List Arrow
field_links t steps nodes links = map (field_arrow t steps Red) (filter (are_nodes nodes) links)

-- the arrows of the cycle: both ways between two numbers are one line
abbrev pub field_arrows : TraceValue → List CertStep → List ℕ → List ℕ → List Arrow
field_arrows t steps nodes [] = []
field_arrows t steps nodes (x ∷ []) = field_links t steps nodes (links_of (x ∷ []))
field_arrows t steps nodes (x ∷ (y ∷ [])) =
    cond (are_nodes nodes (x, y)) (field_arrow t steps BothWays (x, y) ∷ field_arrow t steps Back (y, x) ∷ []) []
field_arrows t steps nodes (x ∷ (y ∷ (z ∷ rest))) = field_links t steps nodes (links_of (x ∷ y ∷ z ∷ rest))
