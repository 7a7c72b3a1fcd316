-- The lines of a picture's nodes, each of which has an edge from the one above it.
use Rattle.std.specs.Prelude.{ℕ, ◌+◌, ◌*◌, ◌%◌, ◌-◌, ◌/◌, ◌&&◌, Bool, false, not, List, [], ◌∷◌, ◌++◌, cond, length, codes}
use Rattle.std.specs.Option.{option_map_or}
use Rattle.std.specs.Fmt.{decimal}
use Rattle.std.specs.List.{flat_map}
use Rattle.tso_ops.specs.Values.{TraceValue}
use Rattle.tso_ops.specs.Events.{event_at}
use Rattle.tso_cert.specs.declared.steps.CertStep.{CertStep}
use Rattle.trace_explanation.specs.Names.{outcome_text, source_of}
use Rattle.trace_explanation.specs.JoinedTexts.{joined}
use Rattle.trace_explanation.specs.Steps.{is_among, is_number}
use Rattle.trace_pictures.specs.declared.arrows.Arrow.{Arrow}
use Rattle.trace_pictures.specs.declared.rows.Row.{Row}
use Rattle.trace_pictures.specs.declared.rows.Row.TheVariants.{Event, Barrier, Gap}
use Rattle.trace_pictures.specs.Arrows.{arrow_words, arrows_at}
use Rattle.trace_pictures.specs.Labels.{event_label, number_in_order, number_label}
use Rattle.trace_pictures.specs.Rows.{rows_of}

-- ---- what a row is called, says and looks like

unfoldable pub row_name : ℕ → Row → List ℕ
row_name p (Event n) = joined (codes "e" ∷ decimal n ∷ [])
row_name p (Barrier i outcome) = joined (codes "b" ∷ decimal p ∷ codes "_" ∷ decimal i ∷ [])
row_name p (Gap i count) = joined (codes "g" ∷ decimal p ∷ codes "_" ∷ decimal i ∷ [])

unfoldable pub row_label : TraceValue → Row → List ℕ
row_label t (Event n) = event_label t n
row_label t (Barrier i outcome) = outcome_text outcome
row_label t (Gap i count) = joined (decimal count ∷ codes " more" ∷ [])

-- what stands after a row's label: the number of its event in an order
abbrev pub row_number : List ℕ → Row → List ℕ
row_number order (Event n) = number_label (number_in_order order n)
row_number order (Barrier i outcome) = []
row_number order (Gap i count) = []

-- the arrows of which a row speaks
abbrev pub row_arrows : List Arrow → Row → List Arrow
row_arrows arrows (Event n) = arrows_at arrows n
row_arrows arrows (Barrier i outcome) = []
row_arrows arrows (Gap i count) = []

-- the border of event n: red wins over orange
abbrev pub border_mark : List ℕ → List ℕ → ℕ → List ℕ
border_mark red orange n =
    cond (is_among n red) (codes ", color=\"#c00000\", penwidth=2") (cond (is_among n orange) (codes ", color=\"#e07b00\", penwidth=2") [])

-- what a row looks like, where these numbers are red and these orange: a load that read the first value of its address has a colour of its own
unfoldable pub row_marks : TraceValue → List ℕ → List ℕ → Row → List ℕ
row_marks t red orange (Event n) = cond (is_number 0 (source_of t n)) (codes ", fillcolor=\"#d8e6f8\"") [] ++ border_mark red orange n
row_marks t red orange (Barrier i outcome) = codes ", color=\"#dddddd\", fillcolor=\"#dddddd\", fontsize=10, height=0.15"
row_marks t red orange (Gap i count) = codes ", shape=plaintext, fontsize=10, height=0.15"

-- the row is that of a swap's store, and stands close below its load
abbrev pub is_close : TraceValue → Row → Bool
is_close t (Event n) = option_map_or (λ e. e.swap && not e.load) (event_at t n) false
is_close t (Barrier i outcome) = false
is_close t (Gap i count) = false

-- how far below the row above it, in points
abbrev pub row_step : Bool → ℕ
row_step close = cond close 36 52

-- ---- lines

-- the line of a node at a place, whose label is in the form of HTML
unfoldable pub node_text : List ℕ → List ℕ → List ℕ → ℕ → ℕ → List ℕ
node_text name label marks x y = joined (
    codes "  " ∷ name ∷ codes " [label=<" ∷ label ∷ codes ">, pos=\"" ∷ decimal x ∷ codes ",-" ∷ decimal y ∷ codes "!\"" ∷ marks ∷ codes "];\n" ∷ [])

-- the line of the edge from the node above: that within a swap is a broad one
unfoldable pub down_text : List ℕ → List ℕ → Bool → List ℕ
down_text above name close = joined (codes "  " ∷ above ∷ codes " -> " ∷ name ∷ codes " [color=\"#b0b0b0\", arrowhead=none" ∷ cond close (codes ", penwidth=50") [] ∷ codes "];\n" ∷ [])

-- the lines of the steps of these arrows
abbrev pub small_lines : List CertStep → List Arrow → List ℕ
small_lines steps arrows = flat_map (arrow_words steps) arrows

-- What the rows of a picture show: the steps, the arrows, which numbers are red and orange, and an order in which events have numbers.
pub record Looks : Type 0 where
  pub steps : List CertStep
  pub arrows : List Arrow
  pub red : List ℕ
  pub orange : List ℕ
  pub order : List ℕ

-- what a row says, with the lines of the steps of these arrows
unfoldable pub row_words : TraceValue → Looks → List Arrow → Row → List ℕ
row_words t looks arrows row = joined (row_label t row ∷ row_number looks.order row ∷ small_lines looks.steps arrows ∷ [])

-- the lines of a row of processor p, which says this much at a place, below the row of this name
abbrev pub row_text : TraceValue → Looks → ℕ → ℕ → ℕ → List ℕ → Row → List ℕ
row_text t looks p x y above row =
    node_text (row_name p row) (row_words t looks (row_arrows looks.arrows row) row) (row_marks t looks.red looks.orange row) x y
    ++ down_text above (row_name p row) (is_close t row)

-- how many small lines a row has
abbrev pub line_count : Looks → Row → ℕ
line_count looks row = length (row_arrows looks.arrows row)

-- the lines of these rows, below a row of this name that ends at this height: a small line takes 12 points, half of them above the middle
abbrev pub rows_text : TraceValue → Looks → ℕ → ℕ → ℕ → List ℕ → List Row → List ℕ
rows_text t looks p x y above [] = []
rows_text t looks p x y above (row ∷ rows) =
    row_text t looks p x (y + row_step (is_close t row) + 6 * line_count looks row) above row
    ++ rows_text t looks p x (y + row_step (is_close t row) + 12 * line_count looks row) (row_name p row) rows

-- the lines of processor p: its head, and its rows, which begin 26 points lower where its number is odd
unfoldable pub processor_nodes_text : TraceValue → List ℕ → Looks → ℕ → ℕ → List ℕ
processor_nodes_text t drawn looks width p =
    joined (codes "  p" ∷ decimal p ∷ codes " [label=\"P" ∷ decimal p ∷ codes "\", shape=plaintext, fontsize=14, pos=\"" ∷ decimal (width * p) ∷ codes ",-70!\"];\n" ∷ [])
    ++ rows_text t looks p (width * p) (70 + 26 * (p % 2)) (codes "p" ++ decimal p) (rows_of t drawn p)

-- the line of the first values with the small lines of these arrows, which make it higher above
unfoldable pub init_text : List CertStep → List Arrow → ℕ → List ℕ
init_text steps arrows x = joined (
    codes "  init [label=<first values" ∷ small_lines steps arrows ∷ codes ">, shape=ellipse, pos=\"" ∷ decimal x ∷ codes "," ∷ decimal (8 * length arrows) ∷ codes "!\", color=\"#c00000\", penwidth=2];\n" ∷ [])

-- that line, in the middle above the processors, where the cycle has the first values
unfoldable pub first_values_text : Looks → ℕ → ℕ → List ℕ → List ℕ
first_values_text looks width processors cycle =
    cond (is_among 0 cycle) (init_text looks.steps (arrows_at looks.arrows 0) (width * (processors - 1) / 2)) []
