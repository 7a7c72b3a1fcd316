-- The arrows of a picture: its edges that are steps of the certificate, or the cycle's. Each is a line of Graphviz, and a line in the box that it leaves.
use Rattle.std.specs.Prelude.{ℕ, zero, suc, ◌-◌, ◌==◌, ◌&&◌, Bool, true, false, List, [], ◌∷◌, ◌++◌, length, drop, map, take, cond, slice_get, codes}
use Rattle.std.specs.Option.{option_map_or}
use Rattle.std.specs.List.{filter, flat_map, range_with_len}
use Rattle.tso_cert.specs.declared.rules.BaseRule.TheVariants.{Own}
use Rattle.tso_cert.specs.declared.steps.CertStep.{CertStep}
use Rattle.tso_cert.specs.declared.steps.Reason.{Reason}
use Rattle.tso_cert.specs.declared.steps.Reason.TheVariants.{Base, Inferred}
use Rattle.tso_cert.specs.Printed.{event_text}
use Rattle.trace_explanation.specs.JoinedTexts.{joined}
use Rattle.trace_explanation.specs.Steps.{links_of, step_number}
use Rattle.trace_explanation.specs.FieldEdges.{field_name}
use Rattle.trace_pictures.specs.declared.arrows.Arrow.{Arrow}
use Rattle.trace_pictures.specs.declared.arrows.ArrowName.{ArrowName}
use Rattle.trace_pictures.specs.declared.arrows.ArrowName.TheVariants.{Step, Field}
use Rattle.trace_pictures.specs.declared.arrows.Mark.{Mark}
use Rattle.trace_pictures.specs.declared.arrows.Mark.TheVariants.{Red, BothWays, Back, Orange, Dashed}
use Rattle.trace_pictures.specs.Edges.{are_nodes, is_beside, node_name}
use Rattle.trace_pictures.specs.Labels.{step_label}

-- ---- which there are

-- an edge with this mark, by the first step that is this edge
abbrev pub arrow_along : List CertStep → Mark → ℕ × ℕ → Arrow
arrow_along steps mark link = record { mark = mark; from = link.0; to = link.1; name = Step (step_number steps link) }

-- of the edges of the cycle those whose ends have nodes
abbrev pub red_links : List CertStep → List ℕ → List (ℕ × ℕ) → List Arrow
red_links steps nodes links = map (arrow_along steps Red) (filter (are_nodes nodes) links)

-- the arrows of the cycle: both ways between two numbers are one line
abbrev pub red_arrows : List CertStep → List ℕ → List ℕ → List Arrow
red_arrows steps nodes [] = []
red_arrows steps nodes (x ∷ []) = red_links steps nodes (links_of (x ∷ []))
red_arrows steps nodes (x ∷ (y ∷ [])) = cond (are_nodes nodes (x, y)) (arrow_along steps BothWays (x, y) ∷ arrow_along steps Back (y, x) ∷ []) []
red_arrows steps nodes (x ∷ (y ∷ (z ∷ rest))) = red_links steps nodes (links_of (x ∷ y ∷ z ∷ rest))

-- the rule derives an edge from what loads read
abbrev pub is_derived : Reason → Bool
is_derived (Base Own) = true
is_derived (Inferred rule load path) = true
is_derived _ = false

-- the step at place k has a dashed edge: it is derived, its ends have nodes, and it is none of these edges
abbrev pub is_dashed : List CertStep → List ℕ → List (ℕ × ℕ) → ℕ → Bool
is_dashed steps nodes shown k = option_map_or (λ s. is_derived s.reason && is_beside nodes shown (s.from, s.to)) (slice_get steps k) false

-- the arrow of the step at place k
abbrev pub dashed_arrow : List CertStep → ℕ → List Arrow
dashed_arrow steps k = option_map_or (λ s. record { mark = Dashed; from = s.from; to = s.to; name = Step (suc k) } ∷ []) (slice_get steps k) []

-- the last 40 of these
abbrev pub last_forty : List ℕ → List ℕ
last_forty places = drop (length places - 40) places

-- the last 40 dashed arrows
abbrev pub dashed_arrows : List CertStep → List ℕ → List (ℕ × ℕ) → List Arrow
dashed_arrows steps nodes shown = flat_map (dashed_arrow steps) (last_forty (filter (is_dashed steps nodes shown) (range_with_len 0 (length steps))))

-- all arrows, by the cycle and the orange edges
unfoldable pub arrows_of : List CertStep → List ℕ → List ℕ → List (ℕ × ℕ) → List Arrow
arrows_of steps nodes cycle orange =
    red_arrows steps nodes cycle ++ map (arrow_along steps Orange) orange ++ dashed_arrows steps nodes (links_of cycle ++ orange)

-- ---- the line of an arrow

abbrev pub mark_attributes : Mark → List ℕ
mark_attributes Red = codes "color=\"#c00000\", penwidth=2.5"
mark_attributes BothWays = codes "color=\"#c00000\", penwidth=2.5, dir=both"
mark_attributes Back = []
mark_attributes Orange = codes "color=\"#e07b00\", penwidth=2"
mark_attributes Dashed = codes "color=\"#606060\", style=dashed"

-- the way back is drawn by the way there
abbrev pub has_line : Mark → Bool
has_line Back = false
has_line _ = true

unfoldable pub arrow_line : Arrow → List ℕ
arrow_line a = cond (has_line a.mark) (joined (codes "  " ∷ node_name a.from ∷ codes " -> " ∷ node_name a.to ∷ codes " [" ∷ mark_attributes a.mark ∷ codes "];\n" ∷ [])) []

-- ---- what the box says that it leaves

abbrev pub mark_colour : Mark → List ℕ
mark_colour Orange = codes "#e07b00"
mark_colour Dashed = codes "#606060"
mark_colour _ = codes "#c00000"

-- the step of this number, by its number and rule: nothing where there is none
abbrev pub step_words : List CertStep → ℕ → List ℕ
step_words steps zero = []
step_words steps (suc k) = option_map_or (λ s. step_label (suc k) s.reason) (slice_get steps k) []

-- a step, or the name that the field gives an edge
abbrev pub name_words : List CertStep → ArrowName → List ℕ
name_words steps (Step number) = step_words steps number
name_words steps (Field edge) = field_name edge

-- the name of an arrow, and which number comes later by it
unfoldable pub arrow_words : List CertStep → Arrow → List ℕ
arrow_words steps a = joined (
    codes "<br/><font point-size=\"10\" color=\"" ∷ mark_colour a.mark ∷ codes "\">" ∷ name_words steps a.name ∷ codes " to " ∷ event_text a.to ∷ codes "</font>" ∷ [])

-- the arrow leaves this number
abbrev pub leaves : ℕ → Arrow → Bool
leaves n a = a.from == n

-- the arrows of which the box of a number speaks, at most 40
abbrev pub arrows_at : List Arrow → ℕ → List Arrow
arrows_at arrows n = take 40 (filter (leaves n) arrows)
