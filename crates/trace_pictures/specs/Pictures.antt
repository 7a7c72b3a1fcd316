-- The text of a picture, in the language of Graphviz: what a trace did, by its certificate if it is a violation.
use Rattle.std.specs.Prelude.{ℕ, List, [], ◌++◌, length, Option, None, codes}
use Rattle.std.specs.List.{flat_map, range_with_len}
use Rattle.tso_ops.specs.Values.{TraceValue}
use Rattle.tso_ops.specs.Events.{event_total, processor_count}
use Rattle.tso_cert.specs.declared.steps.Certificate.{Certificate}
use Rattle.trace_pictures.specs.declared.captions.Caption.{Caption}
use Rattle.trace_pictures.specs.Captions.{caption_of, captions_text}
use Rattle.trace_pictures.specs.Choice.{drawn_events}
use Rattle.trace_pictures.specs.Contents.{ContentValue, content_of}
use Rattle.trace_pictures.specs.declared.edge_names.EdgeNames.{EdgeNames}
use Rattle.trace_pictures.specs.declared.edge_names.EdgeNames.TheVariants.{Rules, Field}
use Rattle.trace_explanation.specs.DiagnosedCycles.{diagnosed_cycle}
use Rattle.trace_explanation.specs.Names.{event_numbers}
use Rattle.trace_explanation.specs.Steps.{links_of}
use Rattle.trace_pictures.specs.declared.arrows.Arrow.{Arrow}
use Rattle.trace_pictures.specs.Arrows.{arrow_line, arrows_of}
use Rattle.trace_pictures.specs.Edges.{cycle_in, nodes_of, read_edge, red_numbers, steps_in}
use Rattle.trace_pictures.specs.FieldArrows.{field_arrows}
use Rattle.trace_pictures.specs.Labels.{column_width}
use Rattle.trace_pictures.specs.Nodes.{Looks, first_values_text, processor_nodes_text}
use Rattle.trace_pictures.specs.Paths.{orange_links, path_numbers}

-- how the picture is laid out, and what its nodes and edges look like
unfoldable pub layout_text : List ℕ
layout_text =
    codes "digraph trace {\n  graph [layout=neato, inputscale=72, splines=true, outputorder=nodesfirst, fontname=\"Helvetica\", fontsize=12, labelloc=t, labeljust=l];\n  node [shape=box, style=filled, fillcolor=\"#ffffff\", fontname=\"Helvetica\", fontsize=12, height=0.34, width=1.2];\n  edge [arrowsize=0.7];\n"

-- the orange edges, where these events are drawn
abbrev pub orange_in : ContentValue → List ℕ → List (ℕ × ℕ)
orange_in shown drawn = orange_links (steps_in shown.certificate) (nodes_of drawn shown.cycle) (links_of shown.cycle)

-- the arrows, where these events are drawn
abbrev pub arrows_in : ContentValue → List ℕ → List Arrow
arrows_in shown drawn = arrows_of (steps_in shown.certificate) (nodes_of drawn shown.cycle) shown.cycle (orange_in shown drawn)

-- the arrows of the cycle with the names of the field, where these events are drawn
abbrev pub field_arrows_in : TraceValue → ContentValue → List ℕ → List Arrow
field_arrows_in t shown drawn = field_arrows t (steps_in shown.certificate) (nodes_of drawn shown.cycle) shown.cycle

-- these numbers where edges have the names of rules, else none
abbrev pub of_rules : EdgeNames → List ℕ → List ℕ
of_rules Rules numbers = numbers
of_rules Field numbers = []

-- the numbers that have an orange border where they have no red one
abbrev pub orange_numbers : ContentValue → List ℕ
orange_numbers shown = of_rules shown.edges (path_numbers (steps_in shown.certificate) (links_of shown.cycle))

-- what the nodes show with these arrows
abbrev pub looks_of : TraceValue → ContentValue → List Arrow → Looks
looks_of t shown arrows = record {
  steps = steps_in shown.certificate;
  arrows = arrows;
  red = red_numbers t shown.certificate shown.cycle;
  orange = orange_numbers shown;
  order = shown.order;
}

-- the nodes of these drawn events, with these arrows
unfoldable pub nodes_text : TraceValue → ContentValue → List ℕ → List Arrow → List ℕ
nodes_text t shown drawn arrows =
    first_values_text (looks_of t shown arrows) (column_width t drawn) (processor_count t) shown.cycle
    ++ flat_map (processor_nodes_text t drawn (looks_of t shown arrows) (column_width t drawn)) (range_with_len 0 (processor_count t))

-- the edges between these drawn events: these arrows, and from stores to loads what isn't among the edges that they show
unfoldable pub edges_text : TraceValue → List ℕ → List (ℕ × ℕ) → List Arrow → List ℕ
edges_text t drawn shown arrows = flat_map (read_edge t drawn shown) (event_numbers t) ++ flat_map arrow_line arrows

-- the nodes and edges of these drawn events, where edges have the names of rules
unfoldable pub rule_graph : TraceValue → ContentValue → List ℕ → List ℕ
rule_graph t shown drawn =
    nodes_text t shown drawn (arrows_in shown drawn) ++ edges_text t drawn (links_of shown.cycle ++ orange_in shown drawn) (arrows_in shown drawn)

-- the same where they have the names of the field
unfoldable pub field_graph : TraceValue → ContentValue → List ℕ → List ℕ
field_graph t shown drawn = nodes_text t shown drawn (field_arrows_in t shown drawn) ++ edges_text t drawn (links_of shown.cycle) (field_arrows_in t shown drawn)

abbrev pub graph_by : EdgeNames → TraceValue → ContentValue → List ℕ → List ℕ
graph_by Rules = rule_graph
graph_by Field = field_graph

-- the nodes and edges of these drawn events
abbrev pub graph_text : TraceValue → ContentValue → List ℕ → List ℕ
graph_text t shown drawn = graph_by shown.edges t shown drawn

-- the picture with these drawn events
unfoldable pub picture_of : TraceValue → ContentValue → List ℕ → List ℕ
picture_of t shown drawn =
    layout_text ++ captions_text t.setting.order shown.caption (length drawn) (event_total t) ++ graph_text t shown drawn ++ codes "}\n"

-- the picture that shows this
abbrev pub picture_with : TraceValue → ContentValue → List ℕ
picture_with t shown = picture_of t shown (drawn_events t shown.certificate)

-- the picture of a trace, by its certificate if it has one: events have no numbers in an order
abbrev pub picture_text : TraceValue → Option Certificate → List ℕ
picture_text t c = picture_with t (content_of c (cycle_in c) [] (caption_of Rules c) Rules)

-- the same with the cycle that the diagnosis names in place of the certificate's, and with the names of the field at its edges
abbrev pub field_picture : TraceValue → Option Certificate → List ℕ
field_picture t c = picture_with t (content_of c (diagnosed_cycle t (steps_in c) (cycle_in c)) [] (caption_of Field c) Field)

-- the picture of a trace without a certificate, with the numbers of events in an order, and with this caption
abbrev pub numbered_picture : TraceValue → List ℕ → Caption → List ℕ
numbered_picture t order caption = picture_with t (content_of None [] order caption Rules)
