-- What is red, what has a node, and the lines of the edges from stores to loads that read them.
use Rattle.std.specs.Prelude.{ℕ, ◌==◌, ◌&&◌, Bool, not, List, [], ◌∷◌, ◌++◌, Option, None, Some, cond, codes}
use Rattle.std.specs.Option.{option_and_then, option_map_or, option_to_list}
use Rattle.std.specs.List.{find, flat_map}
use Rattle.std.specs.Fmt.{decimal}
use Rattle.tso_ops.specs.Values.{TraceValue}
use Rattle.tso_cert.specs.declared.steps.CertStep.{CertStep}
use Rattle.tso_cert.specs.declared.steps.Certificate.{Certificate}
use Rattle.tso_cert.specs.declared.steps.Certificate.TheVariants.{Unwritten, Cycle}
use Rattle.trace_explanation.specs.Names.{source_of}
use Rattle.trace_explanation.specs.JoinedTexts.{joined}
use Rattle.trace_explanation.specs.Steps.{is_among, is_edge, links_of, step_load}
use Rattle.trace_explanation.specs.UnfoldedCycles.{is_link}

-- ---- the cycle

abbrev pub cycle_in : Option Certificate → List ℕ
cycle_in None = []
cycle_in (Some (Unwritten n)) = []
cycle_in (Some (Cycle steps cycle)) = cycle

abbrev pub steps_in : Option Certificate → List CertStep
steps_in None = []
steps_in (Some (Unwritten n)) = []
steps_in (Some (Cycle steps cycle)) = steps

-- the load of the first step that is this edge
abbrev pub link_load : TraceValue → List CertStep → ℕ × ℕ → List ℕ
link_load t steps link = option_to_list (option_and_then (step_load t) (find (is_edge link) steps))

-- the numbers that have a red border: the unwritten load, or those of this cycle and the loads of its edges
abbrev pub red_numbers : TraceValue → Option Certificate → List ℕ → List ℕ
red_numbers t None cycle = []
red_numbers t (Some (Unwritten n)) cycle = n ∷ []
red_numbers t (Some (Cycle steps own)) cycle = cycle ++ flat_map (link_load t steps) (links_of cycle)

-- ---- what has a node

-- the first values have a node where the cycle has them
abbrev pub nodes_of : List ℕ → List ℕ → List ℕ
nodes_of drawn cycle = cond (is_among 0 cycle) (0 ∷ drawn) drawn

-- both ends have a node
abbrev pub are_nodes : List ℕ → ℕ × ℕ → Bool
are_nodes nodes edge = is_among edge.0 nodes && is_among edge.1 nodes

-- both ends have a node, and the edge is none of these
abbrev pub is_beside : List ℕ → List (ℕ × ℕ) → ℕ × ℕ → Bool
is_beside nodes links edge = are_nodes nodes edge && not (is_link links edge.0 edge.1)

abbrev pub node_name : ℕ → List ℕ
node_name n = cond (n == 0) (codes "init") (joined (codes "e" ∷ decimal n ∷ []))

-- ---- from stores to loads that read them

-- the line of the edge to load l from what it read, if both are drawn, and it is none of these edges
abbrev pub read_edge : TraceValue → List ℕ → List (ℕ × ℕ) → ℕ → List ℕ
read_edge t drawn shown l =
    option_map_or (λ s. cond (is_beside drawn shown (s, l)) (joined (codes "  e" ∷ decimal s ∷ codes " -> e" ∷ decimal l ∷ codes " [color=\"#3b6fb6\"];\n" ∷ [])) []) (source_of t l) []
