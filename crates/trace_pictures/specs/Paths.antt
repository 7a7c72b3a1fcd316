-- The paths by which edges of a cycle are inferred.
use Rattle.std.specs.Prelude.{ℕ, ◌-◌, ◌&&◌, List, [], ◌∷◌, ◌++◌, length, take, cond}
use Rattle.std.specs.Option.{option_map_or}
use Rattle.std.specs.List.{find, flat_map, fold}
use Rattle.tso_cert.specs.declared.steps.CertStep.{CertStep}
use Rattle.tso_cert.specs.declared.steps.Reason.{Reason}
use Rattle.tso_cert.specs.declared.steps.Reason.TheVariants.{Base, Inferred}
use Rattle.trace_explanation.specs.Steps.{is_edge, links_of}
use Rattle.trace_pictures.specs.Edges.{is_beside}

-- the path of a step: none where it isn't inferred
abbrev pub path_of : Reason → List ℕ
path_of (Base rule) = []
path_of (Inferred rule load path) = path

-- the path of the first step that is this edge
abbrev pub link_path : List CertStep → ℕ × ℕ → List ℕ
link_path steps link = option_map_or (λ s. path_of s.reason) (find (is_edge link) steps) []

-- the numbers of the paths of these edges
abbrev pub path_numbers : List CertStep → List (ℕ × ℕ) → List ℕ
path_numbers steps links = flat_map (link_path steps) links

-- the edges of a path: those of the cycle through its numbers without the last, which leads back
abbrev pub path_links : List ℕ → List (ℕ × ℕ)
path_links path = take (length (links_of path) - 1) (links_of path)

-- the edge is orange too, if both ends have nodes and it is neither one of these of the cycle nor orange already
abbrev pub with_orange : List ℕ → List (ℕ × ℕ) → List (ℕ × ℕ) → ℕ × ℕ → List (ℕ × ℕ)
with_orange nodes links orange edge = cond (is_beside nodes links edge && is_beside nodes orange edge) (orange ++ edge ∷ []) orange

-- the edges of the path of an edge of the cycle are orange too
abbrev pub with_path : List CertStep → List ℕ → List (ℕ × ℕ) → List (ℕ × ℕ) → ℕ × ℕ → List (ℕ × ℕ)
with_path steps nodes links orange link = fold (with_orange nodes links) orange (path_links (link_path steps link))

-- the orange edges, by the edges of the cycle
abbrev pub orange_links : List CertStep → List ℕ → List (ℕ × ℕ) → List (ℕ × ℕ)
orange_links steps nodes links = fold (with_path steps nodes links) [] links
