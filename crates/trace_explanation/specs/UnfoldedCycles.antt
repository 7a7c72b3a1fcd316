-- The cycle that a diagnosis speaks of: that of a certificate, unfolded, so that some inferred edges are the paths that they rest on.
use Rattle.std.specs.Prelude.{ℕ, ◌+◌, ◌-◌, ◌==◌, ◌&&◌, Bool, true, false, List, [], ◌∷◌, ◌++◌, length, take, drop, get_or, position, Option, cond}
use Rattle.std.specs.Option.{option_map, option_map_or, option_or}
use Rattle.std.specs.List.{find, flat_map, list_any}
use Rattle.tso_cert.specs.declared.rules.BaseRule.TheVariants.{Read, Own}
use Rattle.tso_cert.specs.declared.rules.InferredRule.{InferredRule}
use Rattle.tso_cert.specs.declared.rules.InferredRule.TheVariants.{LoadPast, StorePast, SwapBefore, SwapAfter}
use Rattle.tso_cert.specs.declared.steps.Reason.{Reason}
use Rattle.tso_cert.specs.declared.steps.Reason.TheVariants.{Base, Inferred}
use Rattle.tso_cert.specs.declared.steps.CertStep.{CertStep}
use Rattle.trace_explanation.specs.declared.unfolded_cycles.EdgeKind.{EdgeKind}
use Rattle.trace_explanation.specs.declared.unfolded_cycles.EdgeKind.TheVariants.{FromRead, MissedOwn, Missed, ReadFrom}
use Rattle.trace_explanation.specs.Steps.{is_edge, links_of}

-- ---- paths in place of edges

-- the edge from u to v is one of these
abbrev pub is_link : List (ℕ × ℕ) → ℕ → ℕ → Bool
is_link links u v = list_any (λ link. link.0 == u && link.1 == v) links

-- the numbers but for the last
abbrev pub without_last : List ℕ → List ℕ
without_last path = take (length path - 1) path

-- What stands for number u of the cycle and its inferred edge, up to the number that the edge leads to: u by itself; where a cycle comes to a load from
-- what it read, and goes on to a store that the load doesn't see, the path from the one to the other; where no store comes between a swap's load and its
-- store, the path to the store or from the load.
unfoldable pub unfolded_numbers : List (ℕ × ℕ) → ℕ → InferredRule → List ℕ → List ℕ
unfolded_numbers links u LoadPast path = u ∷ []
unfolded_numbers links u StorePast path = cond (is_link links (get_or path 0 0) u) (drop 1 (without_last path)) (u ∷ [])
unfolded_numbers links u SwapBefore path = path
unfolded_numbers links u SwapAfter path = u ∷ without_last path

-- the same by the reason of the edge
abbrev pub reason_numbers : List (ℕ × ℕ) → ℕ → Reason → List ℕ
reason_numbers links u (Base rule) = u ∷ []
reason_numbers links u (Inferred rule load path) = unfolded_numbers links u rule path

-- the same by the first step that is the edge
abbrev pub link_numbers : List (ℕ × ℕ) → List CertStep → ℕ × ℕ → List ℕ
link_numbers links steps link = option_map_or (λ s. reason_numbers links link.0 s.reason) (find (is_edge link) steps) (link.0 ∷ [])

-- the cycle with such paths
unfoldable pub unfolded_cycle : List CertStep → List ℕ → List ℕ
unfolded_cycle steps cycle = flat_map (link_numbers (links_of cycle) steps) (links_of cycle)

-- ---- where it begins

-- Whether a rule gives an edge of this kind: from a load to a later store than it read; from a store that a load sees to what the load read, of its
-- own processor or of any; from a store to a load that read it.
abbrev pub is_of_kind : EdgeKind → Reason → Bool
is_of_kind FromRead (Inferred StorePast load path) = true
is_of_kind MissedOwn (Base Own) = true
is_of_kind Missed (Inferred LoadPast load path) = true
is_of_kind Missed (Base Own) = true
is_of_kind ReadFrom (Base Read) = true
is_of_kind _ _ = false

-- the first step that is the edge has this kind
abbrev pub has_kind : List CertStep → EdgeKind → ℕ × ℕ → Bool
has_kind steps kind link = option_map_or (λ s. is_of_kind kind s.reason) (find (is_edge link) steps) false

-- the numbers of a cycle from the one at place k on, and then those before it
abbrev pub turned : List ℕ → ℕ → List ℕ
turned cycle k = drop k cycle ++ take k cycle

-- the cycle from the end of its first edge of this kind around to the beginning of that edge
unfoldable pub walk_by : List CertStep → EdgeKind → List ℕ → Option (List ℕ)
walk_by steps kind cycle = option_map (λ k. turned cycle (k + 1)) (position (has_kind steps kind) (links_of cycle))

-- the same by an edge from a store that a load sees to what it read: if there is one of an own store, by that
abbrev pub missed_walk : List CertStep → List ℕ → Option (List ℕ)
missed_walk steps cycle = option_or (walk_by steps MissedOwn cycle) (walk_by steps Missed cycle)
