-- Loads that only show which of two stores comes first, where a path over other addresses puts the other first: the cycle is that path then.
use Rattle.std.specs.Prelude.{ℕ, ◌==◌, ◌&&◌, ◌||◌, Bool, not, nat_lt, List, [], cond, codes, get_or}
use Rattle.std.specs.Option.{option_map_or, unwrap_or}
use Rattle.std.specs.List.{find, list_any}
use Rattle.std.specs.Str.{bytes_eq}
use Rattle.tso_ops.specs.Values.{TraceValue}
use Rattle.tso_cert.specs.declared.steps.CertStep.{CertStep}
use Rattle.tso_cert.specs.declared.steps.Reason.{Reason}
use Rattle.tso_cert.specs.declared.steps.Reason.TheVariants.{Base, Inferred}
use Rattle.trace_explanation.specs.declared.unfolded_cycles.EdgeKind.TheVariants.{FromRead}
use Rattle.trace_explanation.specs.CycleShapes.{cycle_shape, last_or_zero, on_one_processor}
use Rattle.trace_explanation.specs.Names.{address_at}
use Rattle.trace_explanation.specs.Steps.{is_edge, links_of}
use Rattle.trace_explanation.specs.UnfoldedCycles.{unfolded_cycle, walk_by}

-- ---- the path of a from-read

-- the path of an inferred reason
abbrev pub reason_path : Reason → List ℕ
reason_path (Base rule) = []
reason_path (Inferred rule load path) = path

-- the path on which the edge rests that closes a walk: of a from-read from what the load read to the store that it missed
abbrev pub closing_path : List CertStep → List ℕ → List ℕ
closing_path steps walk = option_map_or (λ s. reason_path s.reason) (find (is_edge (last_or_zero walk, get_or walk 0 0)) steps) []

-- the path as a cycle, unfolded, from the end of its first from-read if it has one
abbrev pub closed_path : List CertStep → List ℕ → List ℕ
closed_path steps path = unwrap_or (walk_by steps FromRead (unfolded_cycle steps path)) (unfolded_cycle steps path)

-- ---- what a walk shows

-- the edge joins two processors, or begins at the first values, and begins at another address than this
abbrev pub is_elsewhere : TraceValue → ℕ → ℕ × ℕ → Bool
is_elsewhere t a link = not (on_one_processor t link.0 link.1) && not (address_at t link.0 == a)

-- the cycle has such an edge: it isn't about this address alone
abbrev pub leaves_address : TraceValue → ℕ → List ℕ → Bool
leaves_address t a cycle = list_any (is_elsewhere t a) (links_of cycle)

-- a swap's load missed a store that the swap's store comes after
abbrev pub is_torn : List ℕ → Bool
is_torn shape = bytes_eq shape (codes "Coe Fre")

-- a load missed the store that an earlier load of its processor read, or an own store, or is that of a swap: this shows which of two stores comes first,
-- and no more
abbrev pub shows_order : List ℕ → Bool
shows_order shape = bytes_eq shape (codes "Rfe PosRR Fre") || bytes_eq shape (codes "PosWR Fri") || is_torn shape

-- The walk from a store to a load that missed it only shows that this store comes before what the load read, and it is the path by which what the
-- load read comes before the store that has the shape of the violation.
unfoldable pub only_closes : TraceValue → List ℕ → List ℕ → Bool
only_closes t walk path = nat_lt 0 (get_or path 0 0) && shows_order (cycle_shape t walk) && leaves_address t (address_at t (last_or_zero walk)) path

-- the cycle that is named, of a walk from a store to a load that missed it, and the path to the store from what the load read
abbrev pub stale_cycle : TraceValue → List CertStep → List ℕ → List ℕ → List ℕ
stale_cycle t steps walk path = cond (only_closes t walk path) (closed_path steps path) walk
