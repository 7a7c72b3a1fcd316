-- The line that begins the explanation of a cycle: a load of it that read something too old, or a store that comes later, and what the cycle is called.
use Rattle.std.specs.Prelude.{ℕ, ◌==◌, ◌&&◌, ◌||◌, Bool, false, not, nat_lt, List, [], ◌∷◌, ◌++◌, reverse, get_or, Option, Some, None, cond, codes}
use Rattle.std.specs.Option.{option_map_or, option_to_list}
use Rattle.std.specs.List.{find}
use Rattle.std.specs.Fmt.{decimal}
use Rattle.tso_ops.specs.Values.{TraceValue}
use Rattle.tso_cert.specs.declared.steps.CertStep.{CertStep}
use Rattle.tso_cert.specs.declared.steps.Reason.{Reason}
use Rattle.tso_cert.specs.declared.steps.Reason.TheVariants.{Base, Inferred}
use Rattle.trace_explanation.specs.JoinedTexts.{joined}
use Rattle.trace_explanation.specs.declared.subjects.Subject.{Subject}
use Rattle.trace_explanation.specs.declared.subjects.Subject.TheVariants.{Trace, Log}
use Rattle.trace_explanation.specs.declared.unfolded_cycles.EdgeKind.TheVariants.{FromRead, ReadFrom}
use Rattle.trace_explanation.specs.ClosedPaths.{closing_path, is_torn, leaves_address, only_closes, stale_cycle}
use Rattle.trace_explanation.specs.Names.{address_at, source_of}
use Rattle.trace_explanation.specs.Namings.{address_named, line_named, processor_named, NamingValue}
use Rattle.trace_explanation.specs.Steps.{is_edge, is_number, links_of, own_load}
use Rattle.trace_explanation.specs.CycleShapes.{cycle_shape, is_load_at, is_one_operation, last_or_zero, on_one_processor, shape_text}
use Rattle.trace_explanation.specs.UnfoldedCycles.{missed_walk, unfolded_cycle, walk_by}

-- ---- events in short

-- an event, by its number or by its line in the log
abbrev pub place_by : Subject → NamingValue → ℕ → List ℕ
place_by Trace naming n = decimal n
place_by Log naming n = codes "line " ++ decimal (line_named naming n)

-- the same in parentheses
unfoldable pub place_words : NamingValue → ℕ → List ℕ
place_words naming n = joined (codes "(" ∷ place_by naming.subject naming n ∷ codes ")" ∷ [])

-- the store s, said of the processor of load l
unfoldable pub store_words : NamingValue → TraceValue → ℕ → ℕ → List ℕ
store_words naming t l s =
    cond (on_one_processor t s l) (joined (codes "its own store " ∷ place_words naming s ∷ []))
    (joined (codes "P" ∷ decimal (processor_named naming s) ∷ codes "'s store " ∷ place_words naming s ∷ []))

-- that load l read its address
unfoldable pub load_words : NamingValue → ℕ → List ℕ
load_words naming l = joined (codes "P" ∷ decimal (processor_named naming l) ∷ codes " read address " ∷ decimal (address_named naming l) ∷ [])

-- ---- what the processor of a load had seen or stored

-- the edge leads to the processor of load l from elsewhere
abbrev pub arrives : TraceValue → ℕ → ℕ × ℕ → Bool
arrives t l edge = on_one_processor t edge.1 l && not (on_one_processor t edge.0 l)

-- an earlier load of the same processor read store x, which is store w or comes later
abbrev pub seen_words : NamingValue → ℕ → ℕ → List ℕ
seen_words naming w x = cond (x == w) (codes ", though it had seen that store") (codes ", though it had seen the later store " ++ place_words naming x)

-- store y, which comes later than store w, is of the same processor and program-earlier than load l, or is of its swap
unfoldable pub stored_words : NamingValue → TraceValue → ℕ → ℕ → List ℕ
stored_words naming t l y =
    cond (nat_lt y l) (codes ", though it had made the later store " ++ place_words naming y)
    (cond (is_one_operation t l y) (joined (codes ", though the store " ∷ place_words naming y ∷ codes " of its swap comes after that" ∷ [])) [])

-- the same by the edge that leads to the processor
unfoldable pub arrival_words : NamingValue → TraceValue → ℕ → ℕ → ℕ × ℕ → List ℕ
arrival_words naming t w l edge =
    cond (is_load_at t edge.1) (cond (nat_lt edge.1 l && nat_lt 0 edge.0 && is_number edge.0 (source_of t edge.1)) (seen_words naming w edge.0) []) (stored_words naming t l edge.1)

-- the same by the last edge of the walk that leads to the processor of load l
abbrev pub before_words : NamingValue → TraceValue → List ℕ → ℕ → ℕ → List ℕ
before_words naming t walk w l = option_map_or (arrival_words naming t w l) (find (arrives t l) (reverse (links_of walk))) []

-- ---- the line

-- that the load of the line only shows that store w comes before store s
unfoldable pub order_words : NamingValue → ℕ → ℕ → List ℕ
order_words naming w s =
    joined (codes ", which only shows that store " ∷ place_words naming w ∷ codes " comes before store " ∷ place_words naming s ∷ [])

-- a walk from a store to a load that read something older than that store, with what is said of the two stores; the cycle has this shape
unfoldable pub stale_line : NamingValue → TraceValue → List ℕ → List ℕ → List ℕ → List ℕ
stale_line naming t shape walk order = joined (
    codes "\n" ∷ load_words naming (last_or_zero walk) ∷ codes " from before " ∷ store_words naming t (last_or_zero walk) (get_or walk 0 0) ∷ before_words naming t walk (get_or walk 0 0) (last_or_zero walk) ∷ order
    ∷ codes ": " ∷ shape_text shape ∷ codes ".\n" ∷ [])

-- the same by the path to the store from what the load read
abbrev pub stale_by : NamingValue → TraceValue → List CertStep → List ℕ → List ℕ → List ℕ
stale_by naming t steps walk path =
    stale_line naming t (cycle_shape t (stale_cycle t steps walk path)) walk (cond (only_closes t walk path) (order_words naming (get_or walk 0 0) (get_or path 0 0)) [])

-- the path from store u to a load that sees it and read what number v wrote
abbrev pub missed_path : TraceValue → ℕ → ℕ → Reason → List ℕ
missed_path t u v (Base rule) = u ∷ option_to_list (own_load t u v)
missed_path t u v (Inferred rule load path) = path

-- The walk leads from the first values, or is about one address: then the path alone has the cycle's shape.
abbrev pub is_direct : TraceValue → List ℕ → Bool
is_direct t walk = (get_or walk 0 0 == 0) || not (leaves_address t (address_at t (last_or_zero walk)) walk)

-- A walk to a store from what a load read, which sees that store by this path. Where the walk has the cycle's shape, the load only shows that the
-- store comes before what it read.
abbrev pub missed_by : NamingValue → TraceValue → List ℕ → List ℕ → List ℕ
missed_by naming t walk path =
    cond (is_direct t walk) (stale_line naming t (cycle_shape t path) path []) (stale_line naming t (cycle_shape t walk) path (order_words naming (last_or_zero walk) (get_or walk 0 0)))

-- the same by the steps
unfoldable pub missed_line : NamingValue → TraceValue → List CertStep → List ℕ → List ℕ
missed_line naming t steps walk =
    option_map_or (λ s. missed_by naming t walk (missed_path t s.from s.to s.reason)) (find (is_edge (last_or_zero walk, get_or walk 0 0)) steps) []

-- this path, by which a load sees the store that it missed, begins on the load's processor or goes over another address
abbrev pub explains_more : TraceValue → ℕ → List ℕ → Bool
explains_more t u path = on_one_processor t u (last_or_zero path) || leaves_address t (address_at t u) path

-- the path does by which a load sees the store that it missed, to which this walk leads from what it read
abbrev pub misses_more : TraceValue → List CertStep → List ℕ → Bool
misses_more t steps walk = option_map_or (λ s. explains_more t (last_or_zero walk) (missed_path t s.from s.to s.reason)) (find (is_edge (last_or_zero walk, get_or walk 0 0)) steps) false

-- in the cycle the walk from a store to a swap's load that missed it only shows that these stores have two orders, and another load missed one of them
abbrev pub explains_less : TraceValue → List CertStep → List ℕ → List ℕ → Bool
explains_less t steps cycle walk =
    is_torn (cycle_shape t walk) && not (only_closes t walk (closing_path steps walk)) && option_map_or (misses_more t steps) (missed_walk steps cycle) false

-- the walk from a store to the first load that missed it, unless it gives way to that of another load
abbrev pub stale_walk : TraceValue → List CertStep → List ℕ → Option (List ℕ)
stale_walk t steps cycle = option_map_or (λ walk. cond (explains_less t steps cycle walk) None (Some walk)) (walk_by steps FromRead cycle) None

-- a walk from a load to a store that it read
unfoldable pub future_line : NamingValue → TraceValue → List ℕ → List ℕ
future_line naming t walk = joined (
    codes "\n" ∷ load_words naming (get_or walk 0 0) ∷ codes " from " ∷ store_words naming t (get_or walk 0 0) (last_or_zero walk) ∷ codes ", though that store comes after the load "
    ∷ place_words naming (get_or walk 0 0) ∷ codes ": " ∷ shape_text (cycle_shape t walk) ∷ codes ".\n" ∷ [])

-- of the first load that read something older than a store of the cycle, or missed one, or read from a later store
unfoldable pub diagnosis_by : NamingValue → TraceValue → List CertStep → List ℕ → List ℕ
diagnosis_by naming t steps cycle =
    option_map_or (λ walk. stale_by naming t steps walk (closing_path steps walk)) (stale_walk t steps cycle)
    (option_map_or (missed_line naming t steps) (missed_walk steps cycle) (option_map_or (future_line naming t) (walk_by steps ReadFrom cycle) []))

-- the line of a cycle
abbrev pub diagnosis_text : NamingValue → TraceValue → List CertStep → List ℕ → List ℕ
diagnosis_text naming t steps cycle = diagnosis_by naming t steps (unfolded_cycle steps cycle)
