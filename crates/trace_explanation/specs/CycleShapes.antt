-- The shape of a cycle of events: the kinds of its edges, as the tool diy names them, and the litmus test that has this shape.
use Rattle.std.specs.Prelude.{ℕ, suc, ◌-◌, ◌==◌, ◌&&◌, ◌||◌, Bool, false, List, [], ◌∷◌, ◌++◌, length, get_or, Option, cond, codes}
use Rattle.std.specs.Option.{option_map, option_map_or, unwrap_or}
use Rattle.std.specs.List.{find}
use Rattle.std.specs.Str.{bytes_eq}
use Rattle.tso_ops.specs.Values.{TraceValue}
use Rattle.tso_ops.specs.Events.{event_at}
use Rattle.trace_explanation.specs.Names.{address_at, source_of}
use Rattle.trace_explanation.specs.Steps.{is_number}
use Rattle.trace_explanation.specs.CycleNames.{cycle_names}

-- ---- events

-- the numbers are events of one processor
unfoldable pub on_one_processor : TraceValue → ℕ → ℕ → Bool
on_one_processor t x y = option_map_or (λ e. option_map_or (λ f. e.proc == f.proc) (event_at t y) false) (event_at t x) false

-- event n is a load
abbrev pub is_load_at : TraceValue → ℕ → Bool
is_load_at t n = option_map_or (λ e. e.load) (event_at t n) false

-- event n is the load of a swap
abbrev pub is_swap_load_at : TraceValue → ℕ → Bool
is_swap_load_at t n = option_map_or (λ e. e.swap && e.load) (event_at t n) false

-- the numbers are of one operation
unfoldable pub is_one_operation : TraceValue → ℕ → ℕ → Bool
is_one_operation t b x = (b == x) || ((suc b == x) && is_swap_load_at t b) || ((suc x == b) && is_swap_load_at t x)

-- ---- kinds of edges

-- R for a load, W for a store and the first values
abbrev pub letter_of : TraceValue → ℕ → List ℕ
letter_of t n = cond (is_load_at t n) (codes "R") (codes "W")

-- program order from event b to event x, at one address or at two: nothing where they are of one operation
unfoldable pub program_order_text : TraceValue → ℕ → ℕ → List ℕ
program_order_text t b x =
    cond (is_one_operation t b x) [] (codes "Po" ++ cond (address_at t b == address_at t x) (codes "s") (codes "d") ++ letter_of t b ++ letter_of t x ++ codes " ")

-- from a load to a later store, from a store to a load that read it, or from a store to a later one
abbrev pub communication_text : TraceValue → ℕ → ℕ → List ℕ
communication_text t x y = cond (is_load_at t x) (codes "Fr") (cond (is_number x (source_of t y)) (codes "Rf") (codes "Co"))

-- the same, with whether it stays on a processor or leads to another
unfoldable pub edge_text : TraceValue → ℕ → ℕ → List ℕ
edge_text t x y = communication_text t x y ++ cond (on_one_processor t x y) (codes "i") (codes "e")

-- ---- the shape

-- the edges from number x along these numbers, where the events of x's processor began with b
unfoldable pub edges_after : TraceValue → ℕ → ℕ → List ℕ → List ℕ
edges_after t b x [] = program_order_text t b x
edges_after t b x (y ∷ rest) = cond (on_one_processor t x y) (edges_after t b y rest) (program_order_text t b x ++ edge_text t x y ++ codes " " ++ edges_after t y y rest)

-- the last of these numbers
abbrev pub last_or_zero : List ℕ → ℕ
last_or_zero numbers = get_or numbers (length numbers - 1) 0

-- the edges of a cycle, of which the last leads back to its first number
unfoldable pub cycle_shape : TraceValue → List ℕ → List ℕ
cycle_shape t [] = []
cycle_shape t (x ∷ rest) = edges_after t x x rest ++ edge_text t (last_or_zero (x ∷ rest)) x

-- the name that stands beside this shape
abbrev pub name_of : List ℕ → List (List ℕ × List ℕ) → Option (List ℕ)
name_of shape names = option_map (λ row. row.1) (find (λ row. bytes_eq row.0 shape) names)

-- what a cycle of this shape is called: by its edges where it has no name
abbrev pub shape_text : List ℕ → List ℕ
shape_text shape = unwrap_or (name_of shape cycle_names) (codes "the cycle " ++ shape)
