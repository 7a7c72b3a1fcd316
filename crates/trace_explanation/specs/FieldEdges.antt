-- What the field calls the edges of a cycle: program order, reads-from, coherence and from-read.
use Rattle.std.specs.Prelude.{ℕ, ◌&&◌, ◌||◌, Bool, true, false, nat_lt, List, Option, cond, codes}
use Rattle.std.specs.Option.{option_map_or}
use Rattle.std.specs.List.{find}
use Rattle.tso_ops.specs.Values.{TraceValue}
use Rattle.tso_cert.specs.declared.rules.BaseRule.TheVariants.{Stbar, Membar}
use Rattle.tso_cert.specs.declared.rules.InferredRule.{InferredRule}
use Rattle.tso_cert.specs.declared.rules.InferredRule.TheVariants.{LoadPast, StorePast, SwapBefore, SwapAfter}
use Rattle.tso_cert.specs.declared.steps.Reason.{Reason}
use Rattle.tso_cert.specs.declared.steps.Reason.TheVariants.{Base, Inferred}
use Rattle.tso_cert.specs.declared.steps.CertStep.{CertStep}
use Rattle.trace_explanation.specs.declared.field_edges.FieldEdge.{FieldEdge}
use Rattle.trace_explanation.specs.declared.field_edges.FieldEdge.TheVariants as edge
use Rattle.trace_explanation.specs.CycleShapes.{is_load_at, is_one_operation, on_one_processor}
use Rattle.trace_explanation.specs.Names.{source_of}
use Rattle.trace_explanation.specs.Steps.{is_edge, is_number}

-- the inferred rule rests on that a swap is atomic
abbrev pub is_of_swaps : InferredRule → Bool
is_of_swaps LoadPast = false
is_of_swaps StorePast = false
is_of_swaps SwapBefore = true
is_of_swaps SwapAfter = true

-- the reason of the step, if there is one, is that a swap is atomic
abbrev pub is_swap_reason : Reason → Bool
is_swap_reason (Base rule) = false
is_swap_reason (Inferred rule load path) = is_of_swaps rule

abbrev pub is_by_swap : Option CertStep → Bool
is_by_swap step = option_map_or (λ s. is_swap_reason s.reason) step false

-- program order with this reason, and what keeps it
abbrev pub kept_by : Reason → FieldEdge
kept_by (Base Membar) = edge.ByMembar
kept_by (Base Stbar) = edge.ByStbar
kept_by (Base rule) = edge.Program
kept_by (Inferred rule load path) = cond (is_of_swaps rule) edge.BySwap edge.Program

-- number y is of the same processor as number x, and later there
abbrev pub is_later : TraceValue → ℕ → ℕ → Bool
is_later t x y = nat_lt x y && on_one_processor t x y

-- from an event to a later one on its processor, by the step that is the edge, if there is one
abbrev pub program_edge : TraceValue → ℕ → ℕ → Option CertStep → FieldEdge
program_edge t x y step = cond (is_one_operation t x y) edge.Swap (option_map_or (λ s. kept_by s.reason) step edge.Program)

-- from an event to one on another processor, or to an earlier one, by the step that is the edge, if there is one
abbrev pub other_edge : TraceValue → ℕ → ℕ → Option CertStep → FieldEdge
other_edge t x y step =
    cond (is_number x (source_of t y)) edge.ReadsFrom
    (cond (is_one_operation t x y || is_by_swap step) edge.Swap (cond (is_load_at t x) edge.FromRead edge.Coherence))

-- an edge of a cycle, by the first step that is the edge
unfoldable pub field_edge : TraceValue → List CertStep → ℕ × ℕ → FieldEdge
field_edge t steps link =
    cond (is_later t link.0 link.1) (program_edge t link.0 link.1 (find (is_edge link) steps))
    (other_edge t link.0 link.1 (find (is_edge link) steps))

-- its name
abbrev pub field_name : FieldEdge → List ℕ
field_name edge.Program = codes "po"
field_name edge.ByMembar = codes "po [mb]"
field_name edge.ByStbar = codes "po [stbar]"
field_name edge.BySwap = codes "po [swap]"
field_name edge.ReadsFrom = codes "rf"
field_name edge.Coherence = codes "co"
field_name edge.FromRead = codes "fr"
field_name edge.Swap = codes "swap"
