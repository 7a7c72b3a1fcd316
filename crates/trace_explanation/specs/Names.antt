-- How a trace names its events, and what its loads read.
use Rattle.std.specs.Prelude.{ℕ, ◌==◌, ◌&&◌, Bool, false, not, List, [], ◌∷◌, Option, None, Some, cond, codes}
use Rattle.std.specs.Option.{option_and_then, option_map_or}
use Rattle.std.specs.List.{find, join_with_byte, range_with_len}
use Rattle.std.specs.Fmt.{decimal}
use Rattle.tso_ops.specs.declared.ops.Outcome.{Outcome}
use Rattle.tso_ops.specs.declared.events.Event.{Event}
use Rattle.tso_ops.specs.Settings.{first_value}
use Rattle.tso_ops.specs.Values.{TraceValue}
use Rattle.tso_ops.specs.Events.{event_at, event_total}
use Rattle.tso_text.specs.Printed.{outcome_tokens}
use Rattle.trace_explanation.specs.JoinedTexts.{joined}
use Rattle.tso_ops.specs.declared.operations.Part.{Part}
use Rattle.tso_ops.specs.declared.operations.Part.TheVariants.{Whole, SwapLoad, SwapStore}
use Rattle.tso_ops.specs.declared.operations.EventOperation.{EventOperation}

-- the operation as in the trace's text
unfoldable pub outcome_text : Outcome → List ℕ
outcome_text outcome = join_with_byte 32 (outcome_tokens outcome)

-- which part of a swap an event is
abbrev pub part_text : Part → List ℕ
part_text Whole = []
part_text SwapLoad = codes " load"
part_text SwapStore = codes " store"

-- an event, by its operation: its processor, the operation, the number
unfoldable pub event_name : ℕ → EventOperation → List ℕ
event_name n o = joined (codes "P" ∷ decimal o.proc ∷ codes " '" ∷ outcome_text o.outcome ∷ codes "'" ∷ part_text o.part ∷ codes " (" ∷ decimal n ∷ codes ")" ∷ [])

-- ---- what loads read

-- the numbers of a trace's events, from 1
abbrev pub event_numbers : TraceValue → List ℕ
event_numbers t = range_with_len 1 (event_total t)

-- event n is a store that passes the test
abbrev pub is_store_where : TraceValue → (Event → Bool) → ℕ → Bool
is_store_where t test n = option_map_or (λ e. not e.load && test e) (event_at t n) false

-- the source of a load: 0 where it read the first value of its address, or the first store to its address that wrote its value
abbrev pub load_source : TraceValue → Event → Option ℕ
load_source t e =
    cond (e.value == first_value t.setting.first e.a) (Some 0) (find (is_store_where t (λ s. s.a == e.a && s.value == e.value)) (event_numbers t))

-- the source of event n, if it is a load that has one
unfoldable pub source_of : TraceValue → ℕ → Option ℕ
source_of t n = option_and_then (λ e. cond e.load (load_source t e) None) (event_at t n)

-- the processor of event n
abbrev pub processor_at : TraceValue → ℕ → ℕ
processor_at t n = option_map_or (λ e. e.proc) (event_at t n) 0

-- the address of event n
abbrev pub address_at : TraceValue → ℕ → ℕ
address_at t n = option_map_or (λ e. e.a) (event_at t n) 0
