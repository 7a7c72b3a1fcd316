-- Which events a picture draws: all of them where there are at most 100, else those that the verdict speaks of, up to 100.
use Rattle.std.specs.Prelude.{ℕ, suc, ◌+◌, ◌-◌, ◌&&◌, not, nat_le, List, [], ◌∷◌, ◌++◌, length, take, reverse, Option, None, Some, cond}
use Rattle.std.specs.Option.{option_map_or, option_to_list}
use Rattle.std.specs.List.{flat_map, fold}
use Rattle.tso_ops.specs.Values.{TraceValue}
use Rattle.tso_ops.specs.Events.{event_total}
use Rattle.tso_ops.specs.Operations.{operation_at}
use Rattle.tso_ops.specs.declared.operations.Part.{Part}
use Rattle.tso_ops.specs.declared.operations.Part.TheVariants.{Whole, SwapLoad, SwapStore}
use Rattle.tso_cert.specs.declared.steps.Certificate.{Certificate}
use Rattle.tso_cert.specs.declared.steps.Certificate.TheVariants.{Unwritten, Cycle}
use Rattle.trace_explanation.specs.Explanations.{store_numbers}
use Rattle.trace_explanation.specs.Names.{address_at, event_numbers, source_of}
use Rattle.trace_explanation.specs.Steps.{is_among, links_of, step_numbers}
use Rattle.trace_pictures.specs.Paths.{path_numbers}

-- ---- which events are wanted where not all are drawn, the most wanted first

-- What the verdict speaks of: nothing without violation; an unwritten load and the first 16 stores to its address; the numbers of the cycle, those
-- of the paths by which its edges are inferred, and those of the steps, of the last step first.
abbrev pub verdict_numbers : TraceValue → Option Certificate → List ℕ
verdict_numbers t None = []
verdict_numbers t (Some (Unwritten n)) = n ∷ take 16 (store_numbers t (address_at t n))
verdict_numbers t (Some (Cycle steps cycle)) = cycle ++ path_numbers steps (links_of cycle) ++ flat_map (step_numbers t) (reverse steps)

-- each of these before its source, if it is a load that has one
abbrev pub wanted : TraceValue → Option Certificate → List ℕ
wanted t c = flat_map (λ n. n ∷ option_to_list (source_of t n)) (verdict_numbers t c)

-- ---- which are drawn

-- how many events a picture draws at most
abbrev pub drawn_limit : ℕ
drawn_limit = 100

-- the events of the operation that event n is this part of
abbrev pub whole_by : ℕ → Part → List ℕ
whole_by n Whole = n ∷ []
whole_by n SwapLoad = n ∷ suc n ∷ []
whole_by n SwapStore = (n - 1) ∷ n ∷ []

-- the events of the operation that gives event n: none where there is no such event
abbrev pub whole_at : TraceValue → ℕ → List ℕ
whole_at t n = option_map_or (λ o. whole_by n o.part) (operation_at t n) []

-- event n is drawn too, with the whole operation that gives it, unless it is drawn already or that would be too many
unfoldable pub with_whole : TraceValue → List ℕ → ℕ → List ℕ
with_whole t drawn n =
    cond (not (is_among n drawn) && nat_le (length drawn + length (whole_at t n)) drawn_limit) (drawn ++ whole_at t n) drawn

-- the drawn events: all, where that isn't too many, or else those that the verdict speaks of
unfoldable pub drawn_events : TraceValue → Option Certificate → List ℕ
drawn_events t c = cond (nat_le (event_total t) drawn_limit) (event_numbers t) (fold (with_whole t) [] (wanted t c))
