-- The cycle that a diagnosis names: that of a certificate, unfolded, or in place of it the path by which a load sees a store that it missed, or by which
-- that store comes after what the load read.
use Rattle.std.specs.Prelude.{ℕ, List, get_or, cond}
use Rattle.std.specs.Option.{option_map_or}
use Rattle.std.specs.List.{find}
use Rattle.tso_ops.specs.Values.{TraceValue}
use Rattle.tso_cert.specs.declared.steps.CertStep.{CertStep}
use Rattle.trace_explanation.specs.ClosedPaths.{closing_path, stale_cycle}
use Rattle.trace_explanation.specs.CycleShapes.{last_or_zero}
use Rattle.trace_explanation.specs.Diagnoses.{is_direct, missed_path, stale_walk}
use Rattle.trace_explanation.specs.Steps.{is_edge}
use Rattle.trace_explanation.specs.UnfoldedCycles.{missed_walk, unfolded_cycle}

-- by this path from a store to a load that missed it: the path where it has the shape of the cycle, else the walk to the store from what the load read
abbrev pub missed_cycle : TraceValue → List ℕ → List ℕ → List ℕ
missed_cycle t walk path = cond (is_direct t walk) path walk

-- the same by the steps
abbrev pub missed_by_steps : TraceValue → List CertStep → List ℕ → List ℕ
missed_by_steps t steps walk = option_map_or (λ s. missed_cycle t walk (missed_path t s.from s.to s.reason)) (find (is_edge (last_or_zero walk, get_or walk 0 0)) steps) walk

-- the walk of which the diagnosis of this cycle says the shape, or the cycle itself where it has neither a from-read nor a missed store
unfoldable pub named_cycle : TraceValue → List CertStep → List ℕ → List ℕ
named_cycle t steps cycle =
    option_map_or (λ walk. stale_cycle t steps walk (closing_path steps walk)) (stale_walk t steps cycle)
    (option_map_or (missed_by_steps t steps) (missed_walk steps cycle) cycle)

-- the same by the cycle of a certificate
abbrev pub diagnosed_cycle : TraceValue → List CertStep → List ℕ → List ℕ
diagnosed_cycle t steps cycle = named_cycle t steps (unfolded_cycle steps cycle)
