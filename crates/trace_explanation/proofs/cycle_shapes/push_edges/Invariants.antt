use Rattle.std.proofs.Common.{◌≡◌, ◌++◌, drop, string_bytes}
use Rattle.trace_explanation.specs.CycleShapes.{edges_after}
use Rattle.trace_explanation.proofs.cycle_shapes.push_edges.Given as goal

-- the edges so far and those of what is left are all
abbrev pub invariant-loop-number : goal.invariant-loop-number
invariant-loop-number l =
    string_bytes l.text ++ edges_after l.trace l.begin l.last (drop l.number-index l.rest) ≡ string_bytes l.fn.text ++ edges_after l.trace l.fn.first l.fn.first l.rest
