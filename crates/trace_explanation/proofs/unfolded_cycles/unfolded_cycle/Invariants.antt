use Rattle.std.proofs.Common.{◌≡◌, take}
use Rattle.std.specs.List.{flat_map}
use Rattle.trace_explanation.specs.UnfoldedCycles.{link_numbers}
use Rattle.trace_explanation.proofs.unfolded_cycles.unfolded_cycle.Given as goal

abbrev pub invariant-loop-link : goal.invariant-loop-link
invariant-loop-link l = l.numbers.items ≡ flat_map (link_numbers l.link-items l.numbered) (take l.link-index l.link-items)
