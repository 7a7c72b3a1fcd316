use Rattle.std.proofs.Common.{◌≡◌, false, take}
use Rattle.trace_explanation.specs.UnfoldedCycles.{is_link}
use Rattle.trace_explanation.proofs.unfolded_cycles.is_link.Given as goal

abbrev pub invariant-loop-link : goal.invariant-loop-link
invariant-loop-link l = is_link (take l.link-index l.links) l.u l.v ≡ false
