use Rattle.std.proofs.Common.{◌≡◌, ℕ, ◌<◌, Some, slice_get}
use Rattle.issue_desk.specs.Desks.{PassValue}
use Rattle.units_for_tests.proofs.passes.are_passes_of.Given as goal

abbrev pub invariant-loop-p : goal.invariant-loop-p
invariant-loop-p l = (q : ℕ) (pass : PassValue) → q < l.p → slice_get l.passes q ≡ Some pass → pass.processor ≡ q
