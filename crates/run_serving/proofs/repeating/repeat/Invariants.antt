use Rattle.std.proofs.Common.{◌≤◌}
use Rattle.run_serving.proofs.RepeatingFacts.{HaveRun}
use Rattle.run_serving.proofs.repeating.repeat.Given as goal

abbrev pub invariant-loop-done : goal.invariant-loop-done
invariant-loop-done g l = HaveRun l.request.unit l.program l._done (g.W.Write.contents l.fn.writer) (g.W.Write.contents l.writer) × (l._done ≤ l.times)
