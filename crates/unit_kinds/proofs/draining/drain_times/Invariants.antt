use Rattle.std.proofs.Common.{◌≡◌}
use Rattle.unit_kinds.specs.Internal.Buffer.{drained_times}
use Rattle.unit_kinds.proofs.draining.drain_times.Given as goal

abbrev pub invariant-loop-done : goal.invariant-loop-done
invariant-loop-done l = l.parts ≡ drained_times l._done l.initial.parts l.p
