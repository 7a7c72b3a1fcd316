use Rattle.std.proofs.Common.{◌≡◌, drop}
use Rattle.std.specs.List.{find}
use Rattle.run_steps.specs.Machine.{keeps_back}
use Rattle.run_steps.proofs.processors.first_passed.Given as goal

abbrev pub invariant-loop-other : goal.invariant-loop-other
invariant-loop-other l = find (keeps_back l.order l.store) (drop l.other-index l.older) ≡ find (keeps_back l.order l.store) l.older
