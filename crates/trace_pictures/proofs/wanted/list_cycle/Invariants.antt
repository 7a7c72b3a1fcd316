use Rattle.std.proofs.Common.{◌≡◌, take}
use Rattle.trace_pictures.proofs.wanted.list_cycle.Given as goal

abbrev pub invariant-loop-n : goal.invariant-loop-n
invariant-loop-n l = l.numbers.items ≡ take l.n-index l.cycle
