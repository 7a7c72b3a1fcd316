use Rattle.std.proofs.Common.{◌≡◌, ◌++◌, take}
use Rattle.trace_pictures.proofs.paths.push_numbers.Given as goal

abbrev pub invariant-loop-n : goal.invariant-loop-n
invariant-loop-n l = l.numbers.items ≡ l.fn.numbers.items ++ take l.n-index l.more
