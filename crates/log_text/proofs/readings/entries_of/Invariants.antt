use Rattle.std.proofs.Common.{◌≡◌, ◌++◌}
use Rattle.log_text.proofs.readings.entries_of.Given as goal

abbrev pub invariant-loop-a : goal.invariant-loop-a
invariant-loop-a l = l.entries.items ++ l.a-iterator ≡ l.fn.map.entries
