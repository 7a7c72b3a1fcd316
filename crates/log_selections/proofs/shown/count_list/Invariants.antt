use Rattle.std.proofs.Common.{◌≡◌, take}
use Rattle.log_selections.specs.Shown.{counted_of}
use Rattle.log_selections.proofs.shown.count_list.Given as goal

abbrev pub invariant-loop-s : goal.invariant-loop-s
invariant-loop-s l = l.list.items ≡ counted_of (take l.s-index l.fn.shown) l.fn.p
