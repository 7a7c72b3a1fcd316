use Rattle.std.proofs.Common.{◌≡◌, take}
use Rattle.tso_cert.proofs.lists.NumList.from_numbers.Given as goal

-- the numbers passed are in the list
abbrev pub invariant-loop-number : goal.invariant-loop-number
invariant-loop-number l = l.list.items ≡ take l.number-index l.numbers
