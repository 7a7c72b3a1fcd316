use Rattle.std.proofs.Common.{◌≡◌, false, take}
use Rattle.trace_explanation.specs.Steps.{is_among}
use Rattle.trace_pictures.proofs.members.is_among.Given as goal

abbrev pub invariant-loop-m : goal.invariant-loop-m
invariant-loop-m l = is_among l.n (take l.m-index l.numbers) ≡ false
