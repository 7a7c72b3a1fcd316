use Rattle.std.proofs.Common.{◌≡◌, false, take}
use Rattle.std.specs.Prelude.{nat_lt}
use Rattle.std.specs.List.{list_any}
use Rattle.trace_pictures.specs.Rows.{stands}
use Rattle.trace_pictures.proofs.rows.some_before.Given as goal

abbrev pub invariant-loop-n : goal.invariant-loop-n
invariant-loop-n l = list_any (stands l.placed l.p (λ other. nat_lt other l.place)) (take l.n-index l.drawn) ≡ false
