use Rattle.std.proofs.Common.{◌≡◌, map, take}
use Rattle.std.specs.Prelude.{◌==◌}
use Rattle.std.specs.List.{filter}
use Rattle.trace_pictures.specs.declared.rows.Row.TheVariants.{Event}
use Rattle.trace_pictures.specs.Rows.{stands}
use Rattle.trace_pictures.proofs.rows.event_rows.Given as goal

abbrev pub invariant-loop-n : goal.invariant-loop-n
invariant-loop-n l = l.rows.items ≡ map Event (filter (stands l.placed l.p (λ place. place == l.place)) (take l.n-index l.drawn))
