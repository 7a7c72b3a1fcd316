use Rattle.std.proofs.Common.{◌≡◌, ◌-◌, get_or}
use Rattle.run_steps.specs.Places.{cell_count, parts_from, cell_parts}
use Rattle.run_steps.proofs.places.Place.part.Given as goal

abbrev pub invariant-loop-i : goal.invariant-loop-i
invariant-loop-i l = get_or (cell_parts l.self l.value) l.number 0 ≡ get_or (parts_from l.self.width (cell_count l.self - l._i) l.rest) (l.number - l._i) 0
