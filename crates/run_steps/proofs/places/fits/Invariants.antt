use Rattle.std.proofs.Common.{◌≡◌, ◌-◌}
use Rattle.run_steps.specs.Widths.{above_bytes}
use Rattle.run_steps.proofs.places.fits.Given as goal

abbrev pub invariant-loop-i : goal.invariant-loop-i
invariant-loop-i l = above_bytes (l.width - l._i) l.rest ≡ above_bytes l.width l.value
