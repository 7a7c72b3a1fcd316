use Rattle.std.proofs.Common.{◌≡◌, ◌<◌, ℕ, None, true, get_or, is_some}
use Rattle.run_steps.proofs.cell_stores.has_all.Given as goal

abbrev pub invariant-loop-i : goal.invariant-loop-i
invariant-loop-i l = (j : ℕ) → j < l.i → is_some (get_or l.found j None) ≡ true
