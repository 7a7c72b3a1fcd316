use Rattle.std.proofs.Common.{◌≡◌, ◌<◌, ◌&&◌, ℕ, None, Some, cond, get_or, nat_le, nat_lt}
use Rattle.std.specs.Option.{option_or}
use Rattle.run_steps.proofs.cell_stores.add_between.Given as goal

abbrev pub invariant-loop-i : goal.invariant-loop-i
invariant-loop-i l = record {
  cells : (j : ℕ) → j < 8 → get_or l.found j None ≡ option_or (get_or l.fn.found j None) (cond (nat_le l.first j && nat_lt j l.i) (Some l.store) None);
  empty : l.end < l.first → l.i ≡ l.first;
}
