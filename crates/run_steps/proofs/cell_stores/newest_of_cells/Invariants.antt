use Rattle.std.proofs.Common.{◌≡◌, ◌<◌, ◌+◌, ℕ, None, drop, get_or, length}
use Rattle.run_steps.specs.Places.{cell_count, covers}
use Rattle.run_steps.proofs.WaitingFacts.{newest_by}
use Rattle.run_steps.proofs.cell_stores.newest_of_cells.Given as goal

abbrev pub invariant-loop-k : goal.invariant-loop-k
invariant-loop-k l = record {
  cells : (i : ℕ) → i < cell_count l.place → get_or l.found i None ≡ newest_by (λ w. covers w.place (l.place.address + i)) (drop l.k l.waiting) None;
  whole : length l.found ≡ 8;
}
