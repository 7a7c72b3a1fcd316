use Rattle.std.proofs.Common.{◌≡◌, take}
use Rattle.round_pool.proofs.worker_rows.narrowed.Given as goal

-- the numbers passed are there
abbrev pub invariant-loop-v : goal.invariant-loop-v
invariant-loop-v l = l.narrow.items ≡ take l.v-index l.row
