use Rattle.std.proofs.Common.{◌≡◌, ◌++◌, map, take}
use Rattle.round_pool.specs.Rankings.{edge_from}
use Rattle.round_pool.proofs.edges.push_row.Given as goal

-- the edges to the numbers passed are pushed
abbrev pub invariant-loop-v : goal.invariant-loop-v
invariant-loop-v l = l.edges.items ≡ l.initial.edges.items ++ map (edge_from l.u) (take l.v-index l.row)
