-- What is counted of rows that workers claim.
use Rattle.std.specs.Prelude.{◌==◌, ℕ, List, count_by}
use Rattle.round_pool.specs.Workers.{worker_limit}

-- how often the place stands in the list
abbrev pub times_listed : ℕ → List ℕ → ℕ
times_listed p places = count_by (λ q. q == p) places

-- the parts that all claimants of the rows have together: one for each of the most workers
abbrev pub all_parts : ℕ
all_parts = worker_limit
