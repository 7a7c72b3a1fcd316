-- The limit on a campaign's seeds.
use Rattle.std.specs.Prelude.{ℕ}

-- the greatest number of seeds of a campaign
abbrev pub seed_count_limit : ℕ
seed_count_limit = 1000
