-- The refusals of a run: the first of them, and how many there are.
use Rattle.std.specs.Prelude.{◌≡◌, List, length, map, take}
use Rattle.run_following.specs.Facts.{RefusalTold, told_value}
use Rattle.run_following.specs.declared.noted.NotedRefusals.{NotedRefusals}

-- the first of these refusals, and their number
pub record AreNoted (noted : NotedRefusals) (refusals : List RefusalTold) : Type 0 where
  pub first : map told_value noted.first.items ≡ take noted.most refusals
  pub total : noted.total ≡ length refusals
