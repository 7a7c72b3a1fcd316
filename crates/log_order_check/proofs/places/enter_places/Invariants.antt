use Rattle.std.proofs.Common.{ℕ, ◌≡◌, ◌<◌, length, take}
use Rattle.order_check.specs.Refusals.{IsRepeatedAt}
use Rattle.order_check.specs.Internal.Places.{HasPlaces}
use Rattle.log_order_check.proofs.places.enter_places.Given as goal

-- the table says where the numbers passed stand, of which none stands at two places
abbrev pub invariant-loop-k : goal.invariant-loop-k
invariant-loop-k l = record {
  long : length l.places ≡ length l.initial.places;
  has : HasPlaces (take l.k l.order) l.places;
  distinct : (j : ℕ) → j < l.k → IsRepeatedAt l.order j → ⊥;
}
