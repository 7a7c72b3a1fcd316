use Rattle.std.proofs.Common.{◌≡◌, refl, ℕ, zero, suc, false, get_or, replicate}
use Rattle.run_following.proofs.tallies.Tally.none.Goals as goal

unmarked : (n p : ℕ) → get_or (replicate n false) p false ≡ false
unmarked zero p = refl
unmarked (suc n) zero = refl
unmarked (suc n) (suc p) = unmarked n p

pub returns : goal.returns
returns c = record { acting = unmarked 4096; counts_all = c.none.ensures; compared_one = refl }
