-- Lemmas on options and tests.
use Rattle.std.proofs.Common.{◌≡◌, ◌&&◌, refl, cond, Bool, true, false, Option, None, Some, []}
use Rattle.std.specs.List.{cons_option}
use Rattle.std.specs.Option.{option_and_then, option_to_list}

pub and_then-some : {X Y : Type 0} (f : X → Option Y) (o : Option X) (y : Y) → option_and_then f o ≡ Some y → (x : X) × (o ≡ Some x) × (f x ≡ Some y)
and_then-some f None y is = absurd cc
and_then-some f (Some x) y is = (x, refl, is)

pub cond-some : {X : Type 0} (b : Bool) (x y : X) → cond b (Some x) None ≡ Some y → (b ≡ true) × (x ≡ y)
cond-some true x y is = (refl, cc)
cond-some false x y is = absurd cc

-- an option's item alone
pub single : {X : Type 0} (o : Option X) → cons_option o [] ≡ option_to_list o
single None = refl
single (Some x) = refl

pub both : (b c : Bool) → (b && c) ≡ true → (b ≡ true) × (c ≡ true)
both true c e = (refl, e)
both false c e = absurd cc
