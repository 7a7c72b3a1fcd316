-- When two programs are the same.
use Rattle.std.proofs.Common.{rules, ◌≡◌, ◌∙◌, ap, refl, ℕ, Bool, true, ◌&&◌, ◌==◌, List, [], ◌∷◌, Vec}
use Rattle.std.specs.Bool.{Decides}
use Rattle.std.specs.Global.{Global}
use Rattle.std.proofs.lemmas.Slice.Eq.{slice_eq-Decides}
use lib.Pointwise.{pointwise}
use denote.Enum.Bare.{sameb}
use Rattle.tso_ops.specs.declared.ops.Op.{Op}
use Rattle.tso_ops.specs.declared.settings.Order.{Order}
use Rattle.tso_ops.specs.declared.settings.Version.{Version}
use Rattle.tso_ops.specs.declared.settings.Setting.{Setting}
use Rattle.tso_ops.specs.contracts.settings.Order.{the_type as order_type}
use Rattle.tso_ops.specs.contracts.settings.Version.{the_type as version_type}
use Rattle.tso_ops.specs.Settings.{SettingValue, setting_of}
use Rattle.tso_ops.specs.contracts.ops.OpPartialEq.TheImpl.{ghosts}
use Rattle.tso_ops.specs.Values.{rows}

pub op-Decides : (a b : Op) → Decides (ghosts.eq a b) (a ≡ b)
op-Decides a b = Prim.search rules

-- vectors are compared by their elements
rows-compared : (xs ys : List (Vec Op Global)) → pointwise (λ (x : Vec Op Global) (y : Vec Op Global). pointwise ghosts.eq x.items y.items) xs ys ≡ pointwise (pointwise ghosts.eq) (rows xs) (rows ys)
rows-compared [] [] = refl
rows-compared [] (y ∷ ys) = refl
rows-compared (x ∷ xs) [] = refl
rows-compared (x ∷ xs) (y ∷ ys) = ap (λ b. pointwise ghosts.eq x.items y.items && b) (rows-compared xs ys)

pub rows-Decides : (xs ys : List (Vec Op Global)) (r : Bool) → r ≡ pointwise (λ (x : Vec Op Global) (y : Vec Op Global). pointwise ghosts.eq x.items y.items) xs ys → Decides r (rows xs ≡ rows ys)
rows-Decides xs ys r is = slice_eq-Decides (λ a b. slice_eq-Decides op-Decides a b (pointwise ghosts.eq a b) refl) (rows xs) (rows ys) r (is ∙ rows-compared xs ys)

pub version-same : (a b : Version) → sameb version_type a b ≡ true → a ≡ b
version-same a b same = Prim.search rules

pub order-same : (a b : Order) → sameb order_type a b ≡ true → a ≡ b
order-same a b same = Prim.search rules

entry-Decides : (a b : ℕ × ℕ) → Decides ((a.0 == b.0) && (a.1 == b.1)) (a ≡ b)
entry-Decides a b = Prim.search rules

pub entries-Decides : (xs ys : List (ℕ × ℕ)) (r : Bool) → r ≡ pointwise (λ (a : ℕ × ℕ) (b : ℕ × ℕ). (a.0 == b.0) && (a.1 == b.1)) xs ys → Decides r (xs ≡ ys)
entries-Decides xs ys r is = slice_eq-Decides entry-Decides xs ys r is

pub setting-Decides : (one other : Setting) (r : Bool) → one.version ≡ other.version → one.order ≡ other.order → Decides r (one.first.items ≡ other.first.items) → Decides r (setting_of one ≡ setting_of other)
setting-Decides one other r version order first = (
  λ yes. rw (version, order, first.0 yes) refl,
  λ same. first.1 (ap (λ (s : SettingValue). s.first) same),
)
