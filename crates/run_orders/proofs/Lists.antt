-- Lemmas on lists.
use Rattle.std.proofs.Common.{◌≡◌, ap, refl, Some, List, [], ◌∷◌, ◌++◌, length, slice_get}
use Rattle.std.specs.List.{AllByRecursion, remove}

pub all-append : {X : Type 0} (P : X → Type 0) (xs ys : List X) → AllByRecursion P xs → AllByRecursion P ys → AllByRecursion P (xs ++ ys)
all-append P [] ys first second = second
all-append P (x ∷ xs) ys first second = (first.0, all-append P xs ys first.1 second)

-- those of two parts, without the element between them
pub all-parts : {X : Type 0} (P : X → Type 0) (xs : List X) (y : X) (ys : List X) → AllByRecursion P (xs ++ y ∷ ys) → AllByRecursion P xs × P y × AllByRecursion P ys
all-parts P [] y ys all = (tt, all.0, all.1)
all-parts P (x ∷ xs) y ys all = let rest = all-parts P xs y ys all.1 in ((all.0, rest.0), rest.1, rest.2)

pub remove_between : {X : Type 0} (xs : List X) (y : X) (ys : List X) → remove (xs ++ y ∷ ys) (length xs) ≡ xs ++ ys
remove_between [] y ys = refl
remove_between (x ∷ xs) y ys = ap (λ zs. x ∷ zs) (remove_between xs y ys)

pub get_between : {X : Type 0} (xs : List X) (y : X) (ys : List X) → slice_get (xs ++ y ∷ ys) (length xs) ≡ Some y
get_between [] y ys = refl
get_between (x ∷ xs) y ys = get_between xs y ys

pub all_map : {X : Type 0} (P Q : X → Type 0) → ((x : X) → P x → Q x) → (xs : List X) → AllByRecursion P xs → AllByRecursion Q xs
all_map P Q change [] all = tt
all_map P Q change (x ∷ xs) all = (change x all.0, all_map P Q change xs all.1)

-- both facts hold of each
pub all_both : {X : Type 0} (P Q R : X → Type 0) → ((x : X) → P x → Q x → R x) → (xs : List X) → AllByRecursion P xs → AllByRecursion Q xs → AllByRecursion R xs
all_both P Q R change [] first second = tt
all_both P Q R change (x ∷ xs) first second = (change x first.0 second.0, all_both P Q R change xs first.1 second.1)
