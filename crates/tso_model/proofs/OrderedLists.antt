-- Lists by their indices: what is in a prefix, and lists in order with the same members.
use Rattle.std.proofs.Common.{◌≡◌, ℕ, zero, suc, ◌<◌, List, [], ◌∷◌, Some, take, slice_get, refl, sym, ◌∙◌, arith}
use Rattle.std.proofs.lemmas.Option.{none-some, same_Some}

-- what a first part has at a place
pub slice_get-take : {A : Type 0} → (k : ℕ) (xs : List A) (j : ℕ) (x : A) → slice_get (take k xs) j ≡ Some x → (j < k) × (slice_get xs j ≡ Some x)
slice_get-take zero xs j x at = absurd (none-some x at)
slice_get-take (suc k) [] j x at = absurd (none-some x at)
slice_get-take (suc k) (y ∷ ys) zero x at = (omega arith, at)
slice_get-take (suc k) (y ∷ ys) (suc j) x at =
    let rest = slice_get-take k ys j x at in
    (omega (arith, rest.0), rest.1)

-- a first part has what stands before its end
pub slice_get-take_below : {A : Type 0} → (k : ℕ) (xs : List A) (j : ℕ) (x : A) → j < k → slice_get xs j ≡ Some x → slice_get (take k xs) j ≡ Some x
slice_get-take_below zero xs j x below at = absurd (omega arith)
slice_get-take_below (suc k) [] j x below at = at
slice_get-take_below (suc k) (y ∷ ys) zero x below at = at
slice_get-take_below (suc k) (y ∷ ys) (suc j) x below at = slice_get-take_below k ys j x (omega arith) at

-- each element of the first list is one of the second
pub record AreAmong {A : Type 0} (xs ys : List A) : Type 0 where
  pub found : (k : ℕ) (x : A) → slice_get xs k ≡ Some x → (j : ℕ) × (slice_get ys j ≡ Some x)

-- an earlier element precedes a later one, and no two precede each other
pub record AreInOrder {A : Type 0} (Precedes : A → A → Type 0) (xs : List A) : Type 0 where
  pub rising : (j k : ℕ) (x y : A) → j < k → slice_get xs j ≡ Some x → slice_get xs k ≡ Some y → Precedes x y

-- what follows the first element of a list in order is in order
AreInOrder-tail : {A : Type 0} {Precedes : A → A → Type 0} (x : A) (xs : List A) → AreInOrder Precedes (x ∷ xs) → AreInOrder Precedes xs
AreInOrder-tail x xs order = record { rising = λ j k y z below first second. order.rising (suc j) (suc k) y z (omega arith) first second }

-- of two lists in one order with the same members the first elements are one
same_head : {A : Type 0} (Precedes : A → A → Type 0) → ((x y : A) → Precedes x y → Precedes y x → ⊥) →
    (x : A) (xs : List A) (y : A) (ys : List A) → AreInOrder Precedes (x ∷ xs) → AreInOrder Precedes (y ∷ ys) →
    AreAmong (x ∷ xs) (y ∷ ys) → AreAmong (y ∷ ys) (x ∷ xs) → x ≡ y
same_head {A} Precedes apart x xs y ys order_x order_y there back = by_places (there.found 0 x refl) (back.found 0 y refl)
  where
    by_places : ((j : ℕ) × (slice_get (y ∷ ys) j ≡ Some x)) → ((k : ℕ) × (slice_get (x ∷ xs) k ≡ Some y)) → x ≡ y
    by_places (zero, here) (k, at) = same_Some x y (sym here)
    by_places (suc j, later) (zero, here) = same_Some x y here
    by_places (suc j, later) (suc k, at) =
        absurd (apart x y (order_x.rising 0 (suc k) x y (omega arith) refl at) (order_y.rising 0 (suc j) y x (omega arith) refl later))

-- if the first elements are one, the rest of the first list is among the rest of the second
tail_among : {A : Type 0} (Precedes : A → A → Type 0) → ((x y : A) → Precedes x y → Precedes y x → ⊥) →
    (x : A) (xs : List A) (y : A) (ys : List A) → x ≡ y → AreInOrder Precedes (x ∷ xs) →
    AreAmong (x ∷ xs) (y ∷ ys) → AreAmong xs ys
tail_among {A} Precedes apart x xs y ys same order_x there =
    record { found = λ k z at. by_place k z at (there.found (suc k) z at) }
  where
    by_place : (k : ℕ) (z : A) → slice_get xs k ≡ Some z → ((j : ℕ) × (slice_get (y ∷ ys) j ≡ Some z)) → (j : ℕ) × (slice_get ys j ≡ Some z)
    by_place k z at (zero, here) =
        let again : x ≡ z = same ∙ same_Some y z here in
        let self : Precedes x x = rw (← again) at (order_x.rising 0 (suc k) x z (omega arith) refl at) in
        absurd (apart x x self self)
    by_place k z at (suc j, later) = (j, later)

-- Two lists in one order with the same members are equal.
pub in_order_unique : {A : Type 0} (Precedes : A → A → Type 0) → ((x y : A) → Precedes x y → Precedes y x → ⊥) →
    (xs ys : List A) → AreInOrder Precedes xs → AreInOrder Precedes ys → AreAmong xs ys → AreAmong ys xs → xs ≡ ys
in_order_unique Precedes apart [] [] order_x order_y there back = refl
in_order_unique Precedes apart [] (y ∷ ys) order_x order_y there back = absurd (none-some y (back.found 0 y refl).1)
in_order_unique Precedes apart (x ∷ xs) [] order_x order_y there back = absurd (none-some x (there.found 0 x refl).1)
in_order_unique Precedes apart (x ∷ xs) (y ∷ ys) order_x order_y there back =
    let head = same_head Precedes apart x xs y ys order_x order_y there back in
    let tail = in_order_unique Precedes apart xs ys (AreInOrder-tail x xs order_x) (AreInOrder-tail y ys order_y)
    (tail_among Precedes apart x xs y ys head order_x there) (tail_among Precedes apart y ys x xs (sym head) order_y back) in
    cc
