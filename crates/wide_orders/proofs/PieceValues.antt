-- Values that are the same in each cell of a piece are the same in the piece.
use Rattle.std.proofs.Common.{◌≡◌, ◌∙◌, ℕ, zero, suc, ◌+◌, ◌-◌, ◌*◌, ◌/◌, ◌%◌, ◌^◌, ◌<◌, ◌≤◌, cond, Bool, true, false, List, refl, sym, ap, arith}
use Rattle.std.proofs.lemmas.Bool.{ne_eqb}
use Rattle.std.proofs.lemmas.Nat.{pow-add, shr-shr, mod-pow-add}
use Rattle.run_steps.specs.Widths.{low_part}
use Rattle.log_text.specs.Splits.{piece_value}
use Rattle.wide_orders.specs.WideOrders.{has_cell, cell_value}
use Rattle.wide_orders.proofs.Pieces.{IsPiece, IsWithin, cells-some, in_cell}

-- a power of 256 is one of 2
pow_of_two : (k : ℕ) → 256 ^ k ≡ 2 ^ (8 * k)
pow_of_two zero = refl
pow_of_two (suc k) =
    let next : suc k ≡ 1 + k = omega arith in
    let more : 8 * suc k ≡ 8 + 8 * k = omega arith in
    ap (λ n. 256 ^ n) next ∙ pow-add 256 1 k ∙ ap (λ n. 256 * n) (pow_of_two k) ∙ sym (ap (λ n. 2 ^ n) more ∙ pow-add 2 8 (8 * k))

-- what is above so many bytes and more of them
above_more : (v j k : ℕ) → v / 256 ^ j / 256 ^ k ≡ v / 256 ^ (j + k)
above_more v j k =
    let sum : 8 * j + 8 * k ≡ 8 * (j + k) = omega arith in
    ap (λ n. v / n / 256 ^ k) (pow_of_two j) ∙ ap (λ n. v / 2 ^ (8 * j) / n) (pow_of_two k) ∙ shr-shr v (8 * j) (8 * k) ∙ ap (λ n. v / 2 ^ n) sum ∙ ap (λ n. v / n) (sym (pow_of_two (j + k)))

-- the lowest bytes and one more
low_more : (x k : ℕ) → x % 256 ^ suc k ≡ (x / 256 ^ k % 256) * 256 ^ k + x % 256 ^ k
low_more x k =
    let more : 8 * suc k ≡ 8 + 8 * k = omega arith in
    ap (λ n. x % n) (pow_of_two (suc k) ∙ ap (λ n. 2 ^ n) more) ∙ mod-pow-add x 8 (8 * k) ∙ ap (λ n. (x / n % 256) * n + x % n) (sym (pow_of_two k))

-- numbers with the same lowest bytes have the same low part
same_low : (k x y : ℕ) → ((i : ℕ) → i < k → x / 256 ^ i % 256 ≡ y / 256 ^ i % 256) → x % 256 ^ k ≡ y % 256 ^ k
same_low zero x y same = omega arith
same_low (suc k) x y same =
    let top = same k (omega arith) in
    let rest = same_low k x y (λ i below. same i (omega (arith, below))) in
    low_more x k ∙ ap (λ n. n * 256 ^ k + x % 256 ^ k) top ∙ ap (λ n. (y / 256 ^ k % 256) * 256 ^ k + n) rest ∙ sym (low_more y k)

-- a place of bytes has a width, and a location none
abbrev pub IsKind : Bool → ℕ → Type 0
IsKind true width = 0 < width
IsKind false width = width ≡ 0

-- the low part of bytes
low-byte : (width v : ℕ) → 0 < width → low_part width v ≡ v % 256
low-byte width v wide = ap (λ b. cond b v (v % 256)) (ne_eqb width 0 (λ none. omega (arith, none, wide)))

-- byte i of what a piece has of a value
byte_of_piece : (a width v b i : ℕ) → 0 < width → a ≤ b → v / 256 ^ (b - a) / 256 ^ i % 256 ≡ cell_value a width v (b + i)
byte_of_piece a width v b i wide low =
    let place : (b - a) + i ≡ (b + i) - a = omega (arith, low) in
    ap (λ n. n % 256) (above_more v (b - a) i ∙ ap (λ n. v / 256 ^ n) place) ∙ sym (low-byte width (v / 256 ^ ((b + i) - a)) wide)

-- what bytes hold of a value
bytes_of_piece : (a v b k : ℕ) → piece_value a v (b, suc k) ≡ (v / 256 ^ (b - a)) % 256 ^ suc k
bytes_of_piece a v b k = ap (λ t. cond t v ((v / 256 ^ (b - a)) % 256 ^ suc k)) (ne_eqb (suc k) 0 (λ none. omega (arith, none)))

-- the value of a location
pub value_of_location : (a v b : ℕ) → a ≡ b → cell_value a 0 v b ≡ v
value_of_location a v b same = let none : b - a ≡ 0 = omega (arith, same) in ap (λ n. v / 256 ^ n) none ∙ one
  where
    one : v / 1 ≡ v
    one = omega arith

-- values of two places that are the same in each cell of the piece
pub same_in_piece : (bytes : Bool) (bs : List ℕ) (piece : ℕ × ℕ) → IsPiece bytes bs piece → (a width v a' width' v' : ℕ) → IsKind bytes width → IsKind bytes width' →
    IsWithin piece a width → IsWithin piece a' width' →
    ((c : ℕ) → has_cell piece.0 piece.1 c ≡ true → cell_value a width v c ≡ cell_value a' width' v' c) → piece_value a v piece ≡ piece_value a' v' piece
same_in_piece true bs (b, zero) is a width v a' width' v' kind other within inside same = absurd (let some = is.some in omega (arith, some))
same_in_piece true bs (b, suc k) is a width v a' width' v' kind other within inside same =
    let low = within.0 in
    let start = inside.0 in
    bytes_of_piece a v b k ∙ same_low (suc k) (v / 256 ^ (b - a)) (v' / 256 ^ (b - a'))
    (λ i below.
    let cells = cells-some (suc k) (omega arith) in
    byte_of_piece a width v b i kind low ∙ same (b + i) (in_cell b (suc k) (b + i) (omega arith) (omega (arith, below, cells))) ∙ sym (byte_of_piece a' width' v' b i other start))
    ∙ sym (bytes_of_piece a' v' b k)
same_in_piece false bs (b, suc k) is a width v a' width' v' kind other within inside same = absurd (omega (arith, is))
same_in_piece false bs (b, zero) is a (suc w) v a' width' v' kind other within inside same = absurd (omega (arith, kind))
same_in_piece false bs (b, zero) is a zero v a' (suc w) v' kind other within inside same = absurd (omega (arith, other))
same_in_piece false bs (b, zero) is a zero v a' zero v' kind other (low, high) (low', high') same =
    let here : a ≡ b = omega (arith, low, high) in
    let there : a' ≡ b = omega (arith, low', high') in
    sym (value_of_location a v b here) ∙ same b (in_cell b 0 b (omega arith) (omega arith)) ∙ value_of_location a' v' b there
