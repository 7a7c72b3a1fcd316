-- What is read at a piece of a place is the piece of what is read at the place.
use Rattle.std.proofs.Common.{◌≡◌, ◌∙◌, sym, ap, refl, subst, ℕ, zero, suc, ◌+◌, ◌-◌, ◌*◌, ◌/◌, ◌%◌, ◌^◌, ◌<◌, ◌≤◌, cond, Option, None, Some, ◌∷◌, get_or, arith}
use Rattle.std.proofs.lemmas.Bool.{ne_eqb}
use Rattle.std.proofs.Math.Nat.{add-mul-mod_self_left, div-div-eq-div-mul, div-one, mod-add-div, mod-eq_of_lt, mod-lt, mod-one}
use Rattle.run_steps.specs.declared.refusals.CellContent.{CellContent}
use Rattle.run_steps.specs.Places.{parts_from}
use Rattle.run_steps.specs.Widths.{low_part}
use Rattle.run_steps.specs.Reads.{joined_cells, read_from}
use Rattle.log_text.specs.Splits.{piece_value}
use Rattle.run_orders.proofs.Waiting.{value_seen}

-- ---- numbers

positive_power : (k : ℕ) → 0 < 256 ^ k
positive_power zero = omega arith
positive_power (suc k) = let rest = positive_power k in omega (arith, rest)

power_next : (k : ℕ) → 256 ^ suc k ≡ 256 * 256 ^ k
power_next k = omega arith

-- the lowest bytes of a number, and those of what is above its lowest byte
low_bytes : (u k : ℕ) → u % 256 ^ suc k ≡ u % 256 + 256 * ((u / 256) % 256 ^ k)
low_bytes u k =
    let m = 256 ^ k in
    let low : u % 256 < 256 = mod-lt u (omega arith) in
    let rest : (u / 256) % m < m = mod-lt (u / 256) (positive_power k) in
    let outer : u % 256 + 256 * (u / 256) ≡ u = mod-add-div u 256 in
    let inner : (u / 256) % m + m * ((u / 256) / m) ≡ u / 256 = mod-add-div (u / 256) m in
    let whole : u ≡ (u % 256 + 256 * ((u / 256) % m)) + (256 * m) * ((u / 256) / m) = omega (arith, outer, inner) in
    ap (λ n. u % n) (power_next k) ∙ ap (λ n. n % (256 * m)) whole
    ∙ add-mul-mod_self_left (u % 256 + 256 * ((u / 256) % m)) (256 * m) ((u / 256) / m)
    ∙ mod-eq_of_lt (omega (arith, low, rest))

-- what is above the lowest bytes
above_next : (u k : ℕ) → (u / 256) / 256 ^ k ≡ u / 256 ^ suc k
above_next u k = div-div-eq-div-mul u 256 (256 ^ k) ∙ ap (λ n. u / n) (sym (power_next k))

-- ---- bytes that are read

pub low_byte : (width v : ℕ) → 0 < width → low_part width v ≡ v % 256
low_byte width v wide = ap (λ b. cond b v (v % 256)) (ne_eqb width 0 (λ none. omega (arith, none, wide)))

-- of how wide a place they are doesn't matter
pub read_width : (width : ℕ) → 0 < width → (look : ℕ → Option CellContent) (a count : ℕ) → read_from width look a count ≡ read_from 1 look a count
read_width width wide look a zero = refl
read_width width wide look a (suc count) =
    ap (joined_cells width (look a)) (read_width width wide look (a + 1) count) ∙ same_joined (look a) (read_from 1 look (a + 1) count)
  where
    same_joined : (seen : Option CellContent) (above : Option ℕ) → joined_cells width seen above ≡ joined_cells 1 seen above
    same_joined None above = refl
    same_joined (Some x) None = refl
    same_joined (Some x) (Some m) = ap (λ n. Some (n + 256 * m)) (low_byte width x.value wide)

pub parts_width : (width : ℕ) → 0 < width → (count v : ℕ) → parts_from width count v ≡ parts_from 1 count v
parts_width width wide zero v = refl
parts_width width wide (suc count) v = ap (λ x. x ∷ parts_from width count (v / 256)) (low_byte width v wide) ∙ ap (λ xs. v % 256 ∷ xs) (parts_width width wide count (v / 256))

-- the value of the first cell, and that of the cells above it
record Joined (seen : Option CellContent) (above : Option ℕ) (v : ℕ) : Type 0 where
  byte : ℕ
  seen_is : value_seen seen ≡ Some byte
  low : byte % 256 ≡ v % 256
  above_is : above ≡ Some (v / 256)

joined_parts : (seen : Option CellContent) (above : Option ℕ) (v : ℕ) → joined_cells 1 seen above ≡ Some v → Joined seen above v
joined_parts None above v whole = absurd cc
joined_parts (Some x) None v whole = absurd cc
joined_parts (Some x) (Some m) v whole =
    let sum : x.value % 256 + 256 * m ≡ v = cc in
    record { byte = x.value; seen_is = refl; low = omega (arith, sum); above_is = ap Some (omega (arith, sum)) }

pub joined_is : (seen : Option CellContent) (above : Option ℕ) (c m : ℕ) → value_seen seen ≡ Some c → above ≡ Some m → joined_cells 1 seen above ≡ Some (c % 256 + 256 * m)
joined_is None above c m is rest = absurd cc
joined_is (Some x) None c m is rest = absurd cc
joined_is (Some x) (Some n) c m is rest =
    let same : x.value ≡ c = cc in
    let above : n ≡ m = cc in
    ap Some (ap (λ y. y % 256 + 256 * n) same ∙ ap (λ y. c % 256 + 256 * y) above)

-- what is read of the lower cells, and of the higher ones
pub record ReadParts (look : ℕ → Option CellContent) (a low_count high_count v : ℕ) : Type 0 where
  pub low : read_from 1 look a low_count ≡ Some (v % 256 ^ low_count)
  pub high : read_from 1 look (a + low_count) high_count ≡ Some (v / 256 ^ low_count)

pub read_parts : (look : ℕ → Option CellContent) (a low_count high_count v : ℕ) → read_from 1 look a (low_count + high_count) ≡ Some v → ReadParts look a low_count high_count v
read_parts look a zero high_count v whole =
    let here : a + 0 ≡ a = omega arith in
    let count : high_count ≡ 0 + high_count = omega arith in
    record {
      low = ap Some (sym (mod-one v));
      high = ap (λ b. read_from 1 look b high_count) here ∙ ap (read_from 1 look a) count ∙ whole ∙ ap Some (sym (div-one v));
    }
read_parts look a (suc k) high_count v whole =
    let more : suc (k + high_count) ≡ suc k + high_count = omega arith in
    let parts = joined_parts (look a) (read_from 1 look (a + 1) (k + high_count)) v (ap (read_from 1 look a) more ∙ whole) in
    let rest = read_parts look (a + 1) k high_count (v / 256) parts.above_is in
    let next : a + suc k ≡ (a + 1) + k = omega arith in
    record {
      low = joined_is (look a) (read_from 1 look (a + 1) k) parts.byte ((v / 256) % 256 ^ k) parts.seen_is rest.low
          ∙ ap (λ n. Some (n + 256 * ((v / 256) % 256 ^ k))) parts.low ∙ ap Some (sym (low_bytes v k));
      high = ap (λ b. read_from 1 look b high_count) next ∙ rest.high ∙ ap Some (above_next v k);
    }

-- the cells of a piece
pub piece_bytes : (a v start count : ℕ) → 0 < count → piece_value a v (start, count) ≡ (v / 256 ^ (start - a)) % 256 ^ count
piece_bytes a v start count some =
    ap (λ b. cond b v ((v / 256 ^ (start - a)) % 256 ^ count)) (ne_eqb count 0 (λ none. omega (arith, none, some)))

pub read_piece : (look : ℕ → Option CellContent) (a width v start count : ℕ) → read_from 1 look a width ≡ Some v → 0 < count → a ≤ start → start + count ≤ a + width →
    read_from 1 look start count ≡ Some (piece_value a v (start, count))
read_piece look a width v start count whole some from most =
    let before = start - a in
    let after = width - (before + count) in
    let split : width ≡ before + (count + after) = omega (arith, from, most) in
    let first : read_from 1 look (a + before) (count + after) ≡ Some (v / 256 ^ before) =
    (read_parts look a before (count + after) v (ap (read_from 1 look a) (sym split) ∙ whole)).high in
    let here : a + before ≡ start = omega (arith, from) in
    let second : read_from 1 look start count ≡ Some ((v / 256 ^ before) % 256 ^ count) =
    (read_parts look start count after (v / 256 ^ before) (ap (λ b. read_from 1 look b (count + after)) (sym here) ∙ first)).low in
    second ∙ ap Some (sym (piece_bytes a v start count some))

-- where the same is seen, the same is read
pub read_same : (look other : ℕ → Option CellContent) (a count : ℕ) → ((b : ℕ) → a ≤ b → b < a + count → look b ≡ other b) → read_from 1 look a count ≡ read_from 1 other a count
read_same look other a zero same = refl
read_same look other a (suc count) same =
    ap (λ seen. joined_cells 1 seen (read_from 1 look (a + 1) count)) (same a (omega arith) (omega arith))
    ∙ ap (joined_cells 1 (other a)) (read_same look other (a + 1) count (λ b from below. same b (omega (arith, from)) (omega (arith, below))))

-- ---- bytes of a value

part_at : (width : ℕ) → 0 < width → (count v i : ℕ) → i < count → get_or (parts_from width count v) i 0 ≡ (v / 256 ^ i) % 256
part_at width wide zero v i below = absurd (omega (arith, below))
part_at width wide (suc count) v zero below = low_byte width v wide ∙ ap (λ n. n % 256) (sym (div-one v))
part_at width wide (suc count) v (suc i) below = part_at width wide count (v / 256) i (omega (arith, below)) ∙ ap (λ n. n % 256) (above_next v i)

-- where a place's cells have the bytes of a value, a piece of it has its own
pub read_stored : (look : ℕ → Option CellContent) (width : ℕ) → 0 < width → (a v start count : ℕ) → a ≤ start → start + count ≤ a + width →
    ((b : ℕ) → a ≤ b → b < a + width → value_seen (look b) ≡ Some (get_or (parts_from width width v) (b - a) 0)) →
    read_from 1 look start count ≡ Some ((v / 256 ^ (start - a)) % 256 ^ count)
read_stored look width wide a v start zero from most each = ap Some (sym (mod-one (v / 256 ^ (start - a))))
read_stored look width wide a v start (suc k) from most each =
    let i = start - a in
    let u = v / 256 ^ i in
    let next : (start + 1) - a ≡ suc i = omega (arith, from) in
    let byte : get_or (parts_from width width v) i 0 ≡ u % 256 = part_at width wide width v i (omega (arith, from, most)) in
    let rest : read_from 1 look (start + 1) k ≡ Some ((u / 256) % 256 ^ k) =
    read_stored look width wide a v (start + 1) k (omega (arith, from)) (omega (arith, most)) each
    ∙ ap (λ j. Some ((v / 256 ^ j) % 256 ^ k)) next ∙ ap (λ n. Some (n % 256 ^ k)) (sym (power_above v i)) in
    joined_is (look start) (read_from 1 look (start + 1) k) (u % 256) ((u / 256) % 256 ^ k) (each start from (omega (arith, most)) ∙ ap Some byte) rest
    ∙ ap (λ n. Some (n + 256 * ((u / 256) % 256 ^ k))) (mod_again u) ∙ ap Some (sym (low_bytes u k))
  where
    mod_again : (n : ℕ) → (n % 256) % 256 ≡ n % 256
    mod_again n = omega arith

    power_above : (n i : ℕ) → (n / 256 ^ i) / 256 ≡ n / 256 ^ suc i
    power_above n i =
        let after : 256 ^ i * 256 ≡ 256 ^ suc i = omega arith in
        div-div-eq-div-mul n (256 ^ i) 256 ∙ ap (λ m. n / m) after

-- ---- bytes that are known

-- so many from an address on have a value
pub record IsKnownFrom (look : ℕ → Option CellContent) (a count : ℕ) : Type 0 where
  pub value : ℕ
  pub is : read_from 1 look a count ≡ Some value

-- lower bytes, and then higher ones
pub known-append : (look : ℕ → Option CellContent) (a m n v : ℕ) → read_from 1 look a m ≡ Some v → IsKnownFrom look (a + m) n → IsKnownFrom look a (m + n)
known-append look a zero n v low high =
    let here : a ≡ a + 0 = omega arith in
    let count : 0 + n ≡ n = omega arith in
    record { value = high.value; is = ap (read_from 1 look a) count ∙ ap (λ b. read_from 1 look b n) here ∙ high.is }
known-append look a (suc m) n v low high =
    let parts = joined_parts (look a) (read_from 1 look (a + 1) m) v low in
    let next : a + suc m ≡ (a + 1) + m = omega arith in
    let rest = known-append look (a + 1) m n (v / 256) parts.above_is (subst (λ b. IsKnownFrom look b n) next high) in
    let more : suc m + n ≡ suc (m + n) = omega arith in
    record { value = parts.byte % 256 + 256 * rest.value; is = ap (read_from 1 look a) more ∙ joined_is (look a) (read_from 1 look (a + 1) (m + n)) parts.byte rest.value parts.seen_is rest.is }
