-- Lemmas on what is read at places, cell by cell.
use Rattle.std.proofs.Common.{refl, ◌/◌, get_or, subst, Bool, List, nat_le, nat_lt, ◌&&◌, None, [], ◌∷◌, drop, take, ◌≡◌, ◌≢◌, ◌<◌, ◌≤◌, ◌+◌, ◌-◌, ◌*◌, ◌%◌, ◌^◌, ◌==◌, ◌∙◌, sym, ap, ℕ, zero, suc, true, false, cond, List, Option, Some, option_map, unwrap_or, arith, ⊎_elim}
use Rattle.std.proofs.lemmas.Bool.Decides.{eqb_tells}
use Rattle.std.proofs.lemmas.Option.{none-some}
use Rattle.std.proofs.lemmas.Bool.Decides.{nat_tests}
use Rattle.std.proofs.Math.Nat.{pow-le-pow_right, pow-suc}
use Rattle.run_steps.specs.declared.refusals.Origin.{Origin}
use Rattle.run_steps.specs.declared.refusals.CellContent.{CellContent}
use Rattle.run_steps.specs.declared.places.Place.{Place}
use Rattle.run_steps.specs.declared.processors.WaitingStore.{WaitingStore}
use Rattle.run_steps.specs.Places.{cell_count, cell_parts, parts_from, covers, is_place, overlaps}
use Rattle.run_steps.specs.Widths.{above_bytes, cells_of, low_part}
use Rattle.run_steps.specs.Reads.{Memory, joined_cells, newest_over, newest_sharing, origins_from, read_from, read_in, seen_before, seen_in, seen_of, sees, with_origin}
use Rattle.run_steps.proofs.WaitingFacts.{newest_by, newest-older, over-by}

-- the lowest of the cells, and those above it
read-next : (width : ℕ) (look : ℕ → Option CellContent) (address count : ℕ) → 0 < count →
    read_from width look address count ≡ joined_cells width (look address) (read_from width look (address + 1) (count - 1))
read-next width look address zero some = absurd (omega (arith, some))
read-next width look address (suc count) some =
    let less : count ≡ suc count - 1 = omega arith in
    ap (λ n. joined_cells width (look address) (read_from width look (address + 1) n)) less

low_byte : (width value : ℕ) → width ≢ 0 → low_part width value ≡ value % 256
low_byte width value some =
    ⊎_elim (λ (told : ((width == 0) ≡ true) × (width ≡ 0)). absurd (some told.1)) (λ (told : ((width == 0) ≡ false) × (width ≢ 0)). ap (λ b. cond b value (value % 256)) told.0) (eqb_tells width 0)

-- the value of what is seen, if something is
joined_value : (width : ℕ) (o : Option CellContent) (byte above : ℕ) → option_map (λ s. s.value) o ≡ Some byte → joined_cells width o (Some above) ≡ Some (low_part width byte + 256 * above)
joined_value width None byte above e = absurd (none-some byte e)
joined_value width (Some seen) byte above e = ap (λ o. Some (low_part width (unwrap_or o 0) + 256 * above)) e

-- a byte, and those above it
read_before : (width : ℕ) (look : ℕ → Option CellContent) (address i : ℕ) → 0 < i → i ≤ width →
    joined_cells width (look (address + (i - 1))) (read_from width look (address + i) (width - i)) ≡ read_from width look (address + (i - 1)) (width - (i - 1))
read_before width look address i some within =
    let next : address + (i - 1) + 1 ≡ address + i = omega (arith, some) in
    let less : width - (i - 1) - 1 ≡ width - i = omega (arith, some) in
    sym (read-next width look (address + (i - 1)) (width - (i - 1)) (omega (arith, some, within))
    ∙ ap (λ n. joined_cells width (look (address + (i - 1))) (read_from width look n (width - (i - 1) - 1))) next ∙ ap (λ n. joined_cells width (look (address + (i - 1))) (read_from width look (address + i) n)) less)

-- one byte more is read, below those that are
pub byte_read : (width : ℕ) (look : ℕ → Option CellContent) (address i above byte : ℕ) → width ≢ 0 → 0 < i → i ≤ width → option_map (λ s. s.value) (look (address + (i - 1))) ≡ Some byte →
    Some above ≡ read_from width look (address + i) (width - i) → Some (byte % 256 + 256 * above) ≡ read_from width look (address + (i - 1)) (width - (i - 1))
byte_read width look address i above byte bytes some within at others =
    ap (λ part. Some (part + 256 * above)) (sym (low_byte width byte bytes)) ∙ sym (joined_value width (look (address + (i - 1))) byte above at)
    ∙ ap (joined_cells width (look (address + (i - 1)))) others ∙ read_before width look address i some within

above_unknown : (width : ℕ) (o : Option CellContent) → None ≡ joined_cells width o None
above_unknown width None = refl
above_unknown width (Some seen) = refl

-- where the bytes above aren't known, nothing is read
pub none_read : (width : ℕ) (look : ℕ → Option CellContent) (address i : ℕ) → 0 < i → i ≤ width → None ≡ read_from width look (address + i) (width - i) →
    None ≡ read_from width look (address + (i - 1)) (width - (i - 1))
none_read width look address i some within others =
    above_unknown width (look (address + (i - 1))) ∙ ap (joined_cells width (look (address + (i - 1)))) others ∙ read_before width look address i some within

-- the origin of the lowest of the cells, and those of the others
pub origins-next : (look : ℕ → Option CellContent) (address count : ℕ) (found : List Origin) → 0 < count →
    origins_from look address count found ≡ origins_from look (address + 1) (count - 1) (with_origin found (look address))
origins-next look address zero found some = absurd (omega (arith, some))
origins-next look address (suc count) found some =
    let less : count ≡ suc count - 1 = omega arith in
    ap (λ n. origins_from look (address + 1) n (with_origin found (look address))) less

-- so many bytes and one more are below this
pub byte_below : (n k byte above : ℕ) → n ≡ suc k → byte < 256 → above < 256 ^ k → byte + 256 * above < 256 ^ n
byte_below n k byte above is small least =
    let power : 256 ^ n ≡ 256 ^ k * 256 = ap (λ m. 256 ^ m) is ∙ pow-suc 256 k in
    omega (arith, small, least, power)

-- 8 bytes are below 2^64
pub bytes_fit : (n value : ℕ) → n ≤ 8 → value < 256 ^ n → value < 2 ^ 64
bytes_fit n value most least =
    let power : 256 ^ n ≤ 256 ^ 8 = pow-le-pow_right (omega arith) most in
    omega (arith, least, power)

-- a place of bytes has as many cells
pub bytes_count : (place : Place) → place.width ≢ 0 → cell_count place ≡ place.width
bytes_count place some =
    ⊎_elim (λ (told : ((place.width == 0) ≡ true) × (place.width ≡ 0)). absurd (some told.1)) (λ (told : ((place.width == 0) ≡ false) × (place.width ≢ 0)). ap (λ b. cond b 1 place.width) told.0) (eqb_tells place.width 0)

-- all cells of a place are its own
own_cell : (a m i : ℕ) → i < m → (nat_le a (a + i) && nat_lt (a + i - a) m) ≡ true
own_cell a m i within = grind (arith, nat_tests)

-- two places that are one have the same cells
is_place_same : (a b : Place) → is_place a b ≡ true → (a.address ≡ b.address) × (a.width ≡ b.width)
is_place_same a b e = grind (arith, nat_tests)

covers_own : (a b : Place) (i : ℕ) → i < cell_count b → a.address ≡ b.address → a.width ≡ b.width → covers a (b.address + i) ≡ true
covers_own a b i within one two =
    ap (λ n. nat_le n (b.address + i) && nat_lt (b.address + i - n) (cell_count a)) one ∙ ap (λ n. nat_le b.address (b.address + i) && nat_lt (b.address + i - b.address) (cells_of n)) two
    ∙ own_cell b.address (cell_count b) i within

-- where the place of the first shares no cell with the second's, none of the second's cells is one of the first's
pub apart : (a m b n i : ℕ) → cond (nat_le a b) (nat_lt (b - a) m) (nat_lt (a - b) n) ≡ false → i < n → (nat_le a (b + i) && nat_lt (b + i - a) m) ≡ false
apart a m b n i e within = grind (arith, nat_tests)

-- of the newest store that shares a cell with the place, and the newest that has this cell: there is none, or the one is the other if it is of this very place
record Agrees (place : Place) (sharing over : Option WaitingStore) : Type 0 where
  none : sharing ≡ None → over ≡ None
  same : (w : WaitingStore) → sharing ≡ Some w → is_place w.place place ≡ true → over ≡ Some w

agrees_next : (place : Place) (i : ℕ) (w : WaitingStore) (sharing over : Option WaitingStore) (b : Bool) → i < cell_count place → overlaps w.place place ≡ b → Agrees place sharing over →
    Agrees place (cond b (Some w) sharing) (cond (covers w.place (place.address + i)) (Some w) over)
agrees_next place i w sharing over true within is agrees = record {
  none = λ e. absurd (none-some w (sym e));
  same = λ v e of_place.
      let one : w ≡ v = ap (λ o. unwrap_or o w) e in
      let here = is_place_same w.place place (subst (λ x. is_place x.place place ≡ true) (sym one) of_place) in
      ap (λ b. cond b (Some w) over) (covers_own w.place place i within here.0 here.1) ∙ e;
}
agrees_next place i w sharing over false within is agrees =
    let other = apart w.place.address (cell_count w.place) place.address (cell_count place) i is within in
    record {
      none = λ e. ap (λ b. cond b (Some w) over) other ∙ agrees.none e;
      same = λ v e of_place. ap (λ b. cond b (Some w) over) other ∙ agrees.same v e of_place;
    }

agrees_all : (waiting : List WaitingStore) (place : Place) (i : ℕ) (sharing over : Option WaitingStore) → i < cell_count place → Agrees place sharing over →
    Agrees place (newest_sharing waiting place sharing) (newest_over waiting (place.address + i) over)
agrees_all [] place i sharing over within agrees = agrees
agrees_all (w ∷ waiting) place i sharing over within agrees =
    agrees_all waiting place i _ _ within (agrees_next place i w sharing over (overlaps w.place place) within refl agrees)

at_first : (place : Place) → Agrees place None None
at_first place = record { none = λ e. refl; same = λ w e of_place. absurd (none-some w e) }

-- where no store that waits shares a cell with the place, what is seen there is what memory holds
pub sees_memory : (memory : Memory) (waiting : List WaitingStore) (place : Place) (i : ℕ) → i < cell_count place → newest_sharing waiting place None ≡ None →
    sees memory waiting (place.address + i) ≡ seen_in (memory (place.address + i))
sees_memory memory waiting place i within none = ap (seen_before memory (place.address + i)) ((agrees_all waiting place i None None within (at_first place)).none none)

-- what is read where the same is seen in each cell
read_same : (width : ℕ) (one other : ℕ → Option CellContent) (address count : ℕ) → ((i : ℕ) → i < count → one (address + i) ≡ other (address + i)) →
    read_from width one address count ≡ read_from width other address count
read_same width one other address zero same = refl
read_same width one other address (suc count) same =
    let start : address + 0 ≡ address = omega arith in
    let first : one address ≡ other address = ap one (sym start) ∙ same 0 (omega arith) ∙ ap other start in
    let others = read_same width one other (address + 1) count
    (λ i within.
    let next : address + 1 + i ≡ address + (suc i) = omega arith in
    ap one next ∙ same (suc i) (omega (arith, within)) ∙ ap other (sym next)) in
    ap (λ o. joined_cells width o (read_from width one (address + 1) count)) first ∙ ap (joined_cells width (other address)) others

-- where no store that waits shares a cell with the place, what is read there is what is read of memory alone
pub alone_read : (memory : Memory) (waiting : List WaitingStore) (place : Place) → newest_sharing waiting place None ≡ None → read_in place (sees memory []) ≡ read_in place (sees memory waiting)
alone_read memory waiting place none =
    read_same place.width (sees memory []) (sees memory waiting) place.address (cell_count place) (λ i within. sym (sees_memory memory waiting place i within none))

-- what is seen of all stores at a place is seen of the older ones, where none of the others shares a cell with it
older_seen : (memory : Memory) (waiting : List WaitingStore) (place : Place) (k i : ℕ) → i < cell_count place → newest_sharing (drop k waiting) place None ≡ None →
    sees memory (take k waiting) (place.address + i) ≡ sees memory waiting (place.address + i)
older_seen memory waiting place k i within none =
    let cell = place.address + i in
    let test = λ (w : WaitingStore). covers w.place cell in
    let newer : newest_by test (drop k waiting) None ≡ None =
    sym (over-by (drop k waiting) cell None) ∙ (agrees_all (drop k waiting) place i None None within (at_first place)).none none in
    sym (ap (seen_before memory cell) (
    over-by waiting cell None
    ∙ newest-older test waiting k newer
    ∙ sym (over-by (take k waiting) cell None)))

-- so it is with what is read there
pub older_read : (memory : Memory) (waiting : List WaitingStore) (place : Place) (k : ℕ) → newest_sharing (drop k waiting) place None ≡ None →
    read_in place (sees memory (take k waiting)) ≡ read_in place (sees memory waiting)
older_read memory waiting place k none =
    read_same place.width (sees memory (take k waiting)) (sees memory waiting) place.address (cell_count place) (λ i within. older_seen memory waiting place k i within none)

-- where the newest that does is of this very place, what is seen there is what it has
sees_store : (memory : Memory) (waiting : List WaitingStore) (place : Place) (w : WaitingStore) (i : ℕ) → i < cell_count place → newest_sharing waiting place None ≡ Some w → is_place w.place place ≡ true →
    sees memory waiting (place.address + i) ≡ Some (seen_of w (place.address + i))
sees_store memory waiting place w i within is of_place = ap (seen_before memory (place.address + i)) ((agrees_all waiting place i None None within (at_first place)).same w is of_place)

-- a value that has no more bytes than are read is what is read, where its parts are seen
own_read : (width : ℕ) (look : ℕ → Option CellContent) (address count v : ℕ) → width ≢ 0 →
    ((i : ℕ) → i < count → option_map (λ s. s.value) (look (address + i)) ≡ Some (get_or (parts_from width count v) i 0)) → above_bytes count v ≡ 0 → read_from width look address count ≡ Some v
own_read width look address zero v bytes seen least = ap Some (sym least)
own_read width look address (suc count) v bytes seen least =
    let start : address + 0 ≡ address = omega arith in
    let low = low_byte width v bytes in
    let again : low_part width (low_part width v) ≡ v % 256 = low_byte width (low_part width v) bytes ∙ ap (λ n. n % 256) low ∙ omega arith in
    let whole : v % 256 + 256 * (v / 256) ≡ v = omega arith in
    let others = own_read width look (address + 1) count (v / 256) bytes
    (λ i within.
    let next : address + 1 + i ≡ address + (suc i) = omega arith in
    ap (λ n. option_map (λ s. s.value) (look n)) next ∙ seen (suc i) (omega (arith, within)))
    least in
    ap (joined_cells width (look address)) others
    ∙ joined_value width (look address) (low_part width v) (v / 256) (ap (λ n. option_map (λ s. s.value) (look n)) (sym start) ∙ seen 0 (omega arith))
    ∙ ap (λ n. Some (n + 256 * (v / 256))) again ∙ ap Some whole

-- where the newest store that shares a cell with the place is of this very place, its value is read
pub store_read : (memory : Memory) (waiting : List WaitingStore) (place : Place) (w : WaitingStore) → place.width ≢ 0 → newest_sharing waiting place None ≡ Some w → is_place w.place place ≡ true →
    above_bytes place.width w.value ≡ 0 → read_in place (sees memory waiting) ≡ Some w.value
store_read memory waiting place w bytes is of_place least =
    let same = is_place_same w.place place of_place in
    let count = bytes_count place bytes in
    own_read place.width (sees memory waiting) place.address (cell_count place) w.value bytes
    (λ i within.
    let at : place.address + i - place.address ≡ i = omega arith in
    ap (option_map (λ s. s.value)) (sees_store memory waiting place w i within is of_place)
    ∙ ap (λ n. Some (get_or (parts_from n (cells_of n) w.value) (place.address + i - w.place.address) 0)) same.1
    ∙ ap (λ n. Some (get_or (cell_parts place w.value) (place.address + i - n) 0)) same.0
    ∙ ap (λ n. Some (get_or (cell_parts place w.value) n 0)) at)
    (ap (λ n. above_bytes n w.value) count ∙ least)
