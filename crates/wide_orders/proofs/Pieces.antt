-- The pieces of a place: what lies between two boundaries next to each other, and within the place.
use Rattle.std.proofs.Common.{◌≡◌, ◌∙◌, ℕ, zero, suc, ◌+◌, ◌<◌, ◌≤◌, cond, nat_le, nat_lt, ◌&&◌, Bool, true, false, List, [], ◌∷◌, inl, inr, ⊎_elim, refl, sym, ap, subst, arith}
use Rattle.std.proofs.lemmas.Bool.{cases_eq, cases_lt, cases_order, ne_eqb, false≢true}
use Rattle.std.proofs.lemmas.Bool.Decides.{nat_tests}
use Rattle.run_steps.specs.Widths.{cells_of}
use Rattle.log_text.specs.Splits.{is_boundary, pieces_from, pieces}
use Rattle.wide_orders.specs.WideOrders.{has_cell}
use Rattle.wide_orders.proofs.Members.{Has}

-- ---- cells

-- how many cells a place with a width has
pub cells-some : (width : ℕ) → 0 < width → cells_of width ≡ width
cells-some width wide = ap (λ b. cond b 1 width) (ne_eqb width 0 (λ none. omega (arith, none, wide)))

-- what a cell of a place is
pub cell_in : (a width c : ℕ) → has_cell a width c ≡ true → (a ≤ c) × (c < a + cells_of width)
cell_in a width c is = within (cells_of width) is
  where
    within : (count : ℕ) → (nat_le a c && nat_lt c (a + count)) ≡ true → (a ≤ c) × (c < a + count)
    within count test = (grind (arith, nat_tests), grind (arith, nat_tests))

-- and which numbers are cells of it
pub in_cell : (a width c : ℕ) → a ≤ c → c < a + cells_of width → has_cell a width c ≡ true
in_cell a width c low high = within (cells_of width) high
  where
    within : (count : ℕ) → c < a + count → (nat_le a c && nat_lt c (a + count)) ≡ true
    within count below = grind (arith, nat_tests)

-- a cell or none
pub no_cell : (a width c : ℕ) → (has_cell a width c ≡ true → ⊥) → has_cell a width c ≡ false
no_cell a width c none = by_test (has_cell a width c) none
  where
    by_test : (b : Bool) → (b ≡ true → ⊥) → b ≡ false
    by_test true other = absurd (other refl)
    by_test false other = refl

-- ---- segments

-- the bytes from one boundary to the next
pub record IsSegment (bs : List ℕ) (b k : ℕ) : Type 0 where
  pub some : 0 < k
  pub low : is_boundary bs b ≡ true
  pub high : is_boundary bs (b + k) ≡ true
  pub inner : (c : ℕ) → is_boundary bs c ≡ true → b < c → c < b + k → ⊥

-- what is a piece of some place: a segment of bytes, or a location
abbrev pub IsPiece : Bool → List ℕ → ℕ × ℕ → Type 0
IsPiece true bs piece = IsSegment bs piece.0 piece.1
IsPiece false bs piece = piece.1 ≡ 0

-- what is a place: bytes, both ends of which are boundaries, or a location
abbrev pub IsPlace : Bool → List ℕ → ℕ → ℕ → Type 0
IsPlace true bs a width = (0 < width) × (is_boundary bs a ≡ true) × (is_boundary bs (a + width) ≡ true)
IsPlace false bs a width = width ≡ 0

-- the piece lies in the place
abbrev pub IsWithin : ℕ × ℕ → ℕ → ℕ → Type 0
IsWithin piece a width = (a ≤ piece.0) × (piece.0 + cells_of piece.1 ≤ a + cells_of width)

-- each piece stands behind the ones before it
abbrev pub Ascend : List (ℕ × ℕ) → Type 0
Ascend [] = Unit {0}
Ascend (piece ∷ more) = ((next : ℕ × ℕ) → Has more next → piece.0 < next.0) × Ascend more

module _ (bs : List ℕ) where
  -- between boundaries next to each other
  HasNoneBetween : ℕ → ℕ → Type 0
  HasNoneBetween start b = (c : ℕ) → is_boundary bs c ≡ true → start < c → c < b → ⊥

  -- one byte more that is no boundary
  none_longer : (start b : ℕ) → HasNoneBetween start b → is_boundary bs b ≡ false → HasNoneBetween start (suc b)
  unfolding HasNoneBetween
  none_longer start b none other c is above below = elim (cases_eq c b) [
    | inl same ↦ false≢true (sym other ∙ subst (λ n. is_boundary bs n ≡ true) same is)
    | inr apart ↦ none c is above (omega (arith, below, apart))
  ]

  -- one byte alone
  none_one : (b : ℕ) → HasNoneBetween b (suc b)
  unfolding HasNoneBetween
  none_one b c is above below = omega (arith, above, below)

  -- what is cut off is a segment
  cut_off : (start count b : ℕ) → b ≡ start + count → 0 < count → is_boundary bs start ≡ true → is_boundary bs b ≡ true → HasNoneBetween start b → IsSegment bs start count
  unfolding HasNoneBetween
  cut_off start count b is some first last none = record {
    some = some;
    low = first;
    high = subst (λ n. is_boundary bs n ≡ true) is last;
    inner = λ c test above below. none c test above (omega (arith, is, below));
  }

  -- each piece is a segment within what is cut
  abbrev IsOneOf : ℕ → ℕ → ℕ × ℕ → Type 0
  IsOneOf start end piece = IsSegment bs piece.0 piece.1 × (start ≤ piece.0) × (piece.0 + piece.1 ≤ end)

  -- so is each piece that is cut
  pieces_are : (start count b more : ℕ) → b ≡ start + count → 0 < count → is_boundary bs start ≡ true → is_boundary bs (b + more) ≡ true → HasNoneBetween start b →
      (piece : ℕ × ℕ) → Has (pieces_from bs start count b more) piece → IsOneOf start (b + more) piece
  unfolding pieces_from
  pieces_are start count b zero is some first last none piece (inl same) =
      let end : b + 0 ≡ b = omega arith in
      let whole : IsOneOf start (b + 0) (start, count) =
      (cut_off start count b is some first (subst (λ n. is_boundary bs n ≡ true) end last) none, omega arith, omega (arith, is)) in
      subst (IsOneOf start (b + 0)) same whole
  pieces_are start count b zero is some first last none piece (inr later) = absurd later
  pieces_are start count b (suc more) is some first last none piece has =
      by_test (λ test. pieces_are b 1 (suc b) more (omega arith) (omega arith) test end (none_one b) piece)
      (λ test. pieces_are start (suc count) (suc b) more (omega (arith, is)) (omega arith) first end (none_longer start b none test) piece) (is_boundary bs b) refl has
    where
      end : is_boundary bs (suc b + more) ≡ true
      end = let next : b + suc more ≡ suc b + more = omega arith in subst (λ n. is_boundary bs n ≡ true) next last

      by_test : (is_boundary bs b ≡ true → Has (pieces_from bs b 1 (suc b) more) piece → IsOneOf b (suc b + more) piece) →
          (is_boundary bs b ≡ false → Has (pieces_from bs start (suc count) (suc b) more) piece → IsOneOf start (suc b + more) piece) → (t : Bool) → is_boundary bs b ≡ t →
          Has (cond t ((start, count) ∷ pieces_from bs b 1 (suc b) more) (pieces_from bs start (suc count) (suc b) more)) piece → IsOneOf start (b + suc more) piece
      by_test here further true test (inl same) =
          let whole : IsOneOf start (b + suc more) (start, count) = (cut_off start count b is some first test none, omega arith, omega (arith, is)) in
          subst (IsOneOf start (b + suc more)) same whole
      by_test here further true test (inr later) =
          let rest = here test later in
          let low = rest.1 in
          let high = rest.2 in
          (rest.0, omega (arith, low, is), omega (arith, high))
      by_test here further false test later =
          let rest = further test later in
          let high = rest.2 in
          (rest.0, rest.1, omega (arith, high))

  -- a piece with this start and so many bytes
  same_piece : (start count : ℕ) (piece : ℕ × ℕ) → start ≡ piece.0 → count ≡ piece.1 → (start, count) ≡ piece
  same_piece start count piece first second = ap (λ n. (n, count)) first ∙ ap (λ n. (piece.0, n)) second

  -- a segment that starts in what is cut off is it
  is_cut_off : (start count b : ℕ) → b ≡ start + count → is_boundary bs b ≡ true → HasNoneBetween start b → (piece : ℕ × ℕ) → IsSegment bs piece.0 piece.1 → start ≤ piece.0 → piece.0 < b →
      (start, count) ≡ piece
  unfolding HasNoneBetween
  is_cut_off start count b is last none piece segment low below =
      let some = segment.some in
      let first : start ≡ piece.0 = elim (cases_eq start piece.0) [ inl same ↦ same | inr other ↦ absurd (none piece.0 segment.low (omega (arith, low, other)) below) ] in
      let second : count ≡ piece.1 = elim (cases_order (piece.0 + piece.1) b) [
        | inl same ↦ omega (arith, is, first, same)
        | inr (inl less) ↦ absurd (none (piece.0 + piece.1) segment.high (omega (arith, some, first)) less)
        | inr (inr more) ↦ absurd (segment.inner b last below more)
      ] in
      same_piece start count piece first second

  -- each segment within what is cut is a piece
  are_pieces : (start count b more : ℕ) → b ≡ start + count → 0 < count → is_boundary bs start ≡ true → is_boundary bs (b + more) ≡ true → HasNoneBetween start b →
      (piece : ℕ × ℕ) → IsOneOf start (b + more) piece → Has (pieces_from bs start count b more) piece
  unfolding pieces_from
  are_pieces start count b zero is some first last none piece (segment, low, high) =
      let one = segment.some in
      let end : b + 0 ≡ b = omega arith in
      inl (is_cut_off start count b is (subst (λ n. is_boundary bs n ≡ true) end last) none piece segment low (omega (arith, high, one)))
  are_pieces start count b (suc more) is some first last none piece (segment, low, high) =
      by_test (λ test behind. are_pieces b 1 (suc b) more (omega arith) (omega arith) test end (none_one b) piece (segment, behind, omega (arith, high)))
      (λ test. are_pieces start (suc count) (suc b) more (omega (arith, is)) (omega arith) first end (none_longer start b none test) piece (segment, low, omega (arith, high)))
      (is_boundary bs b) refl
    where
      end : is_boundary bs (suc b + more) ≡ true
      end = let next : b + suc more ≡ suc b + more = omega arith in subst (λ n. is_boundary bs n ≡ true) next last

      by_test : (is_boundary bs b ≡ true → b ≤ piece.0 → Has (pieces_from bs b 1 (suc b) more) piece) →
          (is_boundary bs b ≡ false → Has (pieces_from bs start (suc count) (suc b) more) piece) → (t : Bool) → is_boundary bs b ≡ t →
          Has (cond t ((start, count) ∷ pieces_from bs b 1 (suc b) more) (pieces_from bs start (suc count) (suc b) more)) piece
      by_test here further true test = elim (cases_lt piece.0 b) [
        | inl before ↦ inl (is_cut_off start count b is test none piece segment low before)
        | inr behind ↦ inr (here test behind)
      ]
      by_test here further false test = further test

  -- what starts no earlier, and ascends
  abbrev StartsFrom : ℕ → List (ℕ × ℕ) → Type 0
  StartsFrom low ps = ((piece : ℕ × ℕ) → Has ps piece → low ≤ piece.0) × Ascend ps

  -- pieces do
  pieces_ascend : (start count b more : ℕ) → start < b → StartsFrom start (pieces_from bs start count b more)
  unfolding pieces_from
  pieces_ascend start count b zero less =
      (λ piece has. ⊎_elim (λ same. (let is : start ≡ piece.0 = ap (λ (p : ℕ × ℕ). p.0) same in omega (arith, is))) (λ later. absurd later) has, ((λ next later. absurd later), tt))
  pieces_ascend start count b (suc more) less = by_test (pieces_ascend b 1 (suc b) more (omega arith)) (pieces_ascend start (suc count) (suc b) more (omega (arith, less))) (is_boundary bs b)
    where
      by_test : StartsFrom b (pieces_from bs b 1 (suc b) more) → StartsFrom start (pieces_from bs start (suc count) (suc b) more) → (t : Bool) →
          StartsFrom start (cond t ((start, count) ∷ pieces_from bs b 1 (suc b) more) (pieces_from bs start (suc count) (suc b) more))
      by_test rest further true = (
        λ piece has. ⊎_elim
            (λ same. (let is : start ≡ piece.0 = ap (λ (p : ℕ × ℕ). p.0) same in omega (arith, is)))
            (λ later. (let low = rest.0 piece later in omega (arith, low, less))) has,
        ((λ next later. (let low = rest.0 next later in omega (arith, low, less))), rest.1),
      )
      by_test rest further false = further

-- ---- both kinds of places

-- pieces ascend
pub pieces-ascend : (bs : List ℕ) (a width : ℕ) → Ascend (pieces bs a width)
pieces-ascend bs a zero = ((λ next later. absurd later), tt)
pieces-ascend bs a (suc more) = (pieces_ascend bs a 1 (suc a) more (omega arith)).1

-- each of a place is a piece within it
pub piece_of : (bytes : Bool) (bs : List ℕ) (a width : ℕ) → IsPlace bytes bs a width → (piece : ℕ × ℕ) → Has (pieces bs a width) piece → IsPiece bytes bs piece × IsWithin piece a width
piece_of true bs a zero place piece has = absurd (let some = place.0 in omega (arith, some))
piece_of true bs a (suc more) (some, first, last) piece has =
    let next : a + suc more ≡ suc a + more = omega arith in
    let is = pieces_are bs a 1 (suc a) more (omega arith) (omega arith) first (subst (λ n. is_boundary bs n ≡ true) next last) (none_one bs a) piece has in
    let low = is.1 in
    let high = is.2 in
    let cells = cells-some piece.1 is.0.some in
    let whole = cells-some (suc more) some in
    (is.0, (low, omega (arith, high, cells, whole)))
piece_of false bs a (suc more) none piece has = absurd (omega (arith, none))
piece_of false bs a zero none piece (inl same) =
    let whole : IsPiece false bs (a, 0) × IsWithin (a, 0) a 0 = (refl, (omega arith, omega arith)) in
    subst (λ p. IsPiece false bs p × IsWithin p a 0) same whole
piece_of false bs a zero none piece (inr later) = absurd later

-- and each piece within it is one of its own
pub of_place : (bytes : Bool) (bs : List ℕ) (a width : ℕ) → IsPlace bytes bs a width → (piece : ℕ × ℕ) → IsPiece bytes bs piece → IsWithin piece a width → Has (pieces bs a width) piece
of_place true bs a zero place piece is within = absurd (let some = place.0 in omega (arith, some))
of_place true bs a (suc more) (some, first, last) piece is (low, high) =
    let next : a + suc more ≡ suc a + more = omega arith in
    let cells = cells-some piece.1 is.some in
    let whole = cells-some (suc more) some in
    are_pieces bs a 1 (suc a) more (omega arith) (omega arith) first (subst (λ n. is_boundary bs n ≡ true) next last) (none_one bs a) piece
    (is, low, omega (arith, high, cells, whole))
of_place false bs a (suc more) none piece is within = absurd (omega (arith, none))
of_place false bs a zero none piece is (low, high) =
    let one : cells_of piece.1 ≡ 1 = ap cells_of is in
    let first : a ≡ piece.0 = omega (arith, low, high, one) in
    inl (ap (λ n. (n, 0)) first ∙ ap (λ n. (piece.0, n)) (sym is))

-- a piece that has a cell of a place lies in it
pub shared_within : (bytes : Bool) (bs : List ℕ) (a width : ℕ) → IsPlace bytes bs a width → (piece : ℕ × ℕ) → IsPiece bytes bs piece →
    (c : ℕ) → has_cell piece.0 piece.1 c ≡ true → has_cell a width c ≡ true → IsWithin piece a width
shared_within true bs a width (some, first, last) piece is c here there =
    let inside = cell_in piece.0 piece.1 c here in
    let covered = cell_in a width c there in
    let cells = cells-some piece.1 is.some in
    let whole = cells-some width some in
    let from = inside.0 in
    let below = inside.1 in
    let start = covered.0 in
    let end = covered.1 in
    let low : a ≤ piece.0 = elim (cases_lt piece.0 a) [
      | inl less ↦ absurd (is.inner a first less (omega (arith, start, below, cells)))
      | inr up ↦ up
    ] in
    let high : piece.0 + piece.1 ≤ a + width = elim (cases_lt (a + width) (piece.0 + piece.1)) [
      | inl less ↦ absurd (is.inner (a + width) last (omega (arith, from, end, whole)) less)
      | inr up ↦ up
    ] in
    (low, omega (arith, high, cells, whole))
shared_within false bs a width none piece is c here there =
    let inside = cell_in piece.0 piece.1 c here in
    let covered = cell_in a width c there in
    let one : cells_of piece.1 ≡ 1 = ap cells_of is in
    let other : cells_of width ≡ 1 = ap cells_of none in
    let from = inside.0 in
    let below = inside.1 in
    let start = covered.0 in
    let end = covered.1 in
    (omega (arith, from, below, start, end, one, other), omega (arith, from, below, start, end, one, other))

-- a piece has a cell at its address
pub first_of_piece : (piece : ℕ × ℕ) → has_cell piece.0 piece.1 piece.0 ≡ true
first_of_piece piece = in_cell piece.0 piece.1 piece.0 (omega arith) (some piece.1)
  where
    some : (k : ℕ) → piece.0 < piece.0 + cells_of k
    some zero = omega arith
    some (suc k) = let is = cells-some (suc k) (omega arith) in omega (arith, is)

-- a cell of a piece within a place is one of the place
pub cell_within : (piece : ℕ × ℕ) (a width c : ℕ) → IsWithin piece a width → has_cell piece.0 piece.1 c ≡ true → has_cell a width c ≡ true
cell_within piece a width c (low, high) has =
    let inside = cell_in piece.0 piece.1 c has in
    let from = inside.0 in
    let below = inside.1 in
    in_cell a width c (omega (arith, low, from)) (omega (arith, high, below))

-- pieces of one address are one
pub one_piece : (bytes : Bool) (bs : List ℕ) (first second : ℕ × ℕ) → IsPiece bytes bs first → IsPiece bytes bs second → first.0 ≡ second.0 → first ≡ second
one_piece true bs first second is other same =
    let some = is.some in
    let more = other.some in
    let length : first.1 ≡ second.1 = elim (cases_order (first.0 + first.1) (second.0 + second.1)) [
      | inl one ↦ omega (arith, one, same)
      | inr (inl less) ↦ absurd (other.inner (first.0 + first.1) is.high (omega (arith, same, some)) less)
      | inr (inr greater) ↦ absurd (is.inner (second.0 + second.1) other.high (omega (arith, same, more)) greater)
    ] in
    ap (λ n. (n, first.1)) same ∙ ap (λ n. (second.0, n)) length
one_piece false bs first second is other same = ap (λ n. (n, first.1)) same ∙ ap (λ n. (second.0, n)) (is ∙ sym other)
