-- The pieces of places as locations, what is seen of them, and steps that are one for each piece.
use Rattle.std.proofs.Common.{◌≡◌, ◌∙◌, sym, ap, refl, subst, inl, inr, ℕ, suc, ◌+◌, ◌-◌, ◌*◌, ◌^◌, ◌<◌, ◌≤◌, ◌&&◌, ◌⊎◌, true, false, cond, nat_le, nat_lt, Option, None, Some, List, [], ◌∷◌, ◌++◌, get_or, append_assoc, arith}
use Rattle.std.specs.List.{AllByRecursion}
use Rattle.std.proofs.lemmas.Bool.Decides.{nat_tests}
use Rattle.std.proofs.lemmas.Bool.{cases_eq, ne_eqb}
use Rattle.run_steps.specs.declared.places.Place.{Place}
use Rattle.run_steps.specs.declared.processors.WaitingStore.{WaitingStore}
use Rattle.run_steps.specs.declared.refusals.CellContent.{CellContent}
use Rattle.run_steps.specs.declared.steps.RunStep.{RunStep}
use Rattle.run_steps.specs.Places.{cell_count, covers, parts_from}
use Rattle.run_steps.specs.Widths.{cells_of}
use Rattle.run_steps.specs.Reads.{Memory, newest_over, read_from, seen_before, sees}
use Rattle.log_text.specs.Splits.{is_boundary, pieces, piece_value}
use Rattle.log_text.proofs.PieceFacts.{ArePieces, IsPiece, IsPieceIn, one_piece, piece_sides, pieces_apart, pieces_are, pieces_below, pieces_stop}
use Rattle.run_orders.proofs.PieceReads.{IsKnownFrom, known-append, piece_bytes, read_piece, read_same, read_stored}
use Rattle.run_orders.proofs.Waiting.{value_seen}

-- ---- pieces as locations

-- the pieces lie below 2^64
abbrev pub AreLow : List (ℕ × ℕ) → Type 0
AreLow ps = AllByRecursion (λ (p : ℕ × ℕ). p.0 + 1 ≤ 2 ^ 64) ps

-- the location at an address
abbrev pub location : (a : ℕ) → a + 1 ≤ 2 ^ 64 → Place
location a within = record { address = a; width = 0; few = omega arith; within = within }

-- a step for each piece, which has its part of what is read and of what is stored
abbrev pub steps_of : (Place → ℕ → ℕ → RunStep) → (a r v : ℕ) (ps : List (ℕ × ℕ)) → AreLow ps → List RunStep
steps_of f a r v [] low = []
steps_of f a r v (p ∷ ps) low = f (location p.0 low.0) (piece_value a r p) (piece_value a v p) ∷ steps_of f a r v ps low.1

-- a store for each piece
abbrev pub waits_from : (a v line tag : ℕ) (ps : List (ℕ × ℕ)) → AreLow ps → List WaitingStore
waits_from a v line tag [] low = []
waits_from a v line tag (p ∷ ps) low =
    record { store = line; place = location p.0 low.0; value = piece_value a v p; stbar = tag } ∷ waits_from a v (suc line) tag ps low.1

-- boundaries stand at both ends of the place, which is one of bytes
pub record IsCut (boundaries : List ℕ) (place : Place) : Type 0 where
  pub wide : 0 < place.width
  pub first : is_boundary boundaries place.address ≡ true
  pub last : is_boundary boundaries (place.address + place.width) ≡ true

-- so the places of these stores
abbrev pub AreCutWaits : List ℕ → List WaitingStore → Type 0
AreCutWaits boundaries waits = AllByRecursion (λ w. IsCut boundaries w.place) waits

pub wide_cells : (width : ℕ) → 0 < width → cells_of width ≡ width
wide_cells width wide = ap (λ b. cond b 1 width) (ne_eqb width 0 (λ none. omega (arith, none, wide)))

newest-append : (xs ys : List WaitingStore) (b : ℕ) (other : Option WaitingStore) → newest_over (xs ++ ys) b other ≡ newest_over ys b (newest_over xs b other)
newest-append [] ys b other = refl
newest-append (x ∷ xs) ys b other = newest-append xs ys b (cond (covers x.place b) (Some x) other)

here_covered : (a b : ℕ) → a ≡ b → (nat_le a b && nat_lt (b - a) 1) ≡ true
here_covered a b same = grind (arith, nat_tests)

other_covered : (a b : ℕ) → (a ≡ b → ⊥) → (nat_le a b && nat_lt (b - a) 1) ≡ false
other_covered a b other = grind (arith, nat_tests)

pub inside_covered : (a count b : ℕ) → a ≤ b → b < a + count → (nat_le a b && nat_lt (b - a) count) ≡ true
inside_covered a count b from below = grind (arith, nat_tests)

pub outside_covered : (a count b : ℕ) → (b < a) ⊎ (a + count ≤ b) → (nat_le a b && nat_lt (b - a) count) ≡ false
outside_covered a count b (inl before) = grind (arith, nat_tests)
outside_covered a count b (inr past) = grind (arith, nat_tests)

module _ (bs : List ℕ) where
  -- those of a place
  abbrev pub pieces_of : Place → List (ℕ × ℕ)
  pieces_of place = pieces bs place.address place.width

  pub low_pieces : (place : Place) → AreLow (pieces_of place)
  low_pieces place = pieces_below bs place.address place.width (2 ^ 64) place.within

  pub pieces_cut : (place : Place) → IsCut bs place → ArePieces bs place.address (place.address + place.width) (pieces_of place)
  pieces_cut place cut = pieces_are bs place.address place.width cut.wide cut.first cut.last

  -- the stores that stand for a store
  abbrev pub waits_for : WaitingStore → List WaitingStore
  waits_for w = waits_from w.place.address w.value (8 * w.store) (8 * w.stbar) (pieces_of w.place) (low_pieces w.place)

  -- those that stand for these
  abbrev pub split_waits : List WaitingStore → List WaitingStore
  split_waits [] = []
  split_waits (w ∷ waits) = waits_for w ++ split_waits waits

  pub split-append : (xs ys : List WaitingStore) → split_waits (xs ++ ys) ≡ split_waits xs ++ split_waits ys
  split-append [] ys = refl
  split-append (x ∷ xs) ys = ap (λ ws. waits_for x ++ ws) (split-append xs ys) ∙ sym (append_assoc (waits_for x) (split_waits xs) (split_waits ys))

  -- ---- what is seen of them

  -- the bytes of a piece, and the location that stands for it, have one value
  pub record IsPieceSeen (look : ℕ → Option CellContent) (start count : ℕ) (seen : Option CellContent) : Type 0 where
    pub value : ℕ
    pub bytes : read_from 1 look start count ≡ Some value
    pub whole : value_seen seen ≡ Some value

  -- so of all pieces
  abbrev pub IsSeenSame : (ℕ → Option CellContent) → (ℕ → Option CellContent) → Type 0
  IsSeenSame look view = (start count : ℕ) → IsPiece bs start count → IsPieceSeen look start count (view start)

  -- the memory of locations has what that of bytes has
  abbrev pub IsSameMemory : Memory → Memory → Type 0
  IsSameMemory m n = IsSeenSame (sees m []) (sees n [])

  module _ (memory : Memory) (start count : ℕ) (piece : IsPiece bs start count) where
    -- pieces elsewhere
    newest_elsewhere : (a v line tag from stop : ℕ) (ps : List (ℕ × ℕ)) (low : AreLow ps) → ArePieces bs from stop ps → (other : Option WaitingStore) →
        (start < from) ⊎ (stop ≤ start) → newest_over (waits_from a v line tag ps low) start other ≡ other
    newest_elsewhere a v line tag from stop [] low are other out = refl
    newest_elsewhere a v line tag from stop (p ∷ ps) low are other out =
        let w : WaitingStore = record { store = line; place = location p.0 low.0; value = piece_value a v p; stbar = tag } in
        let most = pieces_stop bs (p.0 + p.1) stop ps are.2 in
        let differs : p.0 ≡ start → ⊥ = λ same. elim out [ inl before ↦ omega (arith, same, before, are.0) | inr past ↦ omega (arith, same, past, most, are.1.some) ] in
        ap (λ t. newest_over (waits_from a v (suc line) tag ps low.1) start (cond t (Some w) other)) (other_covered p.0 start differs)
        ∙ newest_elsewhere a v (suc line) tag (p.0 + p.1) stop ps low.1 are.2 other
        (elim out [ inl before ↦ inl (omega (arith, before, are.0)) | inr past ↦ inr past ])

    -- the piece here
    newest_piece : (a v line tag from stop : ℕ) (ps : List (ℕ × ℕ)) (low : AreLow ps) → ArePieces bs from stop ps → (other : Option WaitingStore) → from ≤ start → start < stop →
        value_seen (seen_before memory start (newest_over (waits_from a v line tag ps low) start other)) ≡ Some (piece_value a v (start, count))
    newest_piece a v line tag from stop [] low are other above below = absurd (omega (arith, above, below, are))
    newest_piece a v line tag from stop (p ∷ ps) low are other above below =
        let w : WaitingStore = record { store = line; place = location p.0 low.0; value = piece_value a v p; stbar = tag } in
        let rest = waits_from a v (suc line) tag ps low.1 in
        elim (cases_eq p.0 start) [
          | inl same ↦
              let none : start - p.0 ≡ 0 = omega (arith, same) in
              let counts : p.1 ≡ count = one_piece bs start p.1 count (subst (λ b. IsPiece bs b p.1) same are.1) piece in
              ap (λ t. value_seen (seen_before memory start (newest_over rest start (cond t (Some w) other)))) (here_covered p.0 start same)
              ∙ ap (λ o. value_seen (seen_before memory start o))
              (newest_elsewhere a v (suc line) tag (p.0 + p.1) stop ps low.1 are.2 (Some w) (inl (omega (arith, same, are.1.some))))
              ∙ ap (λ n. Some (get_or (piece_value a v p ∷ []) n 0)) none
              ∙ ap (λ b. Some (piece_value a v (b, p.1))) same ∙ ap (λ n. Some (piece_value a v (start, n))) counts
          | inr differs ↦
              let past = pieces_apart bs p.0 p.1 start count are.1 piece (omega (arith, are.0, above, differs)) in
              ap (λ t. value_seen (seen_before memory start (newest_over rest start (cond t (Some w) other)))) (other_covered p.0 start differs)
              ∙ newest_piece a v (suc line) tag (p.0 + p.1) stop ps low.1 are.2 other past below
        ]

  module _ (ms mt : Memory) (start count : ℕ) (piece : IsPiece bs start count) where
    -- one more store over both
    push_same : (w : WaitingStore) → IsCut bs w.place → (over : ℕ → Option WaitingStore) (o : Option WaitingStore) →
        IsPieceSeen (λ b. seen_before ms b (over b)) start count (seen_before mt start o) →
        IsPieceSeen (λ b. seen_before ms b (cond (covers w.place b) (Some w) (over b))) start count (seen_before mt start (newest_over (waits_for w) start o))
    push_same w cut over o same =
        let a = w.place.address in
        let width = w.place.width in
        let are = pieces_cut w.place cut in
        let cells = wide_cells width cut.wide in
        elim (piece_sides bs start count a (a + width) piece cut.first cut.last) [
          | inl after ↦ beside (λ b from below. inr (omega (arith, after, from, cells))) (inr after)
          | inr other ↦ elim other [
            | inl before ↦ beside (λ b from below. inl (omega (arith, before, below))) (inl (omega (arith, before, piece.some)))
            | inr inside ↦ record {
              value = piece_value a w.value (start, count);
              bytes =
                  read_stored (λ b. seen_before ms b (cond (covers w.place b) (Some w) (over b))) width cut.wide a w.value start count inside.0 inside.1
                  (λ b from below.
                  ap (λ t. value_seen (seen_before ms b (cond t (Some w) (over b)))) (inside_covered a (cell_count w.place) b from (omega (arith, below, cells)))
                  ∙ ap (λ n. Some (get_or (parts_from width n w.value) (b - a) 0)) cells)
                  ∙ ap Some (sym (piece_bytes a w.value start count piece.some));
              whole = newest_piece mt start count piece a w.value (8 * w.store) (8 * w.stbar) a (a + width) (pieces_of w.place) (low_pieces w.place) are o inside.0
                  (omega (arith, inside.1, piece.some));
            }
          ]
        ]
      where
        beside : ((b : ℕ) → start ≤ b → b < start + count → (b < w.place.address) ⊎ (w.place.address + cell_count w.place ≤ b)) →
            (start < w.place.address) ⊎ (w.place.address + w.place.width ≤ start) →
            IsPieceSeen (λ b. seen_before ms b (cond (covers w.place b) (Some w) (over b))) start count (seen_before mt start (newest_over (waits_for w) start o))
        beside out first = record {
          value = same.value;
          bytes =
              read_same (λ b. seen_before ms b (cond (covers w.place b) (Some w) (over b))) (λ b. seen_before ms b (over b)) start count
              (λ b from below. ap (λ t. seen_before ms b (cond t (Some w) (over b))) (outside_covered w.place.address (cell_count w.place) b (out b from below)))
              ∙ same.bytes;
          whole =
              ap (λ x. value_seen (seen_before mt start x))
              (newest_elsewhere mt start count piece w.place.address w.value (8 * w.store) (8 * w.stbar) w.place.address (w.place.address + w.place.width) (pieces_of w.place) (low_pieces w.place)
              (pieces_cut w.place cut) o first)
              ∙ same.whole;
        }

    newest_same : (waits : List WaitingStore) → AreCutWaits bs waits → (over : ℕ → Option WaitingStore) (o : Option WaitingStore) →
        IsPieceSeen (λ b. seen_before ms b (over b)) start count (seen_before mt start o) →
        IsPieceSeen (λ b. seen_before ms b (newest_over waits b (over b))) start count (seen_before mt start (newest_over (split_waits waits) start o))
    newest_same [] cut over o same = same
    newest_same (w ∷ waits) cut over o same =
        subst (λ x. IsPieceSeen (λ b. seen_before ms b (newest_over waits b (cond (covers w.place b) (Some w) (over b)))) start count (seen_before mt start x))
        (sym (newest-append (waits_for w) (split_waits waits) start o))
        (newest_same waits cut.1 (λ b. cond (covers w.place b) (Some w) (over b)) (newest_over (waits_for w) start o) (push_same w cut.0 over o same))

  -- a processor sees the same
  pub sees_same : (ms mt : Memory) → IsSameMemory ms mt → (waits : List WaitingStore) → AreCutWaits bs waits →
      IsSeenSame (sees ms waits) (sees mt (split_waits waits))
  sees_same ms mt same waits cut start count piece = newest_same ms mt start count piece waits cut (λ b. None) None (same start count piece)

  -- ---- what is read of them

  -- bytes that are seen are known
  pub pieces_known : (look view : ℕ → Option CellContent) → IsSeenSame look view → (start stop : ℕ) (ps : List (ℕ × ℕ)) → ArePieces bs start stop ps → IsKnownFrom look start (stop - start)
  pieces_known look view same start stop [] are =
      let none : stop - start ≡ 0 = omega (arith, are) in
      record { value = 0; is = ap (read_from 1 look start) none }
  pieces_known look view same start stop (p ∷ ps) are =
      let most = pieces_stop bs (p.0 + p.1) stop ps are.2 in
      let here = same p.0 p.1 are.1 in
      let both = known-append look p.0 p.1 (stop - (p.0 + p.1)) here.value here.bytes (pieces_known look view same (p.0 + p.1) stop ps are.2) in
      let count : p.1 + (stop - (p.0 + p.1)) ≡ stop - start = omega (arith, are.0, most) in
      record { value = both.value; is = ap (λ b. read_from 1 look b (stop - start)) (sym are.0) ∙ ap (read_from 1 look p.0) (sym count) ∙ both.is }

  -- where a value is read at a place, each of its pieces is seen to hold its part
  pub parts_seen : (look view : ℕ → Option CellContent) → IsSeenSame look view → (a width v : ℕ) → read_from 1 look a width ≡ Some v → (ps : List (ℕ × ℕ)) →
      AllByRecursion (IsPieceIn bs a (a + width)) ps → AllByRecursion (λ p. value_seen (view p.0) ≡ Some (piece_value a v p)) ps
  parts_seen look view same a width v read [] inside = tt
  parts_seen look view same a width v read (p ∷ ps) inside =
      let here = same p.0 p.1 inside.0.2 in
      let bytes = read_piece look a width v p.0 p.1 read inside.0.2.some inside.0.0 inside.0.1 in
      let equal : here.value ≡ piece_value a v p = some_same here.value (piece_value a v p) (sym here.bytes ∙ bytes) in
      (here.whole ∙ ap Some equal, parts_seen look view same a width v read ps inside.1)
    where
      some_same : (x y : ℕ) → Some x ≡ Some y → x ≡ y
      some_same x y is = cc
