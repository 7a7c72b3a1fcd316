-- Lemmas on pieces: they are the bytes of their place, one piece after the other, and two pieces are one or have no byte in common.
use Rattle.std.proofs.Common.{◌≡◌, ◌∙◌, sym, ap, refl, subst, inl, inr, ℕ, zero, suc, ◌+◌, ◌<◌, ◌≤◌, ◌⊎◌, Bool, true, false, cond, List, [], ◌∷◌, ◌++◌, flat_map, length, map, arith}
use Rattle.std.specs.List.{AllByRecursion}
use Rattle.std.proofs.lemmas.Bool.{cases_lt, ne_eqb}
use Rattle.run_steps.specs.Widths.{cells_of}
use Rattle.run_lines.specs.declared.arguments.Widths.{Widths}
use Rattle.log_text.specs.declared.lines.LogLine.{LogLine}
use Rattle.log_text.specs.declared.lines.LogLine.TheVariants as said
use Rattle.log_text.specs.declared.lines.SaidLine.{SaidLine}
use Rattle.log_text.specs.declared.logs.LogOperation.{LogOperation}
use Rattle.log_text.specs.declared.logs.LogOperation.TheVariants.{Ld, St, Sw, Mb, Sb}
use Rattle.log_text.specs.Splits.{address_in, address_of_operation, boundaries_of_lines, is_boundary, line_on_piece, operation_on_piece, pieces, pieces_from, split_line, split_lines}

-- So many bytes from an address on are a piece: boundaries stand at both ends, and none between them.
pub record IsPiece (boundaries : List ℕ) (start count : ℕ) : Type 0 where
  pub some : 0 < count
  pub first : is_boundary boundaries start ≡ true
  pub last : is_boundary boundaries (start + count) ≡ true
  pub inner : (b : ℕ) → start < b → b < start + count → is_boundary boundaries b ≡ false

-- the pieces follow each other, from one address up to another
abbrev pub ArePieces : List ℕ → ℕ → ℕ → List (ℕ × ℕ) → Type 0
ArePieces boundaries start stop [] = start ≡ stop
ArePieces boundaries start stop (piece ∷ rest) = (piece.0 ≡ start) × IsPiece boundaries piece.0 piece.1 × ArePieces boundaries (piece.0 + piece.1) stop rest

both_ways : (b : Bool) → b ≡ true → b ≡ false → ⊥
both_ways b is other = cc

module _ (bs : List ℕ) where
  -- ---- a place is cut into pieces

  next_piece : (start count b : ℕ) → start + count ≡ b → 0 < count → is_boundary bs start ≡ true → ((c : ℕ) → start < c → c < b → is_boundary bs c ≡ false) → is_boundary bs b ≡ true →
      IsPiece bs start count
  next_piece start count b at some first inner last = record {
    some = some;
    first = first;
    last = ap (is_boundary bs) at ∙ last;
    inner = λ c above below. inner c above (omega (arith, below, at));
  }

  pieces_from_are : (start count b more stop : ℕ) → start + count ≡ b → 0 < count → b + more ≡ stop → is_boundary bs start ≡ true →
      ((c : ℕ) → start < c → c < b → is_boundary bs c ≡ false) → is_boundary bs stop ≡ true → ArePieces bs start stop (pieces_from bs start count b more)
  unfolding pieces_from
  pieces_from_are start count b zero stop at some end first inner last =
      let here : b ≡ stop = omega (arith, end) in
      (refl, next_piece start count b at some first inner (ap (is_boundary bs) here ∙ last), omega (arith, at, here))
  pieces_from_are start count b (suc more) stop at some end first inner last =
      cut (is_boundary bs b) refl
      (λ is. pieces_from_are b 1 (suc b) more stop (omega arith) (omega arith) (omega (arith, end)) is (λ c above below. absurd (omega (arith, above, below))) last)
      (λ is. pieces_from_are start (suc count) (suc b) more stop (omega (arith, at)) (omega arith) (omega (arith, end)) first
      (λ c above below. elim (cases_lt c b) [
        | inl less ↦ inner c above less
        | inr most ↦ ap (is_boundary bs) (equal_of c most below) ∙ is
      ]) last)
    where
      cut : (t : Bool) → is_boundary bs b ≡ t → (is_boundary bs b ≡ true → ArePieces bs b stop (pieces_from bs b 1 (suc b) more)) →
          (is_boundary bs b ≡ false → ArePieces bs start stop (pieces_from bs start (suc count) (suc b) more)) →
          ArePieces bs start stop (cond t ((start, count) ∷ pieces_from bs b 1 (suc b) more) (pieces_from bs start (suc count) (suc b) more))
      cut true is here later = (refl, next_piece start count b at some first inner is, subst (λ x. ArePieces bs x stop (pieces_from bs b 1 (suc b) more)) (sym at) (here is))
      cut false is here later = later is

      equal_of : (c : ℕ) → b ≤ c → c < suc b → c ≡ b
      equal_of c most below = omega (arith, most, below)

  pub pieces_are : (a width : ℕ) → 0 < width → is_boundary bs a ≡ true → is_boundary bs (a + width) ≡ true → ArePieces bs a (a + width) (pieces bs a width)
  pieces_are a zero some first last = absurd (omega (arith, some))
  pieces_are a (suc more) some first last =
      pieces_from_are a 1 (suc a) more (a + suc more) (omega arith) (omega arith) (omega arith) first (λ c above below. absurd (omega (arith, above, below))) last

  -- ---- where they are

  pub pieces_stop : (start stop : ℕ) (ps : List (ℕ × ℕ)) → ArePieces bs start stop ps → start + length ps ≤ stop
  pieces_stop start stop [] are = omega (arith, are)
  pieces_stop start stop (p ∷ ps) are =
      let rest = pieces_stop (p.0 + p.1) stop ps are.2 in
      omega (arith, rest, are.0, are.1.some)

  -- a piece between two addresses
  abbrev pub IsPieceIn : ℕ → ℕ → ℕ × ℕ → Type 0
  IsPieceIn start stop p = (start ≤ p.0) × (p.0 + p.1 ≤ stop) × IsPiece bs p.0 p.1

  pub pieces_in : (low start stop : ℕ) (ps : List (ℕ × ℕ)) → low ≤ start → ArePieces bs start stop ps → AllByRecursion (IsPieceIn low stop) ps
  pieces_in low start stop [] from are = tt
  pieces_in low start stop (p ∷ ps) from are =
      let most = pieces_stop (p.0 + p.1) stop ps are.2 in
      ((omega (arith, from, are.0), omega (arith, most), are.1), pieces_in low (p.0 + p.1) stop ps (omega (arith, from, are.0)) are.2)

  -- ---- two pieces

  pub one_piece : (start m n : ℕ) → IsPiece bs start m → IsPiece bs start n → m ≡ n
  one_piece start m n first second = elim (cases_lt m n) [
    | inl less ↦ absurd (both_ways (is_boundary bs (start + m)) first.last (second.inner (start + m) (omega (arith, first.some)) (omega (arith, less))))
    | inr most ↦ elim (cases_lt n m) [
      | inl less ↦ absurd (both_ways (is_boundary bs (start + n)) second.last (first.inner (start + n) (omega (arith, second.some)) (omega (arith, less))))
      | inr more ↦ omega (arith, most, more)
    ]
  ]

  -- a piece and bytes between two boundaries
  pub piece_sides : (start count a stop : ℕ) → IsPiece bs start count → is_boundary bs a ≡ true → is_boundary bs stop ≡ true →
      (stop ≤ start) ⊎ (start + count ≤ a) ⊎ ((a ≤ start) × (start + count ≤ stop))
  piece_sides start count a stop piece first last = elim (cases_lt start a) [
    | inl before ↦ elim (cases_lt a (start + count)) [
      | inl inside ↦ absurd (both_ways (is_boundary bs a) first (piece.inner a before inside))
      | inr past ↦ inr (inl past)
    ]
    | inr from ↦ elim (cases_lt start stop) [
      | inr past ↦ inl past
      | inl below ↦ elim (cases_lt stop (start + count)) [
        | inl inside ↦ absurd (both_ways (is_boundary bs stop) last (piece.inner stop below inside))
        | inr whole ↦ inr (inr (from, whole))
      ]
    ]
  ]

  -- one that begins later begins past the other
  pub pieces_apart : (start m later n : ℕ) → IsPiece bs start m → IsPiece bs later n → start < later → start + m ≤ later
  pieces_apart start m later n first second less = elim (cases_lt later (start + m)) [
    | inl inside ↦ absurd (both_ways (is_boundary bs later) second.first (first.inner later less inside))
    | inr past ↦ past
  ]

  -- ---- they are in the place, whatever the boundaries are

  from_below : (start count b more top : ℕ) → start + 1 ≤ top → b + more ≤ top → AllByRecursion (λ (p : ℕ × ℕ). p.0 + 1 ≤ top) (pieces_from bs start count b more)
  unfolding pieces_from
  from_below start count b zero top first most = (first, tt)
  from_below start count b (suc more) top first most =
      cut (is_boundary bs b) (from_below b 1 (suc b) more top (omega (arith, most)) (omega (arith, most)))
      (from_below start (suc count) (suc b) more top first (omega (arith, most)))
    where
      cut : (t : Bool) → AllByRecursion (λ (p : ℕ × ℕ). p.0 + 1 ≤ top) (pieces_from bs b 1 (suc b) more) →
          AllByRecursion (λ (p : ℕ × ℕ). p.0 + 1 ≤ top) (pieces_from bs start (suc count) (suc b) more) →
          AllByRecursion (λ (p : ℕ × ℕ). p.0 + 1 ≤ top) (cond t ((start, count) ∷ pieces_from bs b 1 (suc b) more) (pieces_from bs start (suc count) (suc b) more))
      cut true here later = (first, here)
      cut false here later = later

  pub pieces_below : (a width top : ℕ) → a + cells_of width ≤ top → AllByRecursion (λ (p : ℕ × ℕ). p.0 + 1 ≤ top) (pieces bs a width)
  pieces_below a zero top most = (most, tt)
  pieces_below a (suc more) top most =
      let cells : cells_of (suc more) ≡ suc more = ap (λ b. cond b 1 (suc more)) (ne_eqb (suc more) 0 (λ none. omega (arith, none))) in
      from_below a 1 (suc a) more top (omega (arith, most, cells)) (omega (arith, most, cells))

-- ---- locations

operation_whole : (x : LogOperation) → operation_on_piece x (address_of_operation x, 0) ≡ x
operation_whole (Ld a r) = refl
operation_whole (St a v) = refl
operation_whole (Sw a r v) = refl
operation_whole Mb = refl
operation_whole Sb = refl

line_whole : (l : LogLine) → line_on_piece l (address_in l, 0) ≡ l
line_whole said.Note = refl
line_whole said.Pso = refl
line_whole (said.First a v) = refl
line_whole (said.Issued p x) = ap (said.Issued p) (operation_whole x)
line_whole (said.Unknown p a) = refl
line_whole said.Memory = refl
line_whole said.End = refl

-- at locations there are no boundaries, and lines are whole
whole_lines : (bs : List ℕ) (lines : List SaidLine) → AllByRecursion (λ x. x.width ≡ 0) lines → flat_map (split_line bs) lines ≡ map (λ x. x.line) lines
whole_lines bs [] none = refl
whole_lines bs (x ∷ lines) none =
    ap (λ width. map (line_on_piece x.line) (pieces bs (address_in x.line) width) ++ flat_map (split_line bs) lines) none.0
    ∙ ap (λ l. l ∷ flat_map (split_line bs) lines) (line_whole x.line) ∙ ap (λ ls. x.line ∷ ls) (whole_lines bs lines none.1)

-- Where no place has a width, lines say what they say.
pub locations_whole : (widths : Widths) (lines : List SaidLine) → AllByRecursion (λ x. x.width ≡ 0) lines → split_lines widths lines ≡ map (λ x. x.line) lines
locations_whole widths lines none = whole_lines (boundaries_of_lines widths lines) lines none
