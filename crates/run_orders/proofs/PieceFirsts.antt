-- The first values of the pieces of places are those of their bytes.
use Rattle.std.proofs.Common.{◌≡◌, ◌∙◌, sym, ap, refl, subst, inl, inr, ℕ, zero, suc, ◌+◌, ◌-◌, ◌<◌, ◌≤◌, ◌⊎◌, true, cond, fold, Some, List, [], ◌∷◌, ◌++◌, get_or, map, flat_map, append_assoc, append-nil, arith}
use Rattle.std.specs.List.{AllByRecursion}
use Rattle.std.proofs.lemmas.Bool.{cases_eq}
use Rattle.tso_ops.specs.Settings.{first_value}
use Rattle.run_steps.specs.declared.cells.Cell.TheVariants.{First}
use Rattle.run_steps.specs.Places.{parts_from}
use Rattle.run_steps.specs.Widths.{cells_of}
use Rattle.run_steps.specs.Reads.{joined_cells, read_from, seen_in}
use Rattle.log_text.specs.declared.lines.LogLine.{LogLine}
use Rattle.log_text.specs.declared.lines.LogLine.TheVariants as said
use Rattle.log_text.specs.declared.lines.SaidLine.{SaidLine}
use Rattle.log_text.specs.LogTexts.{entries_in, first_values, with_first}
use Rattle.log_text.specs.Splits.{address_in, boundaries, is_boundary, line_on_piece, pieces, piece_value, split_line}
use Rattle.log_text.proofs.FirstFacts.{last_counts, others_stay}
use Rattle.log_text.proofs.ReadingFacts.{first-push}
use Rattle.run_orders.specs.SplitLogs.{AreCutAt, IsFirstOfBytes, cell_at_first, first_cells_in}
use Rattle.log_text.proofs.PieceFacts.{ArePieces, IsPiece, one_piece, piece_sides, pieces_apart, pieces_are, pieces_stop}
use Rattle.run_orders.proofs.PieceReads.{piece_bytes, read_same, read_stored}
use Rattle.run_orders.proofs.Pieces.{inside_covered, outside_covered, wide_cells}

-- the last of the bytes that are said, or else the one before
abbrev pub last_of : ℕ → List ℕ → ℕ
last_of before bytes = fold (λ before byte. byte) before bytes

pub last-append : (before : ℕ) (xs ys : List ℕ) → last_of before (xs ++ ys) ≡ last_of (last_of before xs) ys
last-append before [] ys = refl
last-append before (x ∷ xs) ys = last-append x xs ys

one_after : (before : List LogLine) (line : LogLine) (lines : List LogLine) → before ++ line ∷ lines ≡ (before ++ line ∷ []) ++ lines
one_after before line lines = sym (append_assoc before (line ∷ []) lines)

-- what a line says that says no first value
first_nothing : (l : LogLine) → ((piece : ℕ × ℕ) → entries_in (line_on_piece l piece) ≡ []) → (before : List LogLine) (ps : List (ℕ × ℕ)) →
    first_values (before ++ map (line_on_piece l) ps) ≡ first_values before
first_nothing l none before [] = ap first_values (append-nil before)
first_nothing l none before (p ∷ ps) =
    ap first_values (one_after before (line_on_piece l p) (map (line_on_piece l) ps)) ∙ first_nothing l none (before ++ line_on_piece l p ∷ []) ps
    ∙ first-push before (line_on_piece l p) ∙ ap (fold with_first (first_values before)) (none p)

module _ (bs : List ℕ) (start count : ℕ) (piece : IsPiece bs start count) where
  -- first values of pieces elsewhere
  first_elsewhere : (a v from stop : ℕ) (before : List LogLine) (ps : List (ℕ × ℕ)) → ArePieces bs from stop ps → (start < from) ⊎ (stop ≤ start) →
      first_value (first_values (before ++ map (line_on_piece (said.First a v)) ps)) start ≡ first_value (first_values before) start
  first_elsewhere a v from stop before [] are out = ap (λ lines. first_value (first_values lines) start) (append-nil before)
  first_elsewhere a v from stop before (p ∷ ps) are out =
      let most = pieces_stop bs (p.0 + p.1) stop ps are.2 in
      let line = line_on_piece (said.First a v) p in
      let differs : start ≡ p.0 → ⊥ = λ same. elim out [ inl less ↦ omega (arith, same, less, are.0) | inr past ↦ omega (arith, same, past, most, are.1.some) ] in
      ap (λ lines. first_value (first_values lines) start) (one_after before line (map (line_on_piece (said.First a v)) ps))
      ∙ first_elsewhere a v (p.0 + p.1) stop (before ++ line ∷ []) ps are.2 (elim out [ inl less ↦ inl (omega (arith, less, are.0)) | inr past ↦ inr past ])
      ∙ others_stay before p.0 (piece_value a v p) start differs

  -- that of the piece here
  first_piece : (a v from stop : ℕ) (before : List LogLine) (ps : List (ℕ × ℕ)) → ArePieces bs from stop ps → from ≤ start → start < stop →
      first_value (first_values (before ++ map (line_on_piece (said.First a v)) ps)) start ≡ piece_value a v (start, count)
  first_piece a v from stop before [] are above below = absurd (omega (arith, above, below, are))
  first_piece a v from stop before (p ∷ ps) are above below =
      let line = line_on_piece (said.First a v) p in
      ap (λ lines. first_value (first_values lines) start) (one_after before line (map (line_on_piece (said.First a v)) ps))
      ∙ elim (cases_eq p.0 start) [
        | inl same ↦
            let counts : p.1 ≡ count = one_piece bs start p.1 count (subst (λ b. IsPiece bs b p.1) same are.1) piece in
            first_elsewhere a v (p.0 + p.1) stop (before ++ line ∷ []) ps are.2 (inl (omega (arith, same, are.1.some)))
            ∙ ap (first_value (first_values (before ++ line ∷ []))) (sym same) ∙ last_counts before p.0 (piece_value a v p)
            ∙ ap (λ b. piece_value a v (b, p.1)) same ∙ ap (λ n. piece_value a v (start, n)) counts
        | inr differs ↦
            first_piece a v (p.0 + p.1) stop (before ++ line ∷ []) ps are.2 (pieces_apart bs p.0 p.1 start count are.1 piece (omega (arith, are.0, above, differs))) below
      ]

  -- the bytes of the piece, so, are what the lines say of it
  abbrev IsFirst : (ℕ → ℕ) → List LogLine → Type 0
  IsFirst byte before = read_from 1 (λ b. seen_in (First (byte b))) start count ≡ Some (first_value (first_values before) start)

  -- the same after one more line
  abbrev next_byte : (ℕ → ℕ) → LogLine → ℕ → ℕ → ℕ
  next_byte byte l width b = last_of (byte b) (first_cells_in b l width)

  first_said : (byte : ℕ → ℕ) (before : List LogLine) (a v width : ℕ) → 0 < width → is_boundary bs a ≡ true → is_boundary bs (a + width) ≡ true → IsFirst byte before →
      IsFirst (next_byte byte (said.First a v) width) (before ++ map (line_on_piece (said.First a v)) (pieces bs a width))
  first_said byte before a v width wide first last is =
      let are = pieces_are bs a width wide first last in
      let stop = a + width in
      let cells = wide_cells width wide in
      elim (piece_sides bs start count a stop piece first last) [
        | inl after ↦ beside (λ b from below. inr (omega (arith, after, from, cells))) (inr after)
        | inr other ↦ elim other [
          | inl past ↦ beside (λ b from below. inl (omega (arith, past, below))) (inl (omega (arith, past, piece.some)))
          | inr inside ↦
              read_stored (λ b. seen_in (First (next_byte byte (said.First a v) width b))) width wide a v start count inside.0 inside.1
              (λ b from below.
              ap (λ t. Some (last_of (byte b) (cond t (get_or (parts_from width (cells_of width) v) (b - a) 0 ∷ []) []))) (inside_covered a (cells_of width) b from (omega (arith, below, cells)))
              ∙ ap (λ n. Some (get_or (parts_from width n v) (b - a) 0)) cells)
              ∙ ap Some (sym (piece_bytes a v start count piece.some)) ∙ ap Some (sym (first_piece a v a stop before (pieces bs a width) are inside.0 (omega (arith, inside.1, piece.some))))
        ]
      ]
    where
      beside : ((b : ℕ) → start ≤ b → b < start + count → (b < a) ⊎ (a + cells_of width ≤ b)) → (start < a) ⊎ (a + width ≤ start) →
          IsFirst (next_byte byte (said.First a v) width) (before ++ map (line_on_piece (said.First a v)) (pieces bs a width))
      beside out side =
          read_same (λ b. seen_in (First (next_byte byte (said.First a v) width b))) (λ b. seen_in (First (byte b))) start count
          (λ b from below.
          ap (λ t. seen_in (First (last_of (byte b) (cond t (get_or (parts_from width (cells_of width) v) (b - a) 0 ∷ []) [])))) (outside_covered a (cells_of width) b (out b from below)))
          ∙ is ∙ ap Some (sym (first_elsewhere a v a (a + width) before (pieces bs a width) (pieces_are bs a width wide first last) side))

  first_silent : (byte : ℕ → ℕ) (before : List LogLine) (l : LogLine) (ps : List (ℕ × ℕ)) → ((piece : ℕ × ℕ) → entries_in (line_on_piece l piece) ≡ []) → IsFirst byte before →
      IsFirst byte (before ++ map (line_on_piece l) ps)
  first_silent byte before l ps none is = is ∙ ap (λ entries. Some (first_value entries start)) (sym (first_nothing l none before ps))

  first_next : (byte : ℕ → ℕ) (before : List LogLine) (l : LogLine) (width : ℕ) → IsFirstOfBytes l width → AllByRecursion (λ b. is_boundary bs b ≡ true) (boundaries (address_in l) width) →
      IsFirst byte before → IsFirst (next_byte byte l width) (before ++ map (line_on_piece l) (pieces bs (address_in l) width))
  first_next byte before said.Note width wide cut is = first_silent byte before said.Note (pieces bs 0 width) (λ piece. refl) is
  first_next byte before said.Pso width wide cut is = first_silent byte before said.Pso (pieces bs 0 width) (λ piece. refl) is
  first_next byte before (said.First a v) zero wide cut is = absurd (omega (arith, wide))
  first_next byte before (said.First a v) (suc more) wide cut is = first_said byte before a v (suc more) wide cut.0 cut.1.0 is
  first_next byte before (said.Issued p x) width wide cut is = first_silent byte before (said.Issued p x) (pieces bs (address_in (said.Issued p x)) width) (λ piece. refl) is
  first_next byte before (said.Unknown p a) width wide cut is = first_silent byte before (said.Unknown p a) (pieces bs a width) (λ piece. refl) is
  first_next byte before said.Memory width wide cut is = first_silent byte before said.Memory (pieces bs 0 width) (λ piece. refl) is
  first_next byte before said.End width wide cut is = first_silent byte before said.End (pieces bs 0 width) (λ piece. refl) is

  first_all : (lines : List SaidLine) (byte : ℕ → ℕ) (before : List LogLine) → AllByRecursion (λ x. IsFirstOfBytes x.line x.width) lines → AreCutAt bs lines → IsFirst byte before →
      IsFirst (λ b. last_of (byte b) (flat_map (λ x. first_cells_in b x.line x.width) lines)) (before ++ flat_map (split_line bs) lines)
  first_all [] byte before wide cut is = is ∙ ap (λ lines. Some (first_value (first_values lines) start)) (sym (append-nil before))
  first_all (x ∷ lines) byte before wide cut is =
      let rest = first_all lines (next_byte byte x.line x.width) (before ++ split_line bs x) wide.1 cut.1 (first_next byte before x.line x.width wide.0 cut.0 is) in
      read_same (λ b. seen_in (First (last_of (byte b) (flat_map (λ y. first_cells_in b y.line y.width) (x ∷ lines)))))
      (λ b. seen_in (First (last_of (next_byte byte x.line x.width b) (flat_map (λ y. first_cells_in b y.line y.width) lines)))) start count
      (λ b from below. ap (λ n. seen_in (First n)) (last-append (byte b) (first_cells_in b x.line x.width) (flat_map (λ y. first_cells_in b y.line y.width) lines)))
      ∙ rest ∙ ap (λ ls. Some (first_value (first_values ls) start)) (append_assoc before (split_line bs x) (flat_map (split_line bs) lines))

  none_first : (a n : ℕ) → read_from 1 (λ b. seen_in (First 0)) a n ≡ Some 0
  none_first a zero = refl
  none_first a (suc n) = ap (λ above. joined_cells 1 (seen_in (First 0)) above) (none_first (a + 1) n)

  -- what the bytes of the piece are at first is the first value of its location
  pub first_same : (lines : List SaidLine) → AllByRecursion (λ x. IsFirstOfBytes x.line x.width) lines → AreCutAt bs lines →
      read_from 1 (λ b. seen_in (First (cell_at_first lines b))) start count ≡ Some (first_value (first_values (flat_map (split_line bs) lines)) start)
  first_same lines wide cut = first_all lines (λ b. 0) [] wide cut (none_first start count)
