-- First values of the cells of a piece, and that of the piece in the log of the pieces.
use Rattle.std.proofs.Common.{◌≡◌, ◌∙◌, ◌⊎◌, ℕ, ◌-◌, ◌/◌, ◌%◌, ◌^◌, eqb, cond, Bool, true, false, List, [], ◌∷◌, ◌++◌, map, inl, inr, refl, sym, ap, subst, arith}
use Rattle.std.specs.List.{AllByRecursion, flat_map, fold}
use Rattle.std.proofs.Math.Nat.{zero-div, zero-mod}
use Rattle.std.proofs.lemmas.Bool.{true≢false}
use Rattle.std.proofs.lemmas.List.Sums.{fold-append}
use Rattle.std.proofs.lemmas.List.Concat.{flat_map-append}
use Rattle.run_steps.specs.Widths.{low_part}
use Rattle.tso_ops.specs.Settings.{first_value}
use Rattle.log_text.specs.declared.lines.LogLine.{LogLine}
use Rattle.log_text.specs.declared.lines.LogLine.TheVariants.{Note, Pso, First, Issued, Unknown, Memory, End}
use Rattle.log_text.specs.declared.lines.SaidLine.{SaidLine}
use Rattle.log_text.specs.LogTexts.{entries_in, with_first}
use Rattle.log_text.specs.Splits.{address_in, pieces, piece_value, line_on_piece, split_line}
use Rattle.log_text.proofs.FirstFacts.{inserted, kept}
use Rattle.wide_orders.specs.WideOrders.{has_cell, cell_value, cell_after, names_place}
use Rattle.wide_orders.proofs.Members.{Has}
use Rattle.wide_orders.proofs.Pieces.{Ascend, IsPiece, IsPlace, IsWithin, pieces-ascend, piece_of, of_place, shared_within, first_of_piece, cell_within, one_piece, no_cell}
use Rattle.wide_orders.proofs.PieceValues.{IsKind}
use Rattle.wide_orders.proofs.SplitReads.{HasOneFirst, kind_of_place}

-- the first values of the pieces of a place
abbrev entry_of : ℕ → ℕ → ℕ × ℕ → ℕ × ℕ
entry_of a v piece = (piece.0, piece_value a v piece)

-- the first value of an address after those of pieces at other addresses
entries_elsewhere : (a v b : ℕ) (ps : List (ℕ × ℕ)) (es : List (ℕ × ℕ)) → ((piece : ℕ × ℕ) → Has ps piece → piece.0 ≡ b → ⊥) →
    first_value (fold with_first es (map (entry_of a v) ps)) b ≡ first_value es b
entries_elsewhere a v b [] es other = refl
entries_elsewhere a v b (piece ∷ ps) es other =
    entries_elsewhere a v b ps (with_first es (entry_of a v piece)) (λ next has. other next (inr has)) ∙ kept es piece.0 (piece_value a v piece) b (λ same. other piece (inl refl) (sym same))

-- and after that of a piece
entries_here : (a v : ℕ) (piece : ℕ × ℕ) (ps : List (ℕ × ℕ)) (es : List (ℕ × ℕ)) → Ascend ps → Has ps piece →
    first_value (fold with_first es (map (entry_of a v) ps)) piece.0 ≡ piece_value a v piece
entries_here a v piece [] es ascent none = absurd none
entries_here a v piece (first ∷ ps) es ascent (inl same) =
    entries_elsewhere a v piece.0 ps (with_first es (entry_of a v first))
    (λ next has is. (let low = ascent.0 next has in let one : first.0 ≡ piece.0 = ap (λ (p : ℕ × ℕ). p.0) same in omega (arith, low, is, one)))
    ∙ ap (λ (p : ℕ × ℕ). first_value (with_first es (entry_of a v p)) piece.0) same ∙ inserted es piece.0 (piece_value a v piece)
entries_here a v piece (first ∷ ps) es ascent (inr later) = entries_here a v piece ps (with_first es (entry_of a v first)) ascent.1 later

-- nothing is said of other lines
no_entries : (line : LogLine) → ((piece : ℕ × ℕ) → entries_in (line_on_piece line piece) ≡ []) → (ps : List (ℕ × ℕ)) → flat_map entries_in (map (line_on_piece line) ps) ≡ []
no_entries line none [] = refl
no_entries line none (piece ∷ ps) = ap (λ es. es ++ flat_map entries_in (map (line_on_piece line) ps)) (none piece) ∙ no_entries line none ps

-- what a line of first values says
its_entries : (a v : ℕ) (ps : List (ℕ × ℕ)) → flat_map entries_in (map (line_on_piece (First a v)) ps) ≡ map (entry_of a v) ps
its_entries a v [] = refl
its_entries a v (piece ∷ ps) = ap (λ es. entry_of a v piece ∷ es) (its_entries a v ps)

-- a place has the cell, or it doesn't
decided_cell : (a width c : ℕ) → (has_cell a width c ≡ true) ⊎ (has_cell a width c ≡ true → ⊥)
decided_cell a width c = by_test (has_cell a width c)
  where
    by_test : (b : Bool) → (b ≡ true) ⊎ (b ≡ true → ⊥)
    by_test true = inl refl
    by_test false = inr (λ is. true≢false (sym is))

module _ (bytes : Bool) (bs : List ℕ) (piece : ℕ × ℕ) (is_piece : IsPiece bytes bs piece) where
  -- first values before any line
  none_left : (t : Bool) (v : ℕ) → v ≡ 0 → cond t 0 v ≡ 0
  none_left true v none = refl
  none_left false v none = none

  -- a piece of 0 is 0
  start_value : (n k : ℕ) → piece_value n 0 (n, k) ≡ 0
  start_value n k = none_left (eqb k 0) ((0 / 256 ^ (n - n)) % 256 ^ k) (ap (λ m. m % 256 ^ k) (zero-div (256 ^ (n - n))) ∙ zero-mod (256 ^ k))

  -- and so is a cell
  start_cell : (width n c : ℕ) → 0 ≡ cell_value n width 0 c
  start_cell width n c = sym (ap (low_part width) (zero-div (256 ^ (c - n))) ∙ none_left (eqb width 0) (0 % 256) refl)

  -- a piece is as wide as its kind says
  piece_kind : (b : Bool) → IsPiece b bs piece → IsKind b piece.1
  piece_kind true is = is.some
  piece_kind false is = is

  -- all cells of the piece are 0 before the lines, and so is the piece
  start : HasOneFirst bytes (λ c. 0) 0 piece
  start = record {
    a = piece.0;
    width = piece.1;
    v = 0;
    kind = piece_kind bytes is_piece;
    within = (omega arith, omega arith);
    is = sym (start_value piece.0 piece.1);
    cells = λ c has. start_cell piece.1 piece.0 c;
  }

  -- a line changes the first values of all cells of the piece, or of none
  step : (first : ℕ → ℕ) (es : List (ℕ × ℕ)) (s : SaidLine) → (names_place s.line ≡ true → IsPlace bytes bs (address_in s.line) s.width) → HasOneFirst bytes first (first_value es piece.0) piece →
      HasOneFirst bytes (λ c. cell_after c (first c) s.width s.line) (first_value (fold with_first es (flat_map entries_in (split_line bs s))) piece.0) piece
  step first es s place before = by_line s.width s.line place
    where
      -- lines that say no first value
      silent : (width : ℕ) (line : LogLine) → ((p : ℕ × ℕ) → entries_in (line_on_piece line p) ≡ []) → ((c v : ℕ) → cell_after c v width line ≡ v) →
          HasOneFirst bytes (λ c. cell_after c (first c) width line) (first_value (fold with_first es (flat_map entries_in (map (line_on_piece line) (pieces bs (address_in line) width)))) piece.0) piece
      silent width line none same = record {
        a = before.a;
        width = before.width;
        v = before.v;
        kind = before.kind;
        within = before.within;
        is = ap (λ added. first_value (fold with_first es added) piece.0) (no_entries line none (pieces bs (address_in line) width)) ∙ before.is;
        cells = λ c has. same c (first c) ∙ before.cells c has;
      }

      -- a first value of a place
      said : (width a v : ℕ) → IsPlace bytes bs a width → (has_cell a width piece.0 ≡ true) ⊎ (has_cell a width piece.0 ≡ true → ⊥) →
          HasOneFirst bytes (λ c. cond (has_cell a width c) (cell_value a width v c) (first c)) (first_value (fold with_first es (flat_map entries_in (map (line_on_piece (First a v)) (pieces bs a width)))) piece.0) piece
      said width a v placed (inl has) =
          let within = shared_within bytes bs a width placed piece is_piece piece.0 (first_of_piece piece) has in
          record {
            a = a;
            width = width;
            v = v;
            kind = kind_of_place bytes bs a width placed;
            within = within;
            is = ap (λ added. first_value (fold with_first es added) piece.0) (its_entries a v (pieces bs a width))
                ∙ entries_here a v piece (pieces bs a width) es (pieces-ascend bs a width) (of_place bytes bs a width placed piece is_piece within);
            cells = λ c here. ap (λ b. cond b (cell_value a width v c) (first c)) (cell_within piece a width c within here);
          }
      said width a v placed (inr none) = record {
        a = before.a;
        width = before.width;
        v = before.v;
        kind = before.kind;
        within = before.within;
        is = ap (λ added. first_value (fold with_first es added) piece.0) (its_entries a v (pieces bs a width))
            ∙ entries_elsewhere a v piece.0 (pieces bs a width) es (λ other has same.
            let own = piece_of bytes bs a width placed other has in
            none (cell_within piece a width piece.0 (subst (λ p. IsWithin p a width) (one_piece bytes bs other piece own.0 is_piece same) own.1) (first_of_piece piece)))
            ∙ before.is;
        cells = λ c here.
            ap (λ b. cond b (cell_value a width v c) (first c)) (no_cell a width c (λ has.
            none (cell_within piece a width piece.0 (shared_within bytes bs a width placed piece is_piece c here has) (first_of_piece piece))))
            ∙ before.cells c here;
      }

      by_line : (width : ℕ) (line : LogLine) → (names_place line ≡ true → IsPlace bytes bs (address_in line) width) →
          HasOneFirst bytes (λ c. cell_after c (first c) width line) (first_value (fold with_first es (flat_map entries_in (map (line_on_piece line) (pieces bs (address_in line) width)))) piece.0) piece
      by_line width Note placed = silent width Note (λ p. refl) (λ c v. refl)
      by_line width Pso placed = silent width Pso (λ p. refl) (λ c v. refl)
      by_line width (First a v) placed = said width a v (placed refl) (decided_cell a width piece.0)
      by_line width (Issued p x) placed = silent width (Issued p x) (λ q. refl) (λ c v. refl)
      by_line width (Unknown p a) placed = silent width (Unknown p a) (λ q. refl) (λ c v. refl)
      by_line width Memory placed = silent width Memory (λ p. refl) (λ c v. refl)
      by_line width End placed = silent width End (λ p. refl) (λ c v. refl)

  -- what the lines have in front is in each line
  steps : (lines : List SaidLine) → AllByRecursion (λ (s : SaidLine). names_place s.line ≡ true → IsPlace bytes bs (address_in s.line) s.width) lines →
      (first : ℕ → ℕ) (es : List (ℕ × ℕ)) → HasOneFirst bytes first (first_value es piece.0) piece →
      HasOneFirst bytes (λ c. fold (λ v (s : SaidLine). cell_after c v s.width s.line) (first c) lines)
      (first_value (fold with_first es (flat_map entries_in (flat_map (split_line bs) lines))) piece.0) piece
  steps [] places first es before = before
  steps (s ∷ lines) places first es before =
      let more = steps lines places.1 (λ c. cell_after c (first c) s.width s.line) (fold with_first es (flat_map entries_in (split_line bs s))) (step first es s places.0 before) in
      let parts : fold with_first es (flat_map entries_in (flat_map (split_line bs) (s ∷ lines)))
      ≡ fold with_first (fold with_first es (flat_map entries_in (split_line bs s))) (flat_map entries_in (flat_map (split_line bs) lines)) =
      ap (fold with_first es) (flat_map-append entries_in (split_line bs s) (flat_map (split_line bs) lines))
      ∙ fold-append with_first es (flat_map entries_in (split_line bs s)) (flat_map entries_in (flat_map (split_line bs) lines)) in
      subst (λ added. HasOneFirst bytes (λ c. fold (λ v (x : SaidLine). cell_after c v x.width x.line) (first c) (s ∷ lines)) (first_value added piece.0) piece) (sym parts) more

  -- of all lines
  pub one_first : (lines : List SaidLine) → AllByRecursion (λ (s : SaidLine). names_place s.line ≡ true → IsPlace bytes bs (address_in s.line) s.width) lines →
      HasOneFirst bytes (λ c. fold (λ v (s : SaidLine). cell_after c v s.width s.line) 0 lines) (first_value (fold with_first [] (flat_map entries_in (flat_map (split_line bs) lines))) piece.0) piece
  one_first lines places = steps lines places (λ c. 0) [] start
