-- Lemmas on lines and the pieces of their places.
use Rattle.std.proofs.Common.{◌≡◌, ◌∙◌, ℕ, zero, suc, ◌+◌, ◌^◌, ◌<◌, ◌≤◌, ◌||◌, Bool, true, false, cond, List, [], ◌∷◌, ◌++◌, length, map, get_or, refl, sym, ap, subst, arith, append-nil, ⊎_elim}
use Rattle.std.specs.List.{list_any}
use Rattle.std.proofs.Math.Bool.{or-false}
use Rattle.std.proofs.lemmas.Bool.{cases_Bool}
use Rattle.std.proofs.lemmas.List.{length-append}
use Rattle.std.proofs.lemmas.List.Concat.{flat_map-append}
use Rattle.std.proofs.lemmas.List.Folds.{list_any-append}
use Rattle.log_text.specs.declared.lines.LogLine.{LogLine}
use Rattle.log_text.specs.declared.lines.LogLine.TheVariants.{Note, Pso, First, Issued, Unknown, Memory, End}
use Rattle.log_text.specs.declared.lines.SaidLine.{SaidLine}
use Rattle.log_text.specs.declared.logs.LogOperation.TheVariants.{Ld, St, Sw, Mb, Sb}
use Rattle.log_text.specs.LogTexts.{lines_told}
use Rattle.log_text.specs.Splits.{address_in, is_boundary, line_on_piece, pieces, pieces_from, split_line}
use Rattle.log_text.specs.Internal.Cuts.{IsWithin}
use Rattle.log_text.specs.declared.readings.Reading.{Reading}
use Rattle.log_text.specs.Internal.Readings.{HoldsLines, HoldsSaid, split_at}

-- ---- there is a piece

abbrev IsSome : {X : Type 0} → List X → Type 0
IsSome {X} xs = (x : X) × (rest : List X) × (xs ≡ x ∷ rest)

some_from : (boundaries : List ℕ) (start count b more : ℕ) → IsSome (pieces_from boundaries start count b more)
unfolding pieces_from
some_from boundaries start count b zero = ((start, count), [], refl)
some_from boundaries start count b (suc more) = ⊎_elim
    (λ (is : is_boundary boundaries b ≡ true). ((start, count), pieces_from boundaries b 1 (suc b) more, rw is refl))
    (λ (other : is_boundary boundaries b ≡ false). rw other (some_from boundaries start (suc count) (suc b) more))
    (cases_Bool (is_boundary boundaries b))

pub some_pieces : (boundaries : List ℕ) (a width : ℕ) → IsSome (pieces boundaries a width)
some_pieces boundaries a zero = ((a, 0), [], refl)
some_pieces boundaries a (suc more) = some_from boundaries a 1 (suc a) more

-- ---- what is so of a line is so of each piece

module _ (p : LogLine → Bool) (same : (line : LogLine) (piece : ℕ × ℕ) → p (line_on_piece line piece) ≡ p line) where
  any_pieces : (line : LogLine) (piece : ℕ × ℕ) (rest : List (ℕ × ℕ)) → list_any p (map (line_on_piece line) (piece ∷ rest)) ≡ p line
  any_pieces line piece [] = or-false (p (line_on_piece line piece)) ∙ same line piece
  any_pieces line piece (next ∷ rest) = ap (λ b. b || list_any p (map (line_on_piece line) (next ∷ rest))) (same line piece) ∙ ap (λ b. p line || b) (any_pieces line next rest) ∙ twice (p line)
    where
      twice : (b : Bool) → (b || b) ≡ b
      twice true = refl
      twice false = refl

  any_line : (boundaries : List ℕ) (s : SaidLine) → list_any p (split_line boundaries s) ≡ p s.line
  any_line boundaries s =
      let some = some_pieces boundaries (address_in s.line) s.width in
      ap (λ qs. list_any p (map (line_on_piece s.line) qs)) some.2 ∙ any_pieces s.line some.0 some.1

  pub any_split : (boundaries : List ℕ) (lines : List SaidLine) → list_any p (split_at boundaries lines) ≡ list_any p (lines_told lines)
  any_split boundaries [] = refl
  any_split boundaries (s ∷ lines) =
      list_any-append p (split_line boundaries s) (split_at boundaries lines) ∙ ap (λ b. b || list_any p (split_at boundaries lines)) (any_line boundaries s)
      ∙ ap (λ b. p s.line || b) (any_split boundaries lines)

-- ---- one line more

pub split_at-push : (boundaries : List ℕ) (lines : List SaidLine) (s : SaidLine) → split_at boundaries (lines ++ s ∷ []) ≡ split_at boundaries lines ++ split_line boundaries s
split_at-push boundaries lines s = flat_map-append (split_line boundaries) lines (s ∷ []) ∙ ap (λ xs. split_at boundaries lines ++ xs) (append-nil (split_line boundaries s))

-- what is held of the pieces of lines, and of those of one more
pub held_next : (new : Reading) (boundaries : List ℕ) (before : List SaidLine) (s : SaidLine) (number next : ℕ) → number ≡ suc (length (split_at boundaries before)) →
    next ≡ number + length (split_line boundaries s) → HoldsLines new (split_at boundaries before ++ split_line boundaries s) → HoldsSaid new boundaries (before ++ s ∷ []) next
held_next new boundaries before s number next numbered placed holds =
    let all = split_at-push boundaries before s in
    record {
      holds = subst (HoldsLines new) (sym all) holds;
      count = placed ∙ omega (arith, numbered, ap length all, length-append (split_at boundaries before) (split_line boundaries s));
    }

-- a place without a width is one piece
pub whole_line : (boundaries : List ℕ) (s : SaidLine) → s.width ≡ 0 → split_line boundaries s ≡ s.line ∷ []
whole_line boundaries s none = ap (λ w. map (line_on_piece s.line) (pieces boundaries (address_in s.line) w)) none ∙ ap (λ l. l ∷ []) (at_all s.line)
  where
    at_all : (line : LogLine) → line_on_piece line (address_in line, 0) ≡ line
    at_all Note = refl
    at_all Pso = refl
    at_all (First a v) = refl
    at_all (Issued p (Ld a r)) = refl
    at_all (Issued p (St a v)) = refl
    at_all (Issued p (Sw a r v)) = refl
    at_all (Issued p Mb) = refl
    at_all (Issued p Sb) = refl
    at_all (Unknown p a) = refl
    at_all Memory = refl
    at_all End = refl

-- ---- boundaries that agree

module _ (one other : List ℕ) (alike : (b : ℕ) → b < 2 ^ 64 → is_boundary one b ≡ is_boundary other b) where
  alike_from : (start count b more : ℕ) → b + more ≤ 2 ^ 64 → pieces_from one start count b more ≡ pieces_from other start count b more
  unfolding pieces_from
  alike_from start count b zero within = refl
  alike_from start count b (suc more) within =
      let low : suc b + more ≤ 2 ^ 64 = omega (arith, within) in
      ap (λ is. cond is ((start, count) ∷ pieces_from one b 1 (suc b) more) (pieces_from one start (suc count) (suc b) more)) (alike b (omega (arith, within)))
      ∙ ap (λ xs. cond (is_boundary other b) ((start, count) ∷ xs) (pieces_from one start (suc count) (suc b) more)) (alike_from b 1 (suc b) more low)
      ∙ ap (λ xs. cond (is_boundary other b) ((start, count) ∷ pieces_from other b 1 (suc b) more) xs) (alike_from start (suc count) (suc b) more low)

  pub alike_pieces : (a width : ℕ) → a + width ≤ 2 ^ 64 → pieces one a width ≡ pieces other a width
  alike_pieces a zero within = refl
  alike_pieces a (suc more) within = alike_from a 1 (suc a) more (omega (arith, within))

  pub alike_split : (lines : List SaidLine) → ((k : ℕ) (d : SaidLine) → k < length lines → IsWithin (get_or lines k d)) → split_at one lines ≡ split_at other lines
  alike_split [] within = refl
  alike_split (s ∷ lines) within =
      ap (λ qs. map (line_on_piece s.line) qs ++ split_at one lines) (alike_pieces (address_in s.line) s.width (within 0 s (omega arith)))
      ∙ ap (λ xs. split_line other s ++ xs) (alike_split lines (λ k d low. within (suc k) d (omega (arith, low))))
