-- Lemmas on the lines from which the operations of a log come.
use Rattle.std.proofs.Common.{◌≡◌, ◌∙◌, ℕ, suc, ◌+◌, ◌^◌, ◌<◌, true, false, eqb, List, [], ◌∷◌, ◌++◌, length, map, get_or, Ok, Err, refl, sym, ap, subst, arith, append_assoc, append-nil}
use Rattle.std.specs.Prelude.{cond, nat_lt, replicate}
use Rattle.std.specs.List.{count_by}
use Rattle.std.proofs.lemmas.List.Sums.{sum_by-append, sum_by-cons}
use Rattle.std.specs.HashSet.{keys}
use Rattle.std.proofs.lemmas.List.{length_push, length-map}
use Rattle.line_text.specs.Lines.{parts_of}
use Rattle.line_text.proofs.CutFacts.{split_parts}
use Rattle.tso_text.specs.declared.faults.Why.{Why}
use Rattle.log_text.specs.declared.cutting.Cutting.{Cutting}
use Rattle.log_text.specs.declared.lines.SaidLine.{SaidLine}
use Rattle.log_text.specs.declared.origins.Origins.{Origins}
use Rattle.log_text.specs.LogLines.{line_said}
use Rattle.log_text.specs.LogTexts.{places_of_text}
use Rattle.log_text.specs.Origins.{AreOriginsOf, is_cut, numbers_of_pieces}
use Rattle.log_text.specs.Splits.{address_in, boundaries_of_lines, has_bytes, is_boundary, line_on_piece, pieces, split_line}
use Rattle.log_text.specs.Internal.Cuts.{AreTextsSaid, CutsText, IsWithin}
use Rattle.log_text.proofs.CutFacts.{said_more, same_texts, never_refused}
use Rattle.log_text.proofs.SplitFacts.{alike_pieces}
use Rattle.log_text.proofs.TextFacts.{more_within, same_said, split_last}

-- The origins are those of the lines before `rest`.
pub record AreOriginsSoFar (text : List ℕ) (cutting : Cutting) (rest : List ℕ) (origins : Origins) : Type 0 where
  pub texts : List (List ℕ)
  pub whole : parts_of text ≡ texts ++ parts_of rest
  pub said : map (line_said cutting.places) texts ≡ map Ok origins.said.items
  pub within : (k : ℕ) (d : SaidLine) → k < length origins.said.items → IsWithin (get_or origins.said.items k d)
  pub numbers : origins.lines.items ≡ numbers_of_pieces (keys cutting.boundaries) 1 origins.said.items
  pub cut : origins.cut ≡ count_by (is_cut (keys cutting.boundaries)) origins.said.items

pub origins_none : (text : List ℕ) (cutting : Cutting) (origins : Origins) → origins.said.items ≡ [] → origins.lines.items ≡ [] → origins.cut ≡ 0 → AreOriginsSoFar text cutting text origins
origins_none text cutting origins said lines cut = record {
  texts = [];
  whole = refl;
  said = sym (ap (map Ok) said);
  within = λ k d low. absurd (let none = ap length said in omega (arith, low, none));
  numbers = lines ∙ sym (ap (numbers_of_pieces (keys cutting.boundaries) 1) said);
  cut = cut ∙ sym (ap (count_by (is_cut (keys cutting.boundaries))) said);
}

numbers_more : (cuts : List ℕ) (number : ℕ) (lines : List SaidLine) (s : SaidLine) →
    numbers_of_pieces cuts number (lines ++ s ∷ []) ≡ numbers_of_pieces cuts number lines ++ replicate (length (split_line cuts s)) (number + length lines)
numbers_more cuts number [] s = append-nil (replicate (length (split_line cuts s)) number) ∙ ap (replicate (length (split_line cuts s))) (omega arith)
numbers_more cuts number (first ∷ lines) s =
    let place : suc number + length lines ≡ number + length (first ∷ lines) = omega arith in
    ap (λ xs. replicate (length (split_line cuts first)) number ++ xs) (numbers_more cuts (suc number) lines s)
    ∙ sym (append_assoc (replicate (length (split_line cuts first)) number) (numbers_of_pieces cuts (suc number) lines) (replicate (length (split_line cuts s)) (suc number + length lines)))
    ∙ ap (λ n. numbers_of_pieces cuts number (first ∷ lines) ++ replicate (length (split_line cuts s)) n) place

count_more : (cuts : List ℕ) (lines : List SaidLine) (s : SaidLine) → count_by (is_cut cuts) (lines ++ s ∷ []) ≡ count_by (is_cut cuts) lines + cond (is_cut cuts s) 1 0
count_more cuts lines s = sum_by-append (λ (x : SaidLine). cond (is_cut cuts x) 1 0) lines (s ∷ []) ∙ ap (λ n. count_by (is_cut cuts) lines + n) (omega arith)

pub origins_more : (text : List ℕ) (cutting : Cutting) (rest part after : List ℕ) (old new : Origins) (s : SaidLine) → AreOriginsSoFar text cutting rest old →
    parts_of rest ≡ part ∷ parts_of after → line_said cutting.places part ≡ Ok s → IsWithin s → new.said.items ≡ old.said.items ++ s ∷ [] →
    new.lines.items ≡ old.lines.items ++ replicate (length (pieces (keys cutting.boundaries) (address_in s.line) s.width)) (length new.said.items) →
    new.cut ≡ old.cut + cond (is_cut (keys cutting.boundaries) s) 1 0 → AreOriginsSoFar text cutting after new
origins_more text cutting rest part after old new s g cut says within said lines counted =
    let cuts = keys cutting.boundaries in
    let count : length (pieces cuts (address_in s.line) s.width) ≡ length (split_line cuts s) = sym (length-map (pieces cuts (address_in s.line) s.width) (line_on_piece s.line)) in
    let number : length new.said.items ≡ 1 + length old.said.items = omega (arith, ap length said, length_push old.said.items s) in
    record {
      texts = g.texts ++ part ∷ [];
      whole = g.whole ∙ ap (λ x. g.texts ++ x) cut ∙ sym (append_assoc g.texts (part ∷ []) (parts_of after));
      said = said_more cutting.places g.texts old.said.items part s g.said says ∙ ap (map Ok) (sym said);
      within = λ k d low. subst (λ xs. IsWithin (get_or xs k d)) (sym said) (more_within old.said.items s g.within within k d (subst (λ xs. k < length xs) said low));
      numbers = lines ∙ ap (λ n. old.lines.items ++ replicate n (length new.said.items)) count ∙ ap (λ n. old.lines.items ++ replicate (length (split_line cuts s)) n) number
          ∙ ap (λ xs. xs ++ replicate (length (split_line cuts s)) (1 + length old.said.items)) g.numbers ∙ sym (numbers_more cuts 1 old.said.items s) ∙ ap (numbers_of_pieces cuts 1) (sym said);
      cut = counted ∙ ap (λ n. n + cond (is_cut cuts s) 1 0) g.cut ∙ sym (count_more cuts old.said.items s) ∙ ap (count_by (is_cut cuts)) (sym said);
    }

numbers_alike : (one other : List ℕ) → ((b : ℕ) → b < 2 ^ 64 → is_boundary one b ≡ is_boundary other b) → (number : ℕ) (lines : List SaidLine) →
    ((k : ℕ) (d : SaidLine) → k < length lines → IsWithin (get_or lines k d)) → numbers_of_pieces one number lines ≡ numbers_of_pieces other number lines
numbers_alike one other alike number [] within = refl
numbers_alike one other alike number (s ∷ lines) within =
    ap (λ qs. replicate (length (map (line_on_piece s.line) qs)) number ++ numbers_of_pieces one (suc number) lines) (alike_pieces one other alike (address_in s.line) s.width (within 0 s (omega arith)))
    ∙ ap (λ xs. replicate (length (split_line other s)) number ++ xs) (numbers_alike one other alike (suc number) lines (λ k d low. within (suc k) d (omega (arith, low))))

count_alike : (one other : List ℕ) → ((b : ℕ) → b < 2 ^ 64 → is_boundary one b ≡ is_boundary other b) → (lines : List SaidLine) →
    ((k : ℕ) (d : SaidLine) → k < length lines → IsWithin (get_or lines k d)) → count_by (is_cut one) lines ≡ count_by (is_cut other) lines
count_alike one other alike [] within = refl
count_alike one other alike (s ∷ lines) within =
    sum_by-cons (λ (x : SaidLine). cond (is_cut one x) 1 0) s lines
    ∙ ap (λ qs. cond (nat_lt 1 (length qs)) 1 0 + count_by (is_cut one) lines) (alike_pieces one other alike (address_in s.line) s.width (within 0 s (omega arith)))
    ∙ ap (λ n. cond (is_cut other s) 1 0 + n) (count_alike one other alike lines (λ k d low. within (suc k) d (omega (arith, low))))
    ∙ sym (sum_by-cons (λ (x : SaidLine). cond (is_cut other x) 1 0) s lines)

pub origins_all : (text : List ℕ) (cutting : Cutting) (rest : List ℕ) (origins : Origins) → CutsText cutting text → has_bytes cutting.places ≡ true →
    AreOriginsSoFar text cutting rest origins → parts_of rest ≡ rest ∷ [] → AreOriginsOf text origins
origins_all text cutting rest origins cuts bytes g cut log spells =
    let here : has_bytes (places_of_text text) ≡ true = ap has_bytes (sym cuts.places) ∙ bytes in
    let said : map (line_said cutting.places) spells.texts ≡ map Ok spells.lines = ap (λ p. map (line_said p) spells.texts) cuts.places ∙ spells.said.said in
    let are : AreTextsSaid cutting.places (parts_of text) spells.lines = record { texts = spells.texts; whole = spells.whole; said = said } in
    let texts : spells.texts ≡ g.texts = same_texts spells.texts g.texts [] rest (sym spells.whole ∙ g.whole ∙ ap (λ x. g.texts ++ x) cut) in
    let equal : origins.said.items ≡ spells.lines = same_said origins.said.items spells.lines (sym g.said ∙ ap (map (line_said cutting.places)) (sym texts) ∙ said) in
    let within = subst (λ (ls : List SaidLine). (k : ℕ) (d : SaidLine) → k < length ls → IsWithin (get_or ls k d)) equal g.within in
    let mine = keys cutting.boundaries in
    let all = boundaries_of_lines cutting.places spells.lines in
    let alike = cuts.boundaries spells.lines are in (
      equal ∙ sym (rw here refl),
      g.numbers ∙ ap (numbers_of_pieces mine 1) equal ∙ numbers_alike mine all alike 1 spells.lines within
          ∙ ap (λ p. numbers_of_pieces (boundaries_of_lines p spells.lines) 1 spells.lines) cuts.places ∙ sym (rw here refl),
      g.cut ∙ ap (count_by (is_cut mine)) equal ∙ count_alike mine all alike spells.lines within
          ∙ ap (λ p. count_by (is_cut (boundaries_of_lines p spells.lines)) spells.lines) cuts.places ∙ sym (rw here refl),
    )

-- a text of locations has none
pub origins_of_locations : (text : List ℕ) (cutting : Cutting) (origins : Origins) → CutsText cutting text → has_bytes cutting.places ≡ false →
    origins.said.items ≡ [] → origins.lines.items ≡ [] → origins.cut ≡ 0 → AreOriginsOf text origins
origins_of_locations text cutting origins cuts other said lines cut log spells =
    let here : has_bytes (places_of_text text) ≡ false = ap has_bytes (sym cuts.places) ∙ other in
    (said ∙ sym (rw here refl), lines ∙ sym (rw here refl), cut ∙ sym (rw here refl))

-- a text with a line that is refused spells none
pub origins_refused : (text : List ℕ) (cutting : Cutting) (rest part after : List ℕ) (origins : Origins) (why : Why) → CutsText cutting text →
    AreOriginsSoFar text cutting rest origins → parts_of rest ≡ part ∷ parts_of after → line_said cutting.places part ≡ Err why → AreOriginsOf text origins
unfolding parts_of
origins_refused text cutting rest part after origins why cuts g cut refused log spells =
    let p = split_parts (λ b. eqb b 10) after in
    let said : map (line_said cutting.places) spells.texts ≡ map Ok spells.lines = ap (λ q. map (line_said q) spells.texts) cuts.places ∙ spells.said.said in
    let whole : spells.texts ++ [] ∷ [] ≡ g.texts ++ part ∷ p.0 ∷ p.1 = sym spells.whole ∙ g.whole ∙ ap (λ x. g.texts ++ x) (cut ∙ ap (λ x. part ∷ x) p.2) in
    let at = split_last spells.texts g.texts p.1 [] part p.0 whole in
    absurd (never_refused cutting.places g.texts part at.0 origins.said.items spells.lines why g.said (ap (map (line_said cutting.places)) (sym at.1) ∙ said) refused)
