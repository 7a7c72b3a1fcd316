-- Lemmas on the boundaries of a text, gathered line by line, and on the pieces that they cut.
use Rattle.std.proofs.Common.{◌≡◌, ◌∙◌, ℕ, suc, ◌+◌, ◌-◌, ◌*◌, ◌/◌, ◌%◌, ◌<◌, ◌≤◌, ◌^◌, ◌||◌, Bool, true, false, eqb, List, [], ◌∷◌, ◌++◌, map, Result, Ok, Err, refl, sym, ap, subst, arith, append_assoc, append-nil, lit≤}
use Rattle.std.specs.List.{flat_map, list_any}
use Rattle.std.proofs.Math.Nat.{div-div-eq-div-mul, mod-eq_of_lt, pow-le-pow_right, pow-suc}
use Rattle.std.specs.HashSet.{keys}
use Rattle.std.specs.HashSet.{HashSet}
use Rattle.std.specs.Prelude.{nat_eq}
use Rattle.std.proofs.lemmas.List.{map-append}
use Rattle.std.proofs.lemmas.List.Folds.{list_any-append}
use Rattle.line_text.specs.Lines.{parts_of}
use Rattle.line_text.proofs.CutFacts.{split_parts}
use Rattle.run_lines.specs.declared.arguments.Widths.{Widths}
use Rattle.run_lines.specs.declared.arguments.Widths.TheVariants.{Bytes}
use Rattle.tso_text.specs.declared.faults.Why.{Why}
use Rattle.log_text.specs.declared.lines.SaidLine.{SaidLine}
use Rattle.log_text.specs.LogLines.{line_said}
use Rattle.log_text.specs.Splits.{boundaries_in, boundaries_of_lines, is_boundary, pieces_from}
use Rattle.log_text.proofs.TextFacts.{said_ok, same_said, split_last}
use Rattle.log_text.specs.Internal.Cuts.{AreTextsSaid, HasBoundaries, HasMoreBoundaries}

-- ---- bytes of values

-- one byte less
pub above_next : (value left i : ℕ) → left ≡ value / 256 ^ i → left / 256 ≡ value / 256 ^ (i + 1)
above_next value left i is =
    let next : i + 1 ≡ suc i = omega arith in
    ap (λ n. n / 256) is ∙ div-div-eq-div-mul value (256 ^ i) 256 ∙ ap (λ n. value / n) (sym (ap (λ n. 256 ^ n) next ∙ pow-suc 256 i))

-- a power more
pub power_next : (bound next i : ℕ) → bound ≡ 256 ^ i → next ≡ bound * 256 → next ≡ 256 ^ (i + 1)
power_next bound next i is times =
    let more : i + 1 ≡ suc i = omega arith in
    times ∙ ap (λ n. n * 256) is ∙ sym (pow-suc 256 i) ∙ ap (λ n. 256 ^ n) (sym more)

-- a power isn't 0
pub power_some : (bound i : ℕ) → bound ≡ 256 ^ i → 0 < bound
power_some bound i is = let some : 256 ^ 0 ≤ 256 ^ i = pow-le-pow_right {n = 256} (lit≤ tt) {i = 0} {j = i} (omega arith) in omega (arith, is, some)

-- a value below a power is its own lowest bytes
pub whole_value : (value bound i count : ℕ) → bound ≡ 256 ^ i → i < count → value < bound * 256 → value ≡ value % 256 ^ count
whole_value value bound i count is low below =
    let one : bound * 256 ≡ 256 ^ suc i = ap (λ n. n * 256) is ∙ sym (pow-suc 256 i) in
    let two : 256 ^ suc i ≤ 256 ^ count = pow-le-pow_right (lit≤ tt) low in
    sym (mod-eq_of_lt (omega (arith, below, one, two)))

-- ---- pieces

-- one byte more that belongs to the piece before it
pub piece_grows : (cuts : List ℕ) (start count a more width : ℕ) (found all : List (ℕ × ℕ)) → more < width → is_boundary cuts (a + more) ≡ false →
    found ++ pieces_from cuts start count (a + more) (width - more) ≡ all → found ++ pieces_from cuts start (count + 1) (a + (more + 1)) (width - (more + 1)) ≡ all
unfolding pieces_from
piece_grows cuts start count a more width found all low other is =
    let left : width - more ≡ suc (width - (more + 1)) = omega (arith, low) in
    let one : pieces_from cuts start count (a + more) (width - more) ≡ pieces_from cuts start (suc count) (suc (a + more)) (width - (more + 1)) =
    ap (pieces_from cuts start count (a + more)) left ∙ rw other refl in
    let same : pieces_from cuts start (count + 1) (a + (more + 1)) (width - (more + 1)) ≡ pieces_from cuts start (suc count) (suc (a + more)) (width - (more + 1)) =
    let c : count + 1 ≡ suc count = omega arith in
    let b : a + (more + 1) ≡ suc (a + more) = omega arith in
    ap (λ n. pieces_from cuts start n (a + (more + 1)) (width - (more + 1))) c ∙ ap (λ n. pieces_from cuts start (suc count) n (width - (more + 1))) b in
    ap (λ xs. found ++ xs) (same ∙ sym one) ∙ is

-- one that begins a piece
pub piece_begins : (cuts : List ℕ) (start count a more width : ℕ) (found all : List (ℕ × ℕ)) → more < width → is_boundary cuts (a + more) ≡ true →
    found ++ pieces_from cuts start count (a + more) (width - more) ≡ all → (found ++ (start, count) ∷ []) ++ pieces_from cuts (a + more) 1 (a + (more + 1)) (width - (more + 1)) ≡ all
unfolding pieces_from
piece_begins cuts start count a more width found all low here is =
    let left : width - more ≡ suc (width - (more + 1)) = omega (arith, low) in
    let one : pieces_from cuts start count (a + more) (width - more) ≡ (start, count) ∷ pieces_from cuts (a + more) 1 (suc (a + more)) (width - (more + 1)) =
    ap (pieces_from cuts start count (a + more)) left ∙ rw here refl in
    let b : a + (more + 1) ≡ suc (a + more) = omega arith in
    append_assoc found ((start, count) ∷ []) (pieces_from cuts (a + more) 1 (a + (more + 1)) (width - (more + 1)))
    ∙ ap (λ n. found ++ (start, count) ∷ pieces_from cuts (a + more) 1 n (width - (more + 1))) b ∙ ap (λ xs. found ++ xs) (sym one) ∙ is

-- all bytes
pub pieces_end : (cuts : List ℕ) (start count a more width : ℕ) (found all : List (ℕ × ℕ)) → width ≤ more → found ++ pieces_from cuts start count (a + more) (width - more) ≡ all →
    found ++ (start, count) ∷ [] ≡ all
unfolding pieces_from
pieces_end cuts start count a more width found all high is =
    let none : width - more ≡ 0 = omega (arith, high) in
    ap (λ n. found ++ pieces_from cuts start count (a + more) n) (sym none) ∙ is

-- ---- gathering

-- The boundaries of the lines before `rest` are found: what all lines say begins with what these say.
pub record IsGathered {S : Type 0} (text rest : List ℕ) (found : HashSet ℕ S) : Type 0 where
  pub texts : List (List ℕ)
  pub lines : List SaidLine
  pub whole : parts_of text ≡ texts ++ parts_of rest
  pub said : map (line_said Bytes) texts ≡ map Ok lines
  pub has : HasBoundaries found (flat_map boundaries_in lines)

pub gathered_none : {S : Type 0} (text : List ℕ) (found : HashSet ℕ S) → keys found ≡ [] → IsGathered text text found
gathered_none text found none = record { texts = []; lines = []; whole = refl; said = refl; has = λ b low. ap (list_any (nat_eq b)) none }

any_more : (lines : List SaidLine) (s : SaidLine) (b : ℕ) → is_boundary (flat_map boundaries_in (lines ++ s ∷ [])) b ≡ (is_boundary (flat_map boundaries_in lines) b || is_boundary (boundaries_in s) b)
any_more [] s b = ap (λ bs. is_boundary bs b) (append-nil (boundaries_in s))
any_more (first ∷ lines) s b =
    list_any-append (nat_eq b) (boundaries_in first) (flat_map boundaries_in (lines ++ s ∷ [])) ∙ ap (λ x. is_boundary (boundaries_in first) b || x) (any_more lines s b)
    ∙ three (is_boundary (boundaries_in first) b) (is_boundary (flat_map boundaries_in lines) b) (is_boundary (boundaries_in s) b)
    ∙ ap (λ x. x || is_boundary (boundaries_in s) b) (sym (list_any-append (nat_eq b) (boundaries_in first) (flat_map boundaries_in lines)))
  where
    three : (x y z : Bool) → (x || (y || z)) ≡ ((x || y) || z)
    three true y z = refl
    three false y z = refl

pub said_more : (places : Widths) (texts : List (List ℕ)) (lines : List SaidLine) (text : List ℕ) (s : SaidLine) → map (line_said places) texts ≡ map Ok lines → line_said places text ≡ Ok s →
    map (line_said places) (texts ++ text ∷ []) ≡ map Ok (lines ++ s ∷ [])
said_more places texts lines text s said says =
    map-append (line_said places) texts (text ∷ []) ∙ ap (λ xs. xs ++ line_said places text ∷ []) said ∙ ap (λ r. map Ok lines ++ r ∷ []) says ∙ sym (map-append Ok lines (s ∷ []))

pub gathered_more : {S : Type 0} (text rest part after : List ℕ) (found new : HashSet ℕ S) (s : SaidLine) → IsGathered text rest found → parts_of rest ≡ part ∷ parts_of after →
    line_said Bytes part ≡ Ok s → HasMoreBoundaries found new (boundaries_in s) → IsGathered text after new
gathered_more text rest part after found new s g cut says more = record {
  texts = g.texts ++ part ∷ [];
  lines = g.lines ++ s ∷ [];
  whole = g.whole ∙ ap (λ x. g.texts ++ x) cut ∙ sym (append_assoc g.texts (part ∷ []) (parts_of after));
  said = said_more Bytes g.texts g.lines part s g.said says;
  has = λ b low. more b low ∙ ap (λ x. x || is_boundary (boundaries_in s) b) (g.has b low) ∙ sym (any_more g.lines s b);
}

-- ---- what all lines say

-- no line of them is refused
pub never_refused : (places : Widths) (texts : List (List ℕ)) (part : List ℕ) (after : List (List ℕ)) (lines all : List SaidLine) (why : Why) → map (line_said places) texts ≡ map Ok lines →
    map (line_said places) (texts ++ part ∷ after) ≡ map Ok all → line_said places part ≡ Err why → ⊥
never_refused places [] part after lines [] why said whole refused = absurd cc
never_refused places [] part after lines (first ∷ all) why said whole refused =
    let here : line_said places part ≡ said_ok first = cc in
    let both : ◌≡◌ {A = Result SaidLine Why} (Err why) (Ok first) = sym refused ∙ here in
    absurd cc
never_refused places (text ∷ texts) part after [] all why said whole refused = absurd cc
never_refused places (text ∷ texts) part after (line ∷ lines) [] why said whole refused = absurd cc
never_refused places (text ∷ texts) part after (line ∷ lines) (first ∷ all) why said whole refused = never_refused places texts part after lines all why (cc) (cc) refused

-- what stands before the last elements of equal lists
pub same_texts : {X : Type 0} (xs ys : List X) (x y : X) → xs ++ x ∷ [] ≡ ys ++ y ∷ [] → xs ≡ ys
same_texts [] [] x y e = refl
same_texts [] (b ∷ []) x y e = absurd cc
same_texts [] (b ∷ c ∷ ys) x y e = absurd cc
same_texts (a ∷ []) [] x y e = absurd cc
same_texts (a ∷ c ∷ xs) [] x y e = absurd cc
same_texts (a ∷ xs) (b ∷ ys) x y e =
    let head : a ≡ b = cc in
    let tail : xs ≡ ys = same_texts xs ys x y cc in
    cc

pub gathered_all : {S : Type 0} (text rest : List ℕ) (found : HashSet ℕ S) → IsGathered text rest found → parts_of rest ≡ rest ∷ [] → (lines : List SaidLine) →
    AreTextsSaid Bytes (parts_of text) lines → HasBoundaries found (boundaries_of_lines Bytes lines)
gathered_all text rest found g cut lines are =
    let same : are.texts ++ [] ∷ [] ≡ g.texts ++ rest ∷ [] = sym are.whole ∙ g.whole ∙ ap (λ x. g.texts ++ x) cut in
    let texts : are.texts ≡ g.texts = same_texts are.texts g.texts [] rest same in
    let equal : g.lines ≡ lines = same_said g.lines lines (sym g.said ∙ ap (map (line_said Bytes)) (sym texts) ∙ are.said) in
    subst (λ ls. HasBoundaries found (flat_map boundaries_in ls)) equal g.has

-- a text with a line that is refused says nothing
pub gathered_refused : {S : Type 0} (X : Type 0) (text rest part after : List ℕ) (found : HashSet ℕ S) (why : Why) → IsGathered text rest found → parts_of rest ≡ part ∷ parts_of after →
    line_said Bytes part ≡ Err why → (lines : List SaidLine) → AreTextsSaid Bytes (parts_of text) lines → X
unfolding parts_of
gathered_refused X text rest part after found why g cut refused lines are =
    let p = split_parts (λ b. eqb b 10) after in
    let whole : are.texts ++ [] ∷ [] ≡ g.texts ++ part ∷ p.0 ∷ p.1 = sym are.whole ∙ g.whole ∙ ap (λ x. g.texts ++ x) (cut ∙ ap (λ x. part ∷ x) p.2) in
    let at = split_last are.texts g.texts p.1 [] part p.0 whole in
    absurd (never_refused Bytes g.texts part at.0 g.lines lines why g.said (ap (map (line_said Bytes)) (sym at.1) ∙ are.said) refused)
