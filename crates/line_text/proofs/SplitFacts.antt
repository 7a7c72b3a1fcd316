-- Lemmas on joined parts: a text that is joined of parts without the byte between them is cut into these parts.
use Rattle.std.proofs.Common.{◌≡◌, ℕ, ◌<◌, ◌/◌, ◌%◌, zero, suc, cond, ltb, Bool, true, false, eqb, List, [], ◌∷◌, ◌++◌, refl, ap, sym, ◌∙◌, subst, arith, inl, inr, ⊎_elim, ◌⊎◌, append_assoc}
use Rattle.std.specs.Char.{is_ascii_digit}
use Rattle.std.specs.Fmt.{decimal, digits, digits_onto, digit_glyph}
use Rattle.std.specs.List.{list_any, list_all, slice_split, onto_first, join_with_byte}
use Rattle.std.proofs.lemmas.Bool.{or_parts}
use Rattle.std.proofs.lemmas.Bool.Decides.{nat_tests}
use Rattle.std.proofs.lemmas.List.Splits.{slice_split-cons_yes, slice_split-cons_no}
use Rattle.line_text.specs.Lines.{line_text, parts_of, tokens_of}
use Rattle.line_text.proofs.NumberFacts.{and_parts}

-- the byte stands among these
abbrev pub has_byte : ℕ → List ℕ → Bool
has_byte c bytes = list_any (λ b. eqb b c) bytes

-- the byte stands in one of these parts
abbrev pub has_byte_in : ℕ → List (List ℕ) → Bool
has_byte_in c parts = list_any (has_byte c) parts

-- ---- cutting

-- the first part ends at the first element that passes
split_prefix : {X : Type 0} (p : X → Bool) (xs : List X) (y : X) (ys : List X) → list_any p xs ≡ false → p y ≡ true → slice_split p (xs ++ y ∷ ys) ≡ xs ∷ slice_split p ys
split_prefix p [] y ys none at = slice_split-cons_yes p y ys at
split_prefix p (x ∷ xs) y ys none at =
    let parts = or_parts (p x) (list_any p xs) none in
    slice_split-cons_no p x (xs ++ y ∷ ys) parts.0 ∙ ap (onto_first x) (split_prefix p xs y ys parts.1 at)

-- where none passes there is one part
split_whole : {X : Type 0} (p : X → Bool) (xs : List X) → list_any p xs ≡ false → slice_split p xs ≡ xs ∷ []
split_whole p [] none = refl
split_whole p (x ∷ xs) none =
    let parts = or_parts (p x) (list_any p xs) none in
    slice_split-cons_no p x xs parts.0 ∙ ap (onto_first x) (split_whole p xs parts.1)

same_byte : (c : ℕ) → eqb c c ≡ true
same_byte c = grind (arith, nat_tests)

-- a part, the byte, and what follows it
pub split_part : (c : ℕ) (part rest : List ℕ) → has_byte c part ≡ false → slice_split (λ b. eqb b c) (part ++ c ∷ rest) ≡ part ∷ slice_split (λ b. eqb b c) rest
split_part c part rest none = split_prefix (λ b. eqb b c) part c rest none (same_byte c)

-- parts without the byte, joined by it, are cut into these parts
pub split_joined : (c : ℕ) (part : List ℕ) (parts : List (List ℕ)) → has_byte_in c (part ∷ parts) ≡ false → slice_split (λ b. eqb b c) (join_with_byte c (part ∷ parts)) ≡ part ∷ parts
split_joined c part [] none = split_whole (λ b. eqb b c) part (or_parts (has_byte c part) false none).0
split_joined c part (next ∷ parts) none =
    let both = or_parts (has_byte c part) (has_byte_in c (next ∷ parts)) none in
    split_part c part (join_with_byte c (next ∷ parts)) both.0 ∙ ap (λ ps. part ∷ ps) (split_joined c next parts both.1)

-- ---- bytes

has_byte-append : (c : ℕ) (xs ys : List ℕ) → has_byte c xs ≡ false → has_byte c ys ≡ false → has_byte c (xs ++ ys) ≡ false
has_byte-append c [] ys none also = also
has_byte-append c (x ∷ xs) ys none also =
    let parts = or_parts (eqb x c) (has_byte c xs) none in
    rw parts.0 (has_byte-append c xs ys parts.1 also)

-- what is joined of parts without the byte has none, where another byte joins them
pub joined_without : (c d : ℕ) (parts : List (List ℕ)) → eqb d c ≡ false → has_byte_in c parts ≡ false → has_byte c (join_with_byte d parts) ≡ false
joined_without c d [] other none = refl
joined_without c d (part ∷ []) other none = (or_parts (has_byte c part) false none).0
joined_without c d (part ∷ next ∷ parts) other none =
    let both = or_parts (has_byte c part) (has_byte_in c (next ∷ parts)) none in
    has_byte-append c part (d ∷ join_with_byte d (next ∷ parts)) both.0 (rw other (joined_without c d (next ∷ parts) other both.1))

digit_other : (d c : ℕ) → is_ascii_digit d ≡ true → c < 48 → eqb d c ≡ false
digit_other d c digit low = grind (arith, nat_tests)

digits_without : (c : ℕ) (ds : List ℕ) → c < 48 → list_all is_ascii_digit ds ≡ true → has_byte c ds ≡ false
digits_without c [] low digits = refl
digits_without c (d ∷ ds) low digits =
    let parts = and_parts (is_ascii_digit d) (list_all is_ascii_digit ds) digits in
    rw (digit_other d c parts.0 low) (digits_without c ds low parts.1)

digit_glyph-digit : (d : ℕ) → d < 10 → is_ascii_digit (digit_glyph false d) ≡ true
digit_glyph-digit d low = let small : ltb d 10 ≡ true = grind (arith, nat_tests) in rw small (grind (arith, nat_tests))

digits_onto-digits : (k n : ℕ) (after : List ℕ) → list_all is_ascii_digit after ≡ true → list_all is_ascii_digit (digits_onto k 10 false n after) ≡ true
digits_onto-digits zero n after all = all
digits_onto-digits (suc k) n after all =
    let more : list_all is_ascii_digit (digit_glyph false (n % 10) ∷ after) ≡ true = rw (digit_glyph-digit (n % 10) (omega arith)) all in
    either (eqb (n / 10) 0) (digit_glyph false (n % 10) ∷ after) (digits_onto k 10 false (n / 10) (digit_glyph false (n % 10) ∷ after)) more (digits_onto-digits k (n / 10) (digit_glyph false (n % 10) ∷ after) more)
  where
    either : (b : Bool) (xs ys : List ℕ) → list_all is_ascii_digit xs ≡ true → list_all is_ascii_digit ys ≡ true → list_all is_ascii_digit (cond b xs ys) ≡ true
    either true xs ys all more = all
    either false xs ys all more = more

-- a number in decimal has digits alone
pub decimal_digits : (n : ℕ) → list_all is_ascii_digit (decimal n) ≡ true
unfolding digits
decimal_digits n = digits_onto-digits 64 n [] refl

-- and so none of the bytes below the digits
pub decimal_without : (c n : ℕ) → c < 48 → has_byte c (decimal n) ≡ false
decimal_without c n low = digits_without c (decimal n) low (decimal_digits n)

-- ---- lines of tokens

-- a byte that parts lines or tokens
pub IsBreak : ℕ → Type 0
IsBreak c = (c ≡ 10) ⊎ (c ≡ 32)

by_break : (P : ℕ → Type 0) (c : ℕ) → IsBreak c → P 10 → P 32 → P c
unfolding IsBreak
by_break P c is ten space = ⊎_elim (λ (e : c ≡ 10). subst P (sym e) ten) (λ (e : c ≡ 32). subst P (sym e) space) is

pub word_without : (c : ℕ) (word : List ℕ) → IsBreak c → has_byte 10 word ≡ false → has_byte 32 word ≡ false → has_byte c word ≡ false
word_without c word is ten space = by_break (λ d. has_byte d word ≡ false) c is ten space

pub number_without : (c n : ℕ) → IsBreak c → has_byte c (decimal n) ≡ false
number_without c n is = decimal_without c n (by_break (λ d. d < 48) c is (omega arith) (omega arith))

-- a line of these tokens is cut into just them, and ends at its line end
pub record IsCut (tokens : List (List ℕ)) : Type 0 where
  pub cut : tokens_of (join_with_byte 32 tokens) ≡ tokens
  pub parts : (rest : List ℕ) → parts_of (line_text tokens ++ rest) ≡ join_with_byte 32 tokens ∷ parts_of rest

pub cut_without : (first : List ℕ) (others : List (List ℕ)) → ((c : ℕ) → IsBreak c → has_byte_in c (first ∷ others) ≡ false) → IsCut (first ∷ others)
unfolding tokens_of parts_of IsBreak
cut_without first others none =
    let whole = join_with_byte 32 (first ∷ others) in
    let no_end : has_byte 10 whole ≡ false = joined_without 10 32 (first ∷ others) refl (none 10 (inl refl)) in
    record {
      cut = split_joined 32 first others (none 32 (inr refl));
      parts = λ rest. ap (slice_split (λ b. eqb b 10)) (append_assoc whole (10 ∷ []) rest) ∙ split_part 10 whole rest no_end;
    }
