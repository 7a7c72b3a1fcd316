-- Lemmas on cutting a slice at the first of a byte.
use Rattle.std.proofs.Common.{◌≡◌, ℕ, ◌+◌, ◌<◌, Bool, true, false, cond, not, ◌&&◌, ltb, eqb, List, [], ◌∷◌, length, take, drop, Option, Some, None, refl, ap, sym, ◌∙◌, arith, Bor, ⊎_elim, ◌⊎◌, inl, inr, ◌++◌}
use Rattle.std.specs.List.{slice_split, join_with_byte, onto_first, position, position_or_len}
use Rattle.std.proofs.lemmas.Bool.Decides.{nat_tests}
use Rattle.std.proofs.lemmas.List.Splits.{slice_split_first, slice_split_none, join_with_byte-slice_split, slice_split-cons_yes, slice_split-cons_no}
use Rattle.std.proofs.lemmas.List.Sums.{fails_before_first}
use Rattle.line_text.specs.Lines.{SomeToken, tokens_after, tokens_of, parts_of, is_empty}

some_place : (b : Bool) (n i : ℕ) → cond b (Some n) None ≡ Some i → (b ≡ true) × (n ≡ i)
some_place true n i e = (refl, cc)
some_place false n i e = absurd cc

none_place : (b : Bool) (n : ℕ) → cond b (Some n) None ≡ None → b ≡ false
none_place true n e = absurd cc
none_place false n e = refl

-- the first part ends at the first element that passes
pub split_found : {X : Type 0} (p : X → Bool) (xs : List X) (i : ℕ) (d : X) → position p xs ≡ Some i → slice_split p xs ≡ take i xs ∷ slice_split p (drop (i + 1) xs)
split_found p xs i d at =
    let place = some_place (ltb (position_or_len p xs) (length xs)) (position_or_len p xs) i at in
    let passes = place.0 in
    let inside : position_or_len p xs < length xs = grind (arith, nat_tests) in
    rw (← place.1) (slice_split_first p xs d inside)

-- where none passes the list is the one part
pub split_missing : {X : Type 0} (p : X → Bool) (xs : List X) → position p xs ≡ None → slice_split p xs ≡ xs ∷ []
split_missing p xs at =
    let past = none_place (ltb (position_or_len p xs) (length xs)) (position_or_len p xs) at in
    let whole : (k : ℕ) → k < length xs → k < position_or_len p xs = λ k inside. grind (arith, nat_tests) in
    slice_split_none p xs (λ k d inside. fails_before_first p xs k d (whole k inside))

onto_first_parts : {X : Type 0} (x : X) (parts : List (List X)) → (first : List X) × (others : List (List X)) × (onto_first x parts ≡ first ∷ others)
onto_first_parts x [] = (x ∷ [], [], refl)
onto_first_parts x (part ∷ parts) = (x ∷ part, parts, refl)

-- there is always a part
pub split_parts : {X : Type 0} (p : X → Bool) (xs : List X) → (first : List X) × (others : List (List X)) × (slice_split p xs ≡ first ∷ others)
split_parts p [] = ([], [], refl)
split_parts p (x ∷ xs) = elim (p x) as (λ b. (first : List _) × (others : List (List _)) × (cond b ([] ∷ slice_split p xs) (onto_first x (slice_split p xs)) ≡ first ∷ others))
    [ true ↦ ([], slice_split p xs, refl) | false ↦ onto_first_parts x (slice_split p xs) ]

-- there is a token after a space
pub tokens_after_some : (tokens : Option (Bor (List ℕ))) (rest : Bor (List ℕ)) → tokens ≡ Some rest → SomeToken (tokens_after tokens)
unfolding tokens_of
tokens_after_some tokens rest is =
    let p = split_parts (λ b. eqb b 32) rest.now in
    rw is record { first = p.0; others = p.1; parts = p.2 }

-- bytes leave a part that isn't empty
pub some_part : (tokens_after first : List ℕ) (others : List (List ℕ)) → slice_split (λ b. eqb b 10) tokens_after ≡ first ∷ others → (length tokens_after ≡ 0 → ⊥) → not (is_empty others && is_empty first) ≡ true
some_part tokens_after [] [] parts some = absurd (some (ap length (sym (join_with_byte-slice_split 10 tokens_after) ∙ ap (join_with_byte 10) parts)))
some_part tokens_after (b ∷ first) [] parts some = refl
some_part tokens_after first (next ∷ others) parts some = refl

-- a text has no line, or a first one
pub record HasLine (text : List ℕ) : Type 0 where
  pub line : List ℕ
  pub rest : List ℕ
  pub parts : parts_of text ≡ line ∷ parts_of rest
  pub bytes : text ≡ line ++ 10 ∷ rest

pub first_line : (text : List ℕ) → (parts_of text ≡ text ∷ []) ⊎ HasLine text
unfolding parts_of
first_line [] = inl refl
first_line (b ∷ text) =
    ⊎_elim
    (λ (at : eqb b 10 ≡ true).
    let is : b ≡ 10 = grind (arith, nat_tests) in
    inr (record { line = []; rest = text; parts = slice_split-cons_yes (λ c. eqb c 10) b text at; bytes = ap (λ c. c ∷ text) is }))
    (λ (other : eqb b 10 ≡ false).
    ⊎_elim
    (λ (none : slice_split (λ c. eqb c 10) text ≡ text ∷ []). inl (slice_split-cons_no (λ c. eqb c 10) b text other ∙ ap (onto_first b) none))
    (λ (some : HasLine text). inr (record {
      line = b ∷ some.line;
      rest = some.rest;
      parts = slice_split-cons_no (λ c. eqb c 10) b text other ∙ ap (onto_first b) some.parts;
      bytes = ap (λ t. b ∷ t) some.bytes;
    }))
    (first_line text))
    (cases (eqb b 10))
  where
    cases : (c : Bool) → (c ≡ true) ⊎ (c ≡ false)
    cases true = inl refl
    cases false = inr refl
