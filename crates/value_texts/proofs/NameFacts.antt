-- Lemmas on names as texts, and on the table of their numbers.
use Rattle.std.proofs.Common.{◌≡◌, ℕ, ◌+◌, ◌<◌, ◌^◌, Bool, true, false, cond, List, [], ◌∷◌, ◌++◌, length, Option, Some, None, refl, ap, sym, ◌∙◌, arith}
use Rattle.std.specs.Prelude.{codes, nat_lt}
use Rattle.std.specs.Fmt.{decimal}
use Rattle.std.specs.HashMap.{HashMap, get, Updates, IsEmpty}
use Rattle.std.specs.Str.{bytes_eq}
use Rattle.std.proofs.lemmas.Bool.{false≢true}
use Rattle.std.proofs.lemmas.Bool.Decides.{nat_tests}
use Rattle.std.proofs.lemmas.List.{append-nil, append_cancel_right}
use Rattle.std.proofs.lemmas.Slice.Eq.{bytes_eq-Decides}
use Rattle.line_text.specs.Numbers.{number}
use Rattle.line_text.proofs.NumberFacts.{and_parts, number-decimal}
use Rattle.line_text.proofs.SplitFacts.{has_byte, decimal_without}
use Rattle.value_texts.specs.declared.names.EventName.{EventName}
use Rattle.value_texts.specs.Names.{event_name_text}
use Rattle.value_texts.specs.Spelling.{has_token, event_named}
use Rattle.value_texts.specs.Internal.Tables.{name_key, same_key, number_of_key, HasNumbers}
use Rattle.value_texts.proofs.PositionFacts.{push-some, push-none, position_from-same, position_from-none}

-- ---- decimals with and without a prime

same_decimal : (m n : ℕ) → m < 2 ^ 64 → n < 2 ^ 64 → decimal m ≡ decimal n → m ≡ n
same_decimal m n low high is = let s : Some m ≡ Some n = sym (number-decimal m low) ∙ ap number is ∙ number-decimal n high in cc

pub has_prime : (bytes : List ℕ) → has_byte 39 (bytes ++ 39 ∷ []) ≡ true
has_prime [] = refl
has_prime (b ∷ bytes) = let more = has_prime bytes in grind (arith, nat_tests)

-- a decimal has no prime
pub no_prime : (n : ℕ) (bytes : List ℕ) → decimal n ≡ bytes ++ 39 ∷ [] → ⊥
no_prime n bytes is = false≢true (sym (decimal_without 39 n (omega arith)) ∙ ap (has_byte 39) is ∙ has_prime bytes)

-- names as pairs: a record is its fields
same_fields : (m n : EventName) → m.line ≡ n.line → m.is_swap_store ≡ n.is_swap_store → m ≡ n
same_fields m n line half = λ i. record { line = line i; is_swap_store = half i }

-- one text, one name
pub one_name : (m n : EventName) → m.line < 2 ^ 64 → n.line < 2 ^ 64 → event_name_text m ≡ event_name_text n → m ≡ n
one_name m n low high is = by m.is_swap_store n.is_swap_store refl refl
  where
    same : m.line ≡ n.line → m.is_swap_store ≡ n.is_swap_store → m ≡ n
    same = same_fields m n

    by : (a b : Bool) → m.is_swap_store ≡ a → n.is_swap_store ≡ b → m ≡ n
    by false false p q =
        let e : decimal m.line ++ [] ≡ decimal n.line ++ [] = rw (p, q) at is in
        same (same_decimal m.line n.line low high (append_cancel_right (decimal m.line) (decimal n.line) [] e)) (p ∙ sym q)
    by true true p q =
        let e : decimal m.line ++ codes "'" ≡ decimal n.line ++ codes "'" = rw (p, q) at is in
        same (same_decimal m.line n.line low high (append_cancel_right (decimal m.line) (decimal n.line) (codes "'") e)) (p ∙ sym q)
    by false true p q =
        let e : decimal m.line ++ [] ≡ decimal n.line ++ codes "'" = rw (p, q) at is in
        absurd (no_prime m.line (decimal n.line) (sym (append-nil (decimal m.line)) ∙ e))
    by true false p q =
        let e : decimal m.line ++ codes "'" ≡ decimal n.line ++ [] = rw (p, q) at is in
        absurd (no_prime n.line (decimal m.line) (sym (append-nil (decimal n.line)) ∙ sym e))

-- ---- keys

pub key_is : (u v : ℕ × ℕ) → same_key u v ≡ true → u ≡ v
key_is u v is = let first : u.0 ≡ v.0 = grind (arith, nat_tests) in let second : u.1 ≡ v.1 = grind (arith, nat_tests) in λ i. (first i, second i)

pub same_key-refl : (u : ℕ × ℕ) → same_key u u ≡ true
same_key-refl u = grind (arith, nat_tests)

-- names with one key are one
name_of_key : (m n : EventName) → name_key m ≡ name_key n → m ≡ n
name_of_key m n is = by m.is_swap_store n.is_swap_store refl refl
  where
    lines : m.line ≡ n.line
    lines = ap (λ (k : ℕ × ℕ). k.0) is

    half : EventName → ℕ
    half name = cond name.is_swap_store 1 0

    halves : half m ≡ half n
    halves = ap (λ (k : ℕ × ℕ). k.1) is

    by : (a b : Bool) → m.is_swap_store ≡ a → n.is_swap_store ≡ b → m ≡ n
    by false false p q = same_fields m n lines (p ∙ sym q)
    by true true p q = same_fields m n lines (p ∙ sym q)
    by false true p q = absurd (let e : 0 ≡ 1 = rw (p, q) at halves in omega (arith, e))
    by true false p q = absurd (let e : 1 ≡ 0 = rw (p, q) at halves in omega (arith, e))

-- the key of a name that a token spells is that of the names that have the token
token_key : (token : List ℕ) (n m : EventName) → token ≡ event_name_text n → n.line < 2 ^ 64 → has_token token m ≡ same_key (name_key n) (name_key m)
token_key token n m is low = by (has_token token m) (same_key (name_key n) (name_key m)) refl refl
  where
    by : (a b : Bool) → has_token token m ≡ a → same_key (name_key n) (name_key m) ≡ b → has_token token m ≡ same_key (name_key n) (name_key m)
    by true true p q = p ∙ sym q
    by false false p q = p ∙ sym q
    by true false p q =
        let parts = and_parts (nat_lt m.line (2 ^ 64)) (bytes_eq (event_name_text m) token) p in
        let fits : m.line < 2 ^ 64 = (let t = parts.0 in grind (arith, nat_tests)) in
        let same : m ≡ n = one_name m n fits low ((bytes_eq-Decides (event_name_text m) token).0 parts.1 ∙ is) in
        absurd (false≢true (sym q ∙ ap (λ o. same_key (name_key n) (name_key o)) same ∙ same_key-refl (name_key n)))
    by false true p q =
        let same : n ≡ m = name_of_key n m (key_is (name_key n) (name_key m) q) in
        let test : nat_lt n.line (2 ^ 64) ≡ true = grind (arith, nat_tests) in
        let text : bytes_eq (event_name_text n) token ≡ true = (bytes_eq-Decides (event_name_text n) token).1 (sym is) in
        let on : has_token token n ≡ true = rw (test, text) refl in
        absurd (false≢true (sym p ∙ ap (has_token token) (sym same) ∙ on))

-- the number that the token of a name has in the table
pub number_named : (names : List EventName) (token : List ℕ) (n : EventName) → token ≡ event_name_text n → n.line < 2 ^ 64 → number_of_key names (name_key n) ≡ event_named names token
unfolding event_named
number_named names token n is low = sym (position_from-same (has_token token) (λ m. same_key (name_key n) (name_key m)) 1 names (λ m. token_key token n m is low))

-- a token that spells no name has none
pub number_unnamed : (names : List EventName) (token : List ℕ) → ((n : EventName) → n.line < 2 ^ 64 → token ≡ event_name_text n → ⊥) → event_named names token ≡ None
unfolding event_named
number_unnamed names token none = position_from-none (has_token token) 1 names (λ m. fails m (has_token token m) refl)
  where
    fails : (m : EventName) (b : Bool) → has_token token m ≡ b → has_token token m ≡ false
    fails m false is = is
    fails m true is =
        let parts = and_parts (nat_lt m.line (2 ^ 64)) (bytes_eq (event_name_text m) token) is in
        let fits : m.line < 2 ^ 64 = (let t = parts.0 in grind (arith, nat_tests)) in
        absurd (none m fits (sym ((bytes_eq-Decides (event_name_text m) token).0 parts.1)))

-- ---- the table

module _ {S : Type 0} where
  pub numbers-none : (numbers : HashMap (ℕ × ℕ) ℕ S) → IsEmpty numbers → HasNumbers [] numbers
  numbers-none numbers empty key = rw empty refl

  -- one more name that the table has
  pub numbers-kept : (names : List EventName) (numbers : HashMap (ℕ × ℕ) ℕ S) (name : EventName) (n : ℕ) → HasNumbers names numbers → get same_key numbers (name_key name) ≡ Some n →
      HasNumbers (names ++ name ∷ []) numbers
  numbers-kept names numbers name n has known key = has key ∙ by (number_of_key names key) refl
    where
      test : EventName → Bool
      test other = same_key key (name_key other)

      by : (o : Option ℕ) → number_of_key names key ≡ o → number_of_key names key ≡ number_of_key (names ++ name ∷ []) key
      by (Some p) is = is ∙ sym (push-some test 1 p names name is)
      by None is = is ∙ sym (push-none test 1 names name is ∙ last (test name) refl)
        where
          last : (b : Bool) → test name ≡ b → cond (test name) (Some (1 + length names)) None ≡ None
          last false off = rw off refl
          last true on = absurd (let s : None ≡ Some n = sym is ∙ sym (has key) ∙ ap (get same_key numbers) (key_is key (name_key name) on) ∙ known in cc)

  -- one that it hasn't
  pub numbers-added : (names : List EventName) (old new : HashMap (ℕ × ℕ) ℕ S) (name : EventName) → HasNumbers names old → get same_key old (name_key name) ≡ None →
      Updates same_key old new (name_key name) (Some (1 + length names)) → HasNumbers (names ++ name ∷ []) new
  numbers-added names old new name has missing updates key = by (same_key (name_key name) key) refl
    where
      test : EventName → Bool
      test other = same_key key (name_key other)

      by : (b : Bool) → same_key (name_key name) key ≡ b → get same_key new key ≡ number_of_key (names ++ name ∷ []) key
      by true on =
          let same : name_key name ≡ key = key_is (name_key name) key on in
          let none : number_of_key names key ≡ None = sym (has key) ∙ ap (get same_key old) (sym same) ∙ missing in
          let here : test name ≡ true = ap (same_key key) same ∙ same_key-refl key in
          updates.0 key ∙ rw on (sym (push-none test 1 names name none ∙ ap (λ b. cond b (Some (1 + length names)) None) here))
      by false off = updates.2 key off ∙ has key ∙ kept (number_of_key names key) refl
        where
          kept : (o : Option ℕ) → number_of_key names key ≡ o → number_of_key names key ≡ number_of_key (names ++ name ∷ []) key
          kept (Some p) is = is ∙ sym (push-some test 1 p names name is)
          kept None is = is ∙ sym (push-none test 1 names name is ∙ last (test name) refl)
            where
              last : (b : Bool) → test name ≡ b → cond (test name) (Some (1 + length names)) None ≡ None
              last false apart = rw apart refl
              last true on = absurd (false≢true (sym off ∙ ap (λ k. same_key k key) (sym (key_is key (name_key name) on)) ∙ same_key-refl key))
