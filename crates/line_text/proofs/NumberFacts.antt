-- Lemmas on numbers in texts.
use Rattle.std.proofs.Common.{◌≡◌, ℕ, zero, suc, ◌+◌, ◌*◌, ◌<◌, ◌≤◌, ◌^◌, Bool, true, false, cond, ltb, List, [], ◌∷◌, length, get_or, Option, Some, None, refl, ap, sym, ◌∙◌, arith, rules, ◌&&◌, subst}
use Rattle.std.specs.Fmt.{decimal, digits}
use Rattle.std.specs.Char.{is_ascii_digit, digit_value}
use Rattle.std.specs.List.{list_all}
use Rattle.std.specs.Str.Parse.{digits_value, digits_value_after}
use Rattle.std.proofs.lemmas.Bool.Decides.{nat_tests}
use Rattle.std.proofs.lemmas.Bool.{lt-ltb, le-ltb, ltb-true, ltb-false}
use Rattle.std.proofs.lemmas.Str.Parse.{IsNumeralModel, numerals_by_value}
use Rattle.std.proofs.lemmas.Fmt.{decimal-digits_value, digits_decimal, digits_value-decimal, decimal_nonempty, first_decimal}
use Rattle.line_text.specs.Numbers.{is_canonical, is_numeral, number}

-- the digits of a number, by std's definition
pub digits_model : IsNumeralModel (λ ds. list_all is_ascii_digit ds ≡ true) (digits_value 10)
digits_model = numerals_by_value _ (search rules)

-- a token that is not canonical spells no number
pub number-not_canonical : (token : List ℕ) → is_canonical token ≡ false → number token ≡ None
unfolding number
number-not_canonical token off = rw off (elim (list_all is_ascii_digit token) as (λ b. cond (b && false && ltb (digits_value 10 token) (2 ^ 64)) (Some (digits_value 10 token)) None ≡ None) [ true ↦ refl | false ↦ refl ])

pub length-canonical : (token : List ℕ) → is_canonical token ≡ true → 0 < length token
length-canonical [] canonical = absurd cc
length-canonical (d ∷ ds) canonical = omega arith

pub and_parts : (a b : Bool) → (a && b) ≡ true → (a ≡ true) × (b ≡ true)
and_parts true b e = (refl, e)
and_parts false b e = absurd cc

some_parts : {X : Type 0} (b : Bool) (m n : X) → cond b (Some m) None ≡ Some n → (b ≡ true) × (m ≡ n)
some_parts true m n e = (refl, cc)
some_parts false m n e = absurd cc

-- ---- a number read digit by digit

-- the number that a digit makes after the number n
abbrev pub number_with : ℕ → ℕ → Option ℕ
number_with n d = cond (is_ascii_digit d && ltb (n * 10 + digit_value d) (2 ^ 64)) (Some (n * 10 + digit_value d)) None

-- the number that digits make after the number n
unfoldable pub number_after : ℕ → List ℕ → Option ℕ
number_after n ds = cond (list_all is_ascii_digit ds && ltb (digits_value_after 10 n ds) (2 ^ 64)) (Some (digits_value_after 10 n ds)) None

and_false : (b : Bool) (n : ℕ) → cond (b && false) (Some n) None ≡ None
and_false true n = refl
and_false false n = refl

number-by_parts : (a b : Bool) (n : ℕ) → cond ((a && true) && b) (Some n) None ≡ cond (a && b) (Some n) None
number-by_parts true b n = refl
number-by_parts false b n = refl

pub number-canonical : (token : List ℕ) → is_canonical token ≡ true → number token ≡ number_after 0 token
unfolding number number_after
number-canonical token canonical = rw canonical (number-by_parts (list_all is_ascii_digit token) (ltb (digits_value 10 token) (2 ^ 64)) (digits_value 10 token))

pub number_after-nil : (n : ℕ) → n < 2 ^ 64 → number_after n [] ≡ Some n
unfolding number_after
number_after-nil n fits = rw (lt-ltb n (2 ^ 64) fits) refl

-- more digits make no lesser number
digits_value_after-least : (n : ℕ) (ds : List ℕ) → n ≤ digits_value_after 10 n ds
digits_value_after-least n [] = omega arith
digits_value_after-least n (d ∷ ds) = let rest = digits_value_after-least (n * 10 + digit_value d) ds in omega (arith, rest)

digit_by_test : (n m d : ℕ) (ds : List ℕ) (digit : Bool) → digit ≡ is_ascii_digit d → cond (digit && ltb (n * 10 + digit_value d) (2 ^ 64)) (Some (n * 10 + digit_value d)) None ≡ Some m → number_after n (d ∷ ds) ≡ number_after m ds
unfolding number_after
digit_by_test n m d ds true is e = let parts = some_parts (ltb (n * 10 + digit_value d) (2 ^ 64)) (n * 10 + digit_value d) m e in rw (sym is, sym parts.1) refl
digit_by_test n m d ds false is e = absurd cc

-- a digit that is read leads to the digits after it
pub number_after-digit : (n m d : ℕ) (ds : List ℕ) → number_with n d ≡ Some m → number_after n (d ∷ ds) ≡ number_after m ds
number_after-digit n m d ds e = digit_by_test n m d ds (is_ascii_digit d) refl e

-- a digit is read only where the number has 64 bits
pub number_with-fits : (n d m : ℕ) → number_with n d ≡ Some m → m < 2 ^ 64
number_with-fits n d m e =
    let parts = some_parts (is_ascii_digit d && ltb (n * 10 + digit_value d) (2 ^ 64)) (n * 10 + digit_value d) m e in
    let tests = and_parts (is_ascii_digit d) (ltb (n * 10 + digit_value d) (2 ^ 64)) parts.0 in
    subst (λ x. x < 2 ^ 64) parts.1 (ltb-true _ _ tests.1)

refused_by_tests : (n d : ℕ) (ds : List ℕ) (digit low : Bool) → digit ≡ is_ascii_digit d → low ≡ ltb (n * 10 + digit_value d) (2 ^ 64) → cond (digit && low) (Some (n * 10 + digit_value d)) None ≡ None → number_after n (d ∷ ds) ≡ None
unfolding number_after
refused_by_tests n d ds true true is at e = absurd cc
refused_by_tests n d ds true false is at e =
    let least = digits_value_after-least (n * 10 + digit_value d) ds in
    let high : ltb (digits_value_after 10 (n * 10 + digit_value d) ds) (2 ^ 64) ≡ false = le-ltb _ _ (omega (arith, least, ltb-false _ _ (sym at))) in
    rw (sym is, high) (and_false (list_all is_ascii_digit ds) _)
refused_by_tests n d ds false low is at e = rw (sym is) refl

-- where no number has the digit there is none
pub number_after-refused : (n d : ℕ) (ds : List ℕ) → number_with n d ≡ None → number_after n (d ∷ ds) ≡ None
number_after-refused n d ds e = refused_by_tests n d ds (is_ascii_digit d) (ltb (n * 10 + digit_value d) (2 ^ 64)) refl refl e

-- ---- one way to write a number

zero_alone : (p : List ℕ) → is_canonical p ≡ true → get_or p 0 0 ≡ 48 → length p ≡ 1
zero_alone [] canonical first = absurd cc
zero_alone (d ∷ []) canonical first = refl
zero_alone (d ∷ e ∷ ds) canonical first = absurd (grind (arith, nat_tests))

-- a number is written in one way
pub number_is : (p : List ℕ) (n : ℕ) → number p ≡ Some n → p ≡ decimal n
unfolding number
number_is p n e =
    let whole = some_parts (is_numeral p) (digits_value 10 p) n e in
    let outer = and_parts (list_all is_ascii_digit p && is_canonical p) (ltb (digits_value 10 p) (2 ^ 64)) whole.0 in
    let inner = and_parts (list_all is_ascii_digit p) (is_canonical p) outer.0 in
    let fits : digits_value 10 p < 2 ^ 64 = (let t = outer.1 in grind (arith, nat_tests)) in
    sym (decimal-digits_value digits_model p inner.0 (length-canonical p inner.1) (zero_alone p inner.1) fits) ∙ ap decimal whole.1

-- a number has 64 bits
pub number_fits : (p : List ℕ) (n : ℕ) → number p ≡ Some n → n < 2 ^ 64
unfolding number
number_fits p n e =
    let whole = some_parts (is_numeral p) (digits_value 10 p) n e in
    let outer = and_parts (list_all is_ascii_digit p && is_canonical p) (ltb (digits_value 10 p) (2 ^ 64)) whole.0 in
    let fits : digits_value 10 p < 2 ^ 64 = (let t = outer.1 in grind (arith, nat_tests)) in
    subst (λ m. m < 2 ^ 64) whole.1 fits

canonical_some : (p : List ℕ) → 0 < length p → 48 < get_or p 0 0 → is_canonical p ≡ true
canonical_some [] some first = absurd (omega arith)
canonical_some (d ∷ []) some first = refl
canonical_some (d ∷ e ∷ ds) some first = grind (arith, nat_tests)

canonical_decimal : (n : ℕ) → n < 2 ^ 64 → is_canonical (decimal n) ≡ true
unfolding digits
canonical_decimal zero fits = refl
canonical_decimal (suc n) fits = canonical_some (decimal (suc n)) (decimal_nonempty (suc n) fits) (first_decimal (suc n) (omega arith) fits)

-- a number in decimal spells it
pub number-decimal : (n : ℕ) → n < 2 ^ 64 → number (decimal n) ≡ Some n
unfolding number
number-decimal n fits =
    let low : ltb n (2 ^ 64) ≡ true = grind (arith, nat_tests) in
    rw (digits_decimal digits_model n fits, canonical_decimal n fits, digits_value-decimal digits_model n fits, low) refl
