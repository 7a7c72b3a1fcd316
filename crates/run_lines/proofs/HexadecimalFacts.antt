-- Lemmas on hexadecimal numbers in texts.
use Rattle.std.proofs.Common.{◌≡◌, ◌≢◌, ◌&&◌, ◌<◌, ◌≤◌, ◌+◌, ◌*◌, ◌^◌, refl, sym, subst, ℕ, Bool, true, false, cond, ltb, length, List, [], ◌∷◌, Option, Some, None, arith}
use Rattle.std.specs.Char.{digit_value}
use Rattle.std.specs.List.{list_all}
use Rattle.std.specs.Str.Parse.{digits_value_after}
use Rattle.std.proofs.lemmas.Bool.{lt-ltb, le-ltb, ltb-true, ltb-false}
use Rattle.run_lines.specs.Numerals.{hexadecimal, is_hexadecimal_digit}

some_parts : {X : Type 0} (b : Bool) (m n : X) → cond b (Some m) None ≡ Some n → (b ≡ true) × (m ≡ n)
some_parts true m n e = (refl, cc)
some_parts false m n e = absurd cc

both_parts : (a b : Bool) → (a && b) ≡ true → (a ≡ true) × (b ≡ true)
both_parts true b e = (refl, e)
both_parts false b e = absurd cc

and_false : (b : Bool) (n : ℕ) → cond (b && false) (Some n) None ≡ None
and_false true n = refl
and_false false n = refl

-- the number that a digit makes after the number n
abbrev pub hexadecimal_with : ℕ → ℕ → Option ℕ
hexadecimal_with n d = cond (is_hexadecimal_digit d && ltb (n * 16 + digit_value d) (2 ^ 64)) (Some (n * 16 + digit_value d)) None

-- the number that digits make after the number n
unfoldable pub hexadecimal_after : ℕ → List ℕ → Option ℕ
hexadecimal_after n ds = cond (list_all is_hexadecimal_digit ds && ltb (digits_value_after 16 n ds) (2 ^ 64)) (Some (digits_value_after 16 n ds)) None

-- no digits spell no number
pub hexadecimal-none : (ds : List ℕ) → length ds ≡ 0 → None ≡ hexadecimal ds
unfolding hexadecimal
hexadecimal-none [] none = refl
hexadecimal-none (d ∷ ds) none = absurd (omega (arith, none))

pub hexadecimal-some : (ds : List ℕ) → length ds ≢ 0 → hexadecimal ds ≡ hexadecimal_after 0 ds
unfolding hexadecimal hexadecimal_after
hexadecimal-some [] some = absurd (some refl)
hexadecimal-some (d ∷ ds) some = refl

pub hexadecimal_after-nil : (n : ℕ) → n < 2 ^ 64 → hexadecimal_after n [] ≡ Some n
unfolding hexadecimal_after
hexadecimal_after-nil n fits = rw (lt-ltb n (2 ^ 64) fits) refl

-- more digits make no lesser number
least : (n : ℕ) (ds : List ℕ) → n ≤ digits_value_after 16 n ds
least n [] = omega arith
least n (d ∷ ds) = let rest = least (n * 16 + digit_value d) ds in omega (arith, rest)

digit_by_test : (n m d : ℕ) (ds : List ℕ) (digit : Bool) → digit ≡ is_hexadecimal_digit d → cond (digit && ltb (n * 16 + digit_value d) (2 ^ 64)) (Some (n * 16 + digit_value d)) None ≡ Some m →
    hexadecimal_after n (d ∷ ds) ≡ hexadecimal_after m ds
unfolding hexadecimal_after
digit_by_test n m d ds true is e = let parts = some_parts (ltb (n * 16 + digit_value d) (2 ^ 64)) (n * 16 + digit_value d) m e in rw (sym is, sym parts.1) refl
digit_by_test n m d ds false is e = absurd cc

-- a digit that is read leads to the digits after it
pub hexadecimal_after-digit : (n m d : ℕ) (ds : List ℕ) → hexadecimal_with n d ≡ Some m → hexadecimal_after n (d ∷ ds) ≡ hexadecimal_after m ds
hexadecimal_after-digit n m d ds e = digit_by_test n m d ds (is_hexadecimal_digit d) refl e

-- a digit is read only where the number has 64 bits
pub hexadecimal_with-fits : (n d m : ℕ) → hexadecimal_with n d ≡ Some m → m < 2 ^ 64
hexadecimal_with-fits n d m e =
    let parts = some_parts (is_hexadecimal_digit d && ltb (n * 16 + digit_value d) (2 ^ 64)) (n * 16 + digit_value d) m e in
    let tests = both_parts (is_hexadecimal_digit d) (ltb (n * 16 + digit_value d) (2 ^ 64)) parts.0 in
    subst (λ x. x < 2 ^ 64) parts.1 (ltb-true _ _ tests.1)

refused_by_tests : (n d : ℕ) (ds : List ℕ) (digit low : Bool) → digit ≡ is_hexadecimal_digit d → low ≡ ltb (n * 16 + digit_value d) (2 ^ 64) → cond (digit && low) (Some (n * 16 + digit_value d)) None ≡ None →
    hexadecimal_after n (d ∷ ds) ≡ None
unfolding hexadecimal_after
refused_by_tests n d ds true true is at e = absurd cc
refused_by_tests n d ds true false is at e =
    let more = least (n * 16 + digit_value d) ds in
    let high : ltb (digits_value_after 16 (n * 16 + digit_value d) ds) (2 ^ 64) ≡ false = le-ltb _ _ (omega (arith, more, ltb-false _ _ (sym at))) in
    rw (sym is, high) (and_false (list_all is_hexadecimal_digit ds) _)
refused_by_tests n d ds false low is at e = rw (sym is) refl

-- where no number has the digit there is none
pub hexadecimal_after-refused : (n d : ℕ) (ds : List ℕ) → hexadecimal_with n d ≡ None → hexadecimal_after n (d ∷ ds) ≡ None
hexadecimal_after-refused n d ds e = refused_by_tests n d ds (is_hexadecimal_digit d) (ltb (n * 16 + digit_value d) (2 ^ 64)) refl refl e
