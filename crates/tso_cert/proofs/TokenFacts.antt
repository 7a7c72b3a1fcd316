-- Lemmas on tokens as the reader reads them.
use Rattle.std.proofs.Common.{◌≡◌, ℕ, suc, ◌<◌, ◌^◌, Bool, true, false, List, ◌∷◌, ◌++◌, length, Option, Some, None, Result, Ok, Err, refl, ap, sym, ◌∙◌, arith, Bor, eqb, ⊎_elim}
use Rattle.std.specs.Prelude.{nat_eq}
use Rattle.std.specs.Option.{option_eq}
use Rattle.std.specs.Fmt.{decimal}
use Rattle.std.specs.Str.{bytes_eq}
use Rattle.std.proofs.lemmas.Bool.Decides.{nat_tests}
use Rattle.std.proofs.lemmas.Slice.Eq.{bytes_eq-Decides}
use Rattle.line_text.specs.Lines.{SomeToken}
use Rattle.line_text.specs.Numbers.{number}
use Rattle.line_text.proofs.NumberFacts.{number_is, number-decimal}
use Rattle.tso_cert.specs.declared.faults.CertificateRefusal.{CertificateRefusal}
use Rattle.tso_cert.specs.declared.faults.CertificateRefusal.TheVariants.{BadLine}
use Rattle.line_text.specs.Results.{◌>>=◌}
use Rattle.tso_cert.specs.Internal.LineValues.{unwritten_said}
use Rattle.tso_cert.proofs.SayingFacts.{cases}

-- where more tokens stand, the line of an unwritten load is bad
pub unwritten-more : (k : ℕ) (p : List ℕ) (ps : List (List ℕ)) → SomeToken ps → unwritten_said k (p ∷ ps) ≡ Err BadLine
unfolding unwritten_said
unwritten-more k p ps some = rw some.parts refl

-- ---- the numbers of tokens, read one after another

-- what the events of tokens are, after those that were read
abbrev pub tokens_after_read : List ℕ → Result (List ℕ) CertificateRefusal → Result (List ℕ) CertificateRefusal
tokens_after_read numbers rest = rest >>= λ more. Ok (numbers ++ more)

-- the bytes that are left, and one more where there are any
abbrev pub left_length : Option (Bor (List ℕ)) → ℕ
left_length None = 0
left_length (Some line) = suc (length line.now)

-- ---- a number in decimal

differs : (b : Bool) → (b ≡ true → ⊥) → false ≡ b
differs false not_so = refl
differs true not_so = absurd (not_so refl)

agrees : (m n : ℕ) (b : Bool) → (m ≡ n → b ≡ true) → (b ≡ true → m ≡ n) → eqb m n ≡ b
agrees m n true to from = let same : m ≡ n = from refl in grind (arith, nat_tests)
agrees m n false to from = ⊎_elim (λ (on : eqb m n ≡ true). absurd (let same : m ≡ n = grind (arith, nat_tests) in let e = to same in cc)) (λ (off : eqb m n ≡ false). off) (cases (eqb m n))

-- a token is a number in decimal where it spells it
pub decimal_told : (p : List ℕ) (n : ℕ) (o : Option ℕ) → n < 2 ^ 64 → number p ≡ o → option_eq nat_eq o (Some n) ≡ bytes_eq p (decimal n)
decimal_told p n None fits is = differs (bytes_eq p (decimal n)) (λ e. let s : None ≡ Some n = sym is ∙ ap number ((bytes_eq-Decides p (decimal n)).0 e) ∙ number-decimal n fits in cc)
decimal_told p n (Some m) fits is = agrees m n (bytes_eq p (decimal n))
    (λ same. (bytes_eq-Decides p (decimal n)).1 (number_is p n (is ∙ ap Some same)))
    (λ e. let s : Some m ≡ Some n = sym is ∙ ap number ((bytes_eq-Decides p (decimal n)).0 e) ∙ number-decimal n fits in cc)
