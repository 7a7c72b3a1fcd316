-- The numbers after a keyword, or their fault.
use Rattle.std.specs.Prelude.{ℕ, zero, suc, Bool, true, false, List, [], ◌∷◌, get_or, Result, Ok, Err, if◌then◌else◌}
use Rattle.std.specs.Str.Parse.{digits_value}
use Rattle.line_text.specs.Numbers.{is_numeral}
use Rattle.line_text.specs.Results.{◌>>=◌}
use Rattle.tso_text.specs.declared.faults.Why.{Why}
use Rattle.tso_text.specs.declared.faults.Why.TheVariants.{BadLine, BadNumber}

-- the number of a token, or its fault
abbrev pub numeral : List ℕ → Result ℕ Why
numeral token = if is_numeral token then Ok (digits_value 10 token) else Err BadNumber

-- the numbers of tokens, or the fault of the first that is none
abbrev pub numerals : List (List ℕ) → Result (List ℕ) Why
numerals [] = Ok []
numerals (token ∷ tokens) = numeral token >>= λ n. numerals tokens >>= λ ns. Ok (n ∷ ns)

-- just so many
abbrev pub has_count : {X : Type 0} → ℕ → List X → Bool
has_count zero [] = true
has_count zero (x ∷ xs) = false
has_count (suc n) [] = false
has_count (suc n) (x ∷ xs) = has_count n xs

-- the numbers of just so many tokens after the keyword, or their fault
unfoldable pub numbers : ℕ → List (List ℕ) → Result (List ℕ) Why
numbers count tokens = if has_count count tokens then numerals tokens else Err BadLine

abbrev pub number_at : List ℕ → ℕ → ℕ
number_at ns i = get_or ns i 0
