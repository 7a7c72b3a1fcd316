-- What the parts of a line say after the processor: read from left to right, the first that can't be read refuses the line.
use Rattle.std.specs.Prelude.{ℕ, ◌^◌, ◌==◌, ◌||◌, not, Bool, true, nat_lt, List, [], ◌∷◌, Option, None, Some, Result, Ok, Err, if◌then◌else◌}
use Rattle.std.specs.Borrow.{Bor}
use Rattle.line_text.specs.Lines.{tokens_after}
use Rattle.line_text.specs.Results.{◌>>=◌}
use Rattle.run_steps.specs.declared.places.Place.{Place}
use Rattle.tso_text.specs.declared.faults.Why.{Why}
use Rattle.tso_text.specs.declared.faults.Why.TheVariants.{BadLine, BadNumber, MixedWidths}
use Rattle.run_lines.specs.declared.arguments.Widths.{Widths}
use Rattle.run_lines.specs.declared.arguments.Widths.TheVariants as widths
use Rattle.run_lines.specs.Numerals.{number_spelled}
use Rattle.run_lines.specs.PlaceTexts.{place_spelled}

-- ---- what code answers, in numbers and lists

-- the address and width of a place, and the parts after it
abbrev pub place_left : Result (Place × Option (Bor (List ℕ))) Why → Result ((ℕ × ℕ) × List (List ℕ)) Why
place_left (Err why) = Err why
place_left (Ok found) = Ok ((found.0.address, found.0.width), tokens_after found.1)

-- a value, and the parts after it
abbrev pub value_left : Result (ℕ × Option (Bor (List ℕ))) Why → Result (ℕ × List (List ℕ)) Why
value_left (Err why) = Err why
value_left (Ok found) = Ok (found.0, tokens_after found.1)

-- no numbers
abbrev pub no_numbers : Result Unit Why → Result (List ℕ) Why
no_numbers (Err why) = Err why
no_numbers (Ok u) = Ok []

-- the numbers of a place
abbrev pub place_numbers : Result Place Why → Result (List ℕ) Why
place_numbers (Err why) = Err why
place_numbers (Ok place) = Ok (place.address ∷ place.width ∷ [])

-- those of a place and a value
abbrev pub value_numbers : Result (Place × ℕ) Why → Result (List ℕ) Why
value_numbers (Err why) = Err why
value_numbers (Ok found) = Ok (found.0.address ∷ found.0.width ∷ found.1 ∷ [])

-- those of a place and two values
abbrev pub values_numbers : Result (Place × ℕ × ℕ) Why → Result (List ℕ) Why
values_numbers (Err why) = Err why
values_numbers (Ok found) = Ok (found.0.address ∷ found.0.width ∷ found.1 ∷ found.2 ∷ [])

-- ---- one part

-- a place of this width may stand in a text whose places were these: all have a width, or none
abbrev pub admits : Widths → ℕ → Bool
admits widths.Unseen width = true
admits widths.Locations width = width == 0
admits widths.Bytes width = not (width == 0)

abbrev pub place_told : Widths → Option (ℕ × ℕ) → Result (ℕ × ℕ) Why
place_told before None = Err BadNumber
place_told before (Some p) = if admits before p.1 then Ok p else Err MixedWidths

-- the place that the first part is, and the parts after it
abbrev pub place_said : Widths → List (List ℕ) → Result ((ℕ × ℕ) × List (List ℕ)) Why
place_said before [] = Err BadLine
place_said before (part ∷ parts) = place_told before (place_spelled part) >>= λ p. Ok (p, parts)

-- a place of this width holds the value
abbrev pub holds_value : ℕ → ℕ → Bool
holds_value width v = (width == 0) || nat_lt v (256 ^ width)

abbrev pub value_told : ℕ → Option ℕ → Result ℕ Why
value_told width None = Err BadNumber
value_told width (Some v) = if holds_value width v then Ok v else Err BadNumber

-- the value of a place of this width that the first part is, and the parts after it
abbrev pub value_said : ℕ → List (List ℕ) → Result (ℕ × List (List ℕ)) Why
value_said width [] = Err BadLine
value_said width (part ∷ parts) = value_told width (number_spelled part) >>= λ v. Ok (v, parts)

-- these numbers, where no part is left
abbrev pub all_said : List ℕ → List (List ℕ) → Result (List ℕ) Why
all_said numbers [] = Ok numbers
all_said numbers (part ∷ parts) = Err BadLine

-- ---- all parts after the keyword

-- a place: its address and width
abbrev pub place_alone : Widths → List (List ℕ) → Result (List ℕ) Why
place_alone before parts = place_said before parts >>= λ p. all_said (p.0.0 ∷ p.0.1 ∷ []) p.1

-- a place and a value
abbrev pub place_and_value : Widths → List (List ℕ) → Result (List ℕ) Why
place_and_value before parts = place_said before parts >>= λ p. value_said p.0.1 p.1 >>= λ v. all_said (p.0.0 ∷ p.0.1 ∷ v.0 ∷ []) v.1

-- a place and two values
abbrev pub place_and_values : Widths → List (List ℕ) → Result (List ℕ) Why
place_and_values before parts =
    place_said before parts >>= λ p. value_said p.0.1 p.1 >>= λ v. value_said p.0.1 v.1 >>= λ w. all_said (p.0.0 ∷ p.0.1 ∷ v.0 ∷ w.0 ∷ []) w.1
