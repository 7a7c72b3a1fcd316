-- How a text is refused: on the first line with a fault, after the lines of a value.
use Rattle.std.specs.Prelude.{◌≡◌, ℕ, List, [], ◌∷◌, ◌++◌, length, if◌then◌else◌}
use Rattle.line_text.specs.Lines.{parts_of, tokens_of, is_empty}

-- The text has these lines, and then what is refused, on the line of this number.
pub record IsRefusedAfter (text lines : List ℕ) (line : ℕ) (Refused : List ℕ → Type 0) : Type 0 where
  pub rest : List ℕ
  pub whole : text ≡ lines ++ rest
  pub at : line ≡ length (parts_of lines)
  pub refused : Refused rest

-- The parts after the lines of a value: the first is a line that has the fault, by its tokens; or no line end follows it, and it is empty or not.
abbrev pub ArePartsRefused : {W : Type 0} → W → W → (List (List ℕ) → W → Type 0) → List (List ℕ) → W → Type 0
ArePartsRefused missing unended HasFault [] why = ⊥
ArePartsRefused missing unended HasFault (part ∷ []) why = why ≡ (if is_empty part then missing else unended)
ArePartsRefused missing unended HasFault (part ∷ next ∷ parts) why = HasFault (tokens_of part) why
