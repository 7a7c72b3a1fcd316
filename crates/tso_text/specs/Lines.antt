-- The lines among the parts of a text, and their keywords.
use Rattle.std.specs.Prelude.{ℕ, Bool, false, List, [], ◌∷◌, codes, if◌then◌else◌}
use Rattle.std.specs.Str.{bytes_eq}
use Rattle.line_text.specs.Lines.{tokens_of}

-- of the parts of a text, the lines: those that a line end follows
abbrev pub whole_lines : List (List ℕ) → List (List ℕ)
whole_lines [] = []
whole_lines (part ∷ []) = []
whole_lines (part ∷ next ∷ parts) = part ∷ whole_lines (next ∷ parts)

-- the first of these lines is one that the test passes
abbrev pub begins_with : (List ℕ → Bool) → List (List ℕ) → Bool
begins_with passes [] = false
begins_with passes (line ∷ lines) = passes line

-- the line's first token is this keyword
unfoldable pub has_keyword : List ℕ → List ℕ → Bool
has_keyword word line = begins_with (λ token. bytes_eq token word) (tokens_of line)

-- the first of these lines, where it is a line `model`
abbrev pub model_line_in : List (List ℕ) → List (List ℕ)
model_line_in [] = []
model_line_in (line ∷ lines) = if has_keyword (codes "model") line then line ∷ [] else []
