-- A text in parts: its lines, and the tokens of a line.
use Rattle.std.specs.Prelude.{◌≡◌, ℕ, ◌==◌, Bool, true, false, List, [], ◌∷◌, ◌++◌, Option, None, Some}
use Rattle.std.specs.List.{slice_split, join_with_byte}
use Rattle.std.specs.Borrow.{Bor}

-- The parts of a text between its line ends. The last part is what stands after the last line end: it is no line.
unfoldable pub parts_of : List ℕ → List (List ℕ)
parts_of text = slice_split (λ b. b == 10) text

-- the tokens of a line between its single spaces
unfoldable pub tokens_of : List ℕ → List (List ℕ)
tokens_of line = slice_split (λ b. b == 32) line

-- a line of these tokens, with its line end
abbrev pub line_text : List (List ℕ) → List ℕ
line_text tokens = join_with_byte 32 tokens ++ 10 ∷ []

abbrev pub is_empty : {X : Type 0} → List X → Bool
is_empty [] = true
is_empty (x ∷ xs) = false

-- the tokens after a space
abbrev pub tokens_after : Option (Bor (List ℕ)) → List (List ℕ)
tokens_after None = []
tokens_after (Some rest) = tokens_of rest.now

-- there is a token
pub record SomeToken (tokens : List (List ℕ)) : Type 0 where
  pub first : List ℕ
  pub others : List (List ℕ)
  pub parts : tokens ≡ first ∷ others
