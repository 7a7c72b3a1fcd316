-- How a text is read line by line: lines of elements, and, where one is, a line that ends the text.
use Rattle.std.specs.Prelude.{ℕ, suc, List, [], ◌∷◌, ◌++◌, length, Result, Ok, Err}
use Rattle.line_text.specs.Lines.{tokens_of}

-- What a line says: one more element, or the value of the whole text.
pub data Said (X V : Type 0) : Type 0 where
  element : X → Said X V
  whole : V → Said X V

pub record Reading (X V W : Type 0) : Type 0 where
  -- what the line of these tokens says after the lines of these elements, or its fault
  pub said : List X → List (List ℕ) → Result (Said X V) W
  -- the value of a text of the lines of these elements and bytes that no line end follows, or the fault
  pub unended : List X → List ℕ → Result V W
  -- the fault of bytes after the line that ends a text
  pub after_end : W

-- the value, or its refusal on the line of this number
abbrev pub on_line : {V W : Type 0} → ℕ → Result V W → Result V (ℕ × W)
on_line line (Ok v) = Ok v
on_line line (Err why) = Err (line, why)

-- the value, where nothing stands after its last line; bytes there are a fault of the line of this number
abbrev pub ended_with : {V W : Type 0} → W → V → ℕ → List (List ℕ) → Result V (ℕ × W)
ended_with after_end v line ([] ∷ []) = Ok v
ended_with after_end v line _ = Err (line, after_end)

-- the outcome after a line that says this, and before these parts; after an element it is that of more elements
abbrev pub after_line : {X V W : Type 0} → W → List X → List (List ℕ) → (List X → Result V (ℕ × W)) → Result (Said X V) W → Result V (ℕ × W)
after_line after_end xs parts more (Err why) = Err (suc (length xs), why)
after_line after_end xs parts more (Ok (element x)) = more (xs ++ x ∷ [])
after_line after_end xs parts more (Ok (whole v)) = ended_with after_end v (suc (suc (length xs))) parts

-- the outcome of these parts after the lines of these elements: the value of the text, or the line and the fault of its refusal
unfoldable pub read_parts : {X V W : Type 0} → Reading X V W → List X → List (List ℕ) → Result V (ℕ × W)
read_parts r xs [] = Err (0, r.after_end)
read_parts r xs (part ∷ []) = on_line (suc (length xs)) (r.unended xs part)
read_parts r xs (part ∷ next ∷ parts) = after_line r.after_end xs (next ∷ parts) (λ more. read_parts r more (next ∷ parts)) (r.said xs (tokens_of part))
