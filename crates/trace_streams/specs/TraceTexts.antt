-- The trace texts of a stream of bytes: each ends with its first line `end`, and what follows the last of these, if there is a byte, is a last trace text.
use Rattle.std.specs.Prelude.{◌≡◌, ◌≢◌, ℕ, List, [], ◌∷◌, ◌++◌, codes}
use Rattle.std.specs.List.{All, concat}

-- the line that ends a trace text
abbrev pub end_line : List ℕ
end_line = codes "end"

-- none of the bytes ends a line
abbrev pub IsWithinLine : List ℕ → Type 0
IsWithinLine bytes = All (λ b. b ≢ 10) bytes

-- a line other than `end`, without its line end
abbrev pub IsOtherLine : List ℕ → Type 0
IsOtherLine line = IsWithinLine line × (line ≢ end_line)

-- the bytes of these lines, each with its line end
abbrev pub lines_text : List (List ℕ) → List ℕ
lines_text [] = []
lines_text (line ∷ lines) = line ++ 10 ∷ lines_text lines

-- Lines other than `end`, and then the line `end`.
pub record IsEndedText (piece : List ℕ) : Type 0 where
  pub lines : List (List ℕ)
  pub others : All IsOtherLine lines
  pub whole : piece ≡ lines_text (lines ++ end_line ∷ [])

-- Lines other than `end`, and then these bytes, which no line end follows.
pub record EndsWithin (bytes part : List ℕ) : Type 0 where
  pub lines : List (List ℕ)
  pub others : All IsOtherLine lines
  pub within : IsWithinLine part
  pub whole : bytes ≡ lines_text lines ++ part

-- no line of the bytes is `end`
abbrev pub HasNoEnd : List ℕ → Type 0
HasNoEnd bytes = (part : List ℕ) × EndsWithin bytes part

-- The stream is these trace texts, each of which ends with its first line `end`, and then these bytes, of which no line is `end`.
pub record IsSplit (stream : List ℕ) (ended : List (List ℕ)) (rest : List ℕ) : Type 0 where
  pub each : All IsEndedText ended
  pub no_end : HasNoEnd rest
  pub whole : stream ≡ concat ended ++ rest

-- the last trace text, where there is a byte
abbrev pub last_trace_text : List ℕ → List (List ℕ)
last_trace_text [] = []
last_trace_text (b ∷ rest) = (b ∷ rest) ∷ []

-- These are the trace texts of the stream, in order.
pub record AreTraceTexts (stream : List ℕ) (pieces : List (List ℕ)) : Type 0 where
  pub ended : List (List ℕ)
  pub rest : List ℕ
  pub cut : IsSplit stream ended rest
  pub trace_texts_are : pieces ≡ ended ++ last_trace_text rest
