-- Which texts say that something unknown was done to bytes.
use Rattle.std.specs.Prelude.{◌≡◌, ℕ, false, List, Ok, codes}
use Rattle.std.specs.List.{AllByRecursion}
use Rattle.std.specs.Str.{bytes_eq}
use Rattle.line_text.specs.Lines.{parts_of}
use Rattle.run_lines.specs.declared.arguments.Widths.TheVariants.{Unseen, Bytes}
use Rattle.run_lines.specs.Lines.{LineNumbers, note, pso, first, step, finish, line_read}
use Rattle.log_text.specs.LogTexts.{places_of_text}

-- the keyword is of a step that does nothing unknown
abbrev pub IsKnownWord : List ℕ → Type 0
IsKnownWord word = bytes_eq word (codes "un") ≡ false

-- so is that of the line, if it says a step
abbrev pub IsKnownLine : LineNumbers → Type 0
IsKnownLine note = Unit {0}
IsKnownLine pso = Unit {0}
IsKnownLine (first numbers) = Unit {0}
IsKnownLine (step p word numbers) = IsKnownWord word
IsKnownLine finish = Unit {0}

-- no line says that something unknown was done
abbrev pub AreKnownLines : List (List ℕ) → Type 0
AreKnownLines lines = AllByRecursion (λ line. (n : LineNumbers) → line_read Unseen line ≡ Ok n → IsKnownLine n) lines

-- where the places of the text are bytes, no line of it says that something unknown was done to some of them
abbrev pub HasNoUnknownBytes : List ℕ → Type 0
HasNoUnknownBytes text = places_of_text text ≡ Bytes → AreKnownLines (parts_of text)
