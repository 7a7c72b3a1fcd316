-- What a set of boundaries holds, and which lines a text has that says them.
use Rattle.std.specs.Prelude.{◌≡◌, ◌||◌, ℕ, ◌+◌, ◌<◌, ◌≤◌, ◌^◌, nat_eq, List, [], ◌∷◌, ◌++◌, map, Ok}
use Rattle.std.specs.HashSet.{contains}
use Rattle.std.specs.HashSet.{HashSet}
use Rattle.run_lines.specs.declared.arguments.Widths.{Widths}
use Rattle.log_text.specs.declared.lines.SaidLine.{SaidLine}
use Rattle.line_text.specs.Lines.{parts_of}
use Rattle.log_text.specs.declared.cutting.Cutting.{Cutting}
use Rattle.log_text.specs.LogLines.{line_said, widths_of_texts}
use Rattle.log_text.specs.Splits.{address_in, boundaries_of_lines, is_boundary}

-- the set has these of them that are addresses
abbrev pub HasBoundaries : {S : Type 0} → HashSet ℕ S → List ℕ → Type 0
HasBoundaries found boundaries = (b : ℕ) → b < 2 ^ 64 → contains nat_eq found b ≡ is_boundary boundaries b

-- the new set has what the old one has, and these
abbrev pub HasMoreBoundaries : {S : Type 0} → HashSet ℕ S → HashSet ℕ S → List ℕ → Type 0
HasMoreBoundaries old new more = (b : ℕ) → b < 2 ^ 64 → contains nat_eq new b ≡ (contains nat_eq old b || is_boundary more b)

-- the parts of a text are lines that say these, and a last one that is empty
pub record AreTextsSaid (places : Widths) (parts : List (List ℕ)) (lines : List SaidLine) : Type 0 where
  pub texts : List (List ℕ)
  pub whole : parts ≡ texts ++ [] ∷ []
  pub said : map (line_said places) texts ≡ map Ok lines

-- the line's place ends at 2^64 at most
abbrev pub IsWithin : SaidLine → Type 0
IsWithin s = address_in s.line + s.width ≤ 2 ^ 64

-- The text is cut in this way: at the boundaries of its lines, where it is one of lines.
pub record CutsText (cutting : Cutting) (text : List ℕ) : Type 0 where
  pub places : cutting.places ≡ widths_of_texts (parts_of text)
  pub boundaries : (lines : List SaidLine) → AreTextsSaid cutting.places (parts_of text) lines → HasBoundaries cutting.boundaries (boundaries_of_lines cutting.places lines)
