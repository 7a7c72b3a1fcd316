-- From which lines of a text the operations of its log come.
use Rattle.std.specs.Prelude.{◌≡◌, ◌-◌, ℕ, suc, Bool, cond, nat_lt, List, [], ◌∷◌, ◌++◌, length, replicate, Option, slice_get, get_or}
use Rattle.std.specs.List.{count_by}
use Rattle.line_text.specs.Lines.{is_empty}
use Rattle.log_text.specs.declared.lines.SaidLine.{SaidLine}
use Rattle.log_text.specs.declared.origins.Origins.{Origins}
use Rattle.log_text.specs.LogTexts.{places_of_text, SpellsLog}
use Rattle.log_text.specs.LogValues.{NumberedLog}
use Rattle.log_text.specs.Splits.{address_in, boundaries_of_lines, has_bytes, pieces, split_line}

-- of each piece of these lines, cut at these boundaries, the number of its line, where the first line has this number
abbrev pub numbers_of_pieces : List ℕ → ℕ → List SaidLine → List ℕ
numbers_of_pieces cuts number [] = []
numbers_of_pieces cuts number (s ∷ lines) = replicate (length (split_line cuts s)) number ++ numbers_of_pieces cuts (suc number) lines

-- the line is cut into several pieces
abbrev pub is_cut : List ℕ → SaidLine → Bool
is_cut cuts s = nat_lt 1 (length (pieces cuts (address_in s.line) s.width))

-- The origins are those of the text's log: where its places are bytes they have what each line says, of each piece the number of its line, and how many
-- lines are cut.
abbrev pub AreOriginsOf : List ℕ → Origins → Type 0
AreOriginsOf text origins = (log : NumberedLog) (spells : SpellsLog text log) →
    (origins.said.items ≡ cond (has_bytes (places_of_text text)) spells.lines [])
    × (origins.lines.items ≡ cond (has_bytes (places_of_text text)) (numbers_of_pieces (boundaries_of_lines (places_of_text text) spells.lines) 1 spells.lines) [])
    × (origins.cut ≡ cond (has_bytes (places_of_text text)) (count_by (is_cut (boundaries_of_lines (places_of_text text) spells.lines)) spells.lines) 0)

-- the number of the line from which the operation of this number comes, from 1
abbrev pub line_of_number : Origins → ℕ → ℕ
line_of_number origins number = cond (is_empty origins.lines.items) number (get_or origins.lines.items (number - 1) 0)

-- what that line says, where the places of the text are bytes
abbrev pub said_of_number : Origins → ℕ → Option SaidLine
said_of_number origins number = slice_get origins.said.items (line_of_number origins number - 1)
