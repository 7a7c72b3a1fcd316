-- Lines of a log, as they stand in it.
use Rattle.std.specs.Prelude.{ℕ, ◌==◌, List, [], ◌∷◌, ◌++◌, Option, None, Some, codes, cond}
use Rattle.std.specs.List.{join_with_byte}
use Rattle.std.specs.Fmt.{decimal}
use Rattle.std.specs.Str.{is_utf8}
use Rattle.tso_text.specs.Printed.{outcome_tokens}
use Rattle.log_text.specs.declared.lines.LogLine.{LogLine}
use Rattle.log_text.specs.declared.lines.LogLine.TheVariants.{Note, Pso, First, Issued, Unknown, Memory, End}
use Rattle.log_text.specs.declared.lines.SaidLine.{SaidLine}
use Rattle.log_text.specs.declared.logs.LogOperation.{LogOperation}
use Rattle.log_text.specs.declared.logs.LogOperation.TheVariants.{Ld, St, Sw, Mb, Sb}
use Rattle.log_text.specs.declared.tags.LineTags.{LineTags}
use Rattle.log_text.specs.Origins.{line_of_number, said_of_number}
use Rattle.log_text.specs.Tags.{tag_in}
use Rattle.log_text.specs.LogValues.{logged_outcome}
use Rattle.log_selections.specs.declared.shown.Shown.{Shown}

-- the operation as it stands in the log
abbrev pub operation_text : LogOperation → List ℕ
operation_text x = join_with_byte 32 (outcome_tokens (logged_outcome x))

-- what is done to a place of this width, from a keyword on, as it stands in the log: of a location its address alone, of bytes how many they are, too
abbrev pub log_place_text : List ℕ → ℕ → ℕ → List ℕ
log_place_text word a width = word ++ codes " " ++ decimal a ++ cond (width == 0) [] (codes "/" ++ decimal width)

abbrev pub wide_operation_text : ℕ → LogOperation → List ℕ
wide_operation_text width (Ld a r) = log_place_text (codes "ld") a width ++ codes " " ++ decimal r
wide_operation_text width (St a v) = log_place_text (codes "st") a width ++ codes " " ++ decimal v
wide_operation_text width (Sw a r v) = log_place_text (codes "sw") a width ++ codes " " ++ decimal r ++ codes " " ++ decimal v
wide_operation_text width Mb = codes "mb"
wide_operation_text width Sb = codes "stbar"

-- what a line says that was done; an operation, where it says none
abbrev pub said_text : LogLine → ℕ → LogOperation → List ℕ
said_text Note width x = operation_text x
said_text Pso width x = operation_text x
said_text (First a v) width x = operation_text x
said_text (Issued p done) width x = wide_operation_text width done
said_text (Unknown p a) width x = operation_text x
said_text Memory width x = operation_text x
said_text End width x = operation_text x

-- the operation of a line as it stands there, where this is a piece of it
abbrev pub line_operation_text : Option SaidLine → LogOperation → List ℕ
line_operation_text None x = operation_text x
line_operation_text (Some s) x = said_text s.line s.width x

-- what is repeated of a tag: all of one of a log, which is ASCII
abbrev pub repeated : List ℕ → List ℕ
repeated tag = cond (is_utf8 tag) tag []

-- the number of the line of an operation that is shown
abbrev pub line_shown : LineTags → Shown → ℕ
line_shown tags s = line_of_number tags.origins s.logged.line

-- the line of an operation, as it stands in the log, with its tag
abbrev pub log_line_text : LineTags → Shown → List ℕ
log_line_text tags s =
    codes "line " ++ decimal (line_shown tags s) ++ codes " " ++ decimal s.processor ++ codes " " ++ line_operation_text (said_of_number tags.origins s.logged.line) s.logged.operation
    ++ repeated (tag_in tags (line_shown tags s)) ++ codes "\n"

-- the lines of these operations, but where one is that of the operation before it, which has this number at first
abbrev pub lines_text_after : LineTags → ℕ → List Shown → List ℕ
lines_text_after tags before [] = []
lines_text_after tags before (s ∷ shown) = cond (line_shown tags s == before) [] (log_line_text tags s) ++ lines_text_after tags (line_shown tags s) shown

-- each line once
abbrev pub log_lines_text : LineTags → List Shown → List ℕ
log_lines_text tags shown = lines_text_after tags 0 shown
