-- The forms of a picture: which names its edges have.
use Rattle.std.specs.Prelude.{Bool, Option, Some, None, codes, option_and_then, unwrap_or, if◌then◌else◌}
use Rattle.command_line.specs.Given.{value_named}
use Rattle.command_line.specs.Parameters.{Parameter, listed, option}
use Rattle.command_line.specs.declared.options.Presentation.{Presentation}
use Rattle.command_line.specs.declared.options.Presentation.TheVariants.{Report, Explanation, Picture, FieldPicture}
use Rattle.command_line.specs.declared.parameters.NameList.{NameList}
use Rattle.command_line.specs.declared.parameters.NameList.TheVariants.{Edges}
use Rattle.command_line.specs.Names.{pictures}
use Rattle.command_line.specs.Requests.{Text}

-- `--edges NAMES`: the names of rules where it is left out
abbrev pub edges : Parameter NameList
edges = option (codes "edges") (listed Edges) (Some (codes "rules"))

-- the form that its text names
abbrev pub chosen_picture : Option Text → Presentation
chosen_picture text = unwrap_or (option_and_then (λ name. value_named name pictures) text) Picture

-- this form, by whether a decision is drawn: none where it is and has the names of the field, which only the picture of a verdict has
abbrev pub picture_form : Bool → Presentation → Option Presentation
picture_form decides Report = Some Report
picture_form decides Explanation = Some Explanation
picture_form decides Picture = Some Picture
picture_form decides FieldPicture = if decides then None else Some FieldPicture
