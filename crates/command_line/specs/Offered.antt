-- A subcommand as a built command has it: what of it a parse of its arguments rests on, and which text each parameter has in the rows of a parse.
use Rattle.std.specs.Prelude.{◌≡◌, ◌&&◌, ◌++◌, ℕ, Bool, true, false, not, List, [], ◌∷◌, Option, Some, None, codes, map, unwrap_or, if◌then◌else◌}
use Rattle.std.specs.Borrow.{Bor}
use Rattle.std.specs.List.{list_any}
use Rattle.std.specs.Option.{option_map_or}
use Rattle.std.specs.Str.{bytes_eq}
use Rattle.clap.specs.Lexer.{long_of}
use Rattle.clap.specs.Simple.{Shape, filled_from, help_rule}
use Rattle.clap.specs.Walk.{Row, Rule, Text, all_of, arg_by_id, arg_by_index, arg_by_long, first_of, is_empty, one_of, reading_by}
use Rattle.clap.specs.declared.parser.matches.ValueSource.TheVariants.{DefaultValue}
use Rattle.command_line.specs.Parameters.{Parameter, any_text, flag, id_of, listed, offered_rule, other, range, several, valued}

-- ---- the rules of the parameters, and what a parse finds by their names

abbrev pub default_row : Rule → Row
default_row a = record { id = a.id; values = a.defaults; count = None; source = Some DefaultValue; reading = reading_by a }

-- the row that the defaults make for an id that was not used
abbrev pub default_for : Text → List Rule → Option Row
default_for id [] = None
default_for id (a ∷ rest) = if bytes_eq a.id id && not (is_empty a.defaults) then Some (default_row a) else default_for id rest

-- by its id, by its long name or its place, and the row of its default
abbrev pub found_of_rule : List Rule → Rule → Option Rule × Option Rule × Option Row
found_of_rule rules a =
    (arg_by_id rules a.id, option_map_or (arg_by_index rules) a.index (arg_by_long rules a.id), default_for a.id rules)

abbrev pub itself : Rule → Option Rule × Option Rule × Option Row
itself a = (Some a, Some a, if is_empty a.defaults then None else Some (default_row a))

-- what a parse reads in `--name`, and in `--name=value`
abbrev pub read_as_long : Text → Text → Bool × Option (Text × Option Text) × Bool × Option (Text × Option Text)
read_as_long value id = (
  bytes_eq (codes "--" ++ id) (codes "--"),
  long_of (codes "--" ++ id),
  bytes_eq (codes "--" ++ id ++ codes "=" ++ value) (codes "--"),
  long_of (codes "--" ++ id ++ codes "=" ++ value),
)

abbrev pub is_long_name : Text → Text → Bool × Option (Text × Option Text) × Bool × Option (Text × Option Text)
is_long_name value id = (false, Some (id, None), false, Some (id, Some value))

-- no id is one after it
abbrev pub are_distinct : List Text → Bool
are_distinct [] = true
are_distinct (id ∷ rest) = not (list_any (bytes_eq id) rest) && are_distinct rest

module _ {N : Type 0} (memory : N → Bor (List (Bor Text))) where
  -- the rules of the parameters once the command is built, where the first place is i
  abbrev pub built_rules : ℕ → List (Parameter N) → List Rule
  built_rules i parameters = filled_from i (map (offered_rule memory) parameters)

  -- The shape is that of a subcommand, built, which was offered with these parameters: `refl` shows each line of a subcommand that is written out.
  pub record Offers (s : Shape) (parameters : List (Parameter N)) : Type 0 where
    pub rules : s.rules ≡ filled_from 1 (map (offered_rule memory) parameters ++ help_rule ∷ [])
    pub one_use : s.args_override_self ≡ false
    pub without_help : s.arg_required_else_help ≡ false
    pub without_subcommand : s.subcommand_required ≡ false
    pub found : map (found_of_rule s.rules) (built_rules 1 parameters) ≡ map itself (built_rules 1 parameters)
    pub long : (value : Text) → map (read_as_long value) (map id_of parameters) ≡ map (is_long_name value) (map id_of parameters)
    pub distinct : are_distinct (map id_of parameters) ≡ true

-- ---- the texts of parameters in the rows of a parse

module _ {N : Type 0} where
  -- numbers and flags are read by their types, names and other arguments as texts
  abbrev pub parameter_text_in : List Row → Parameter N → Option Text
  parameter_text_in rows (valued id (range least most) default required) = one_of id rows
  parameter_text_in rows (valued id (listed n) default required) = first_of id rows
  parameter_text_in rows (valued id any_text default required) = first_of id rows
  parameter_text_in rows (flag id) = one_of id rows
  parameter_text_in rows (other id required) = first_of id rows
  parameter_text_in rows (several id) = first_of id rows

  -- the texts of the parameter of which there may be several, in their order
  abbrev pub several_in : List Row → List (Parameter N) → List Text
  several_in rows [] = []
  several_in rows (several id ∷ rest) = unwrap_or (all_of id rows) []
  several_in rows (p ∷ rest) = several_in rows rest
