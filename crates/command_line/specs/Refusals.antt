-- Arguments in a usual spelling that are refused.
use Rattle.std.specs.Prelude.{◌≡◌, ◌||◌, Contains, Bool, true, false, List, ◌∷◌, codes}
use Rattle.std.specs.List.{list_any}
use Rattle.std.specs.Str.{bytes_eq}
use Rattle.command_line.specs.Given.{is_value}
use Rattle.command_line.specs.Spelled.{HaveWrongValue, LeaveOut}
use Rattle.command_line.specs.Requests.{Text}
use Rattle.command_line.specs.Subcommands.{Subcommand, subcommands}
use Rattle.command_line.specs.Names.{known_names}

-- the text is the name of a subcommand, `help` among them
abbrev pub is_subcommand : Text → Bool
is_subcommand text = list_any (λ c. bytes_eq c.name text) subcommands || bytes_eq (codes "help") text

-- the arguments are refused
pub data Refuses : List Text → Type 0 where
  -- a first argument that is no subcommand and no option, with any after it
  unknown : (first : Text) (rest : List Text) → is_value first ≡ true → is_subcommand first ≡ false → Refuses (first ∷ rest)
  -- a subcommand without a file, or an option, that may not be left out
  left_out : (c : Subcommand) (rest : List Text) → Contains subcommands c → LeaveOut known_names c.parameters rest → Refuses (c.name ∷ rest)
  -- a subcommand of which an option has a value that it doesn't take, as a number out of its range
  wrong_value : (c : Subcommand) (rest : List Text) → Contains subcommands c → HaveWrongValue known_names c.parameters rest → Refuses (c.name ∷ rest)
