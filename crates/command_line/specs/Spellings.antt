-- The usual spellings of requests: which arguments ask for what.
use Rattle.std.specs.Prelude.{Contains, List, [], ◌∷◌, Option, None, codes}
use Rattle.command_line.specs.Spelled.{Give}
use Rattle.command_line.specs.declared.options.Presentation.TheVariants.{Report}
use Rattle.command_line.specs.declared.requests.Notes.{Notes}
use Rattle.command_line.specs.Requests.{Text, Asked, judging}
use Rattle.command_line.specs.Options.{no_notes, notes_of}
use Rattle.command_line.specs.Subcommands.{Subcommand, asks, subcommands, text_by_name}
use Rattle.command_line.specs.Names.{known_names}

-- the arguments ask for this
pub data Asks : List Text → Asked → Type 0 where
  -- no arguments: standard input, with one worker
  nothing : Asks [] (judging Report None 1 None)
  -- the name of a subcommand, and then its parameters in a usual spelling and any order
  subcommand : (c : Subcommand) (rest : List Text) (texts : List (Option Text)) (more : List Text) → Contains subcommands c → Give known_names c.parameters rest texts more
      → Asks (c.name ∷ rest) (asks c (text_by_name c.parameters texts) more)

-- the arguments ask that this be told beside what they ask for
pub data AsksNotes : List Text → Notes → Type 0 where
  unnoted : AsksNotes [] no_notes
  noted : (c : Subcommand) (rest : List Text) (texts : List (Option Text)) (more : List Text) → Contains subcommands c → Give known_names c.parameters rest texts more
      → AsksNotes (c.name ∷ rest) (notes_of (text_by_name c.parameters texts))

-- the arguments ask for the help or for the version
pub data AsksHelp : List Text → Type 0 where
  help : AsksHelp (codes "help" ∷ [])
  help_option : AsksHelp (codes "--help" ∷ [])
  help_short : AsksHelp (codes "-h" ∷ [])
  help_of : (c : Subcommand) → Contains subcommands c → AsksHelp (codes "help" ∷ c.name ∷ [])
  option_of : (c : Subcommand) → Contains subcommands c → AsksHelp (c.name ∷ codes "--help" ∷ [])
  short_of : (c : Subcommand) → Contains subcommands c → AsksHelp (c.name ∷ codes "-h" ∷ [])
  version_option : AsksHelp (codes "--version" ∷ [])
  version_short : AsksHelp (codes "-V" ∷ [])
