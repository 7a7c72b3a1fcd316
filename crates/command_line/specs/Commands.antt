-- What any arguments ask for, in the terms of `clap`: the command line that is offered, and what its matches and its kinds of error stand for.
use Rattle.std.specs.Prelude.{◌≡◌, true, List, [], Option, Some, None, codes, find, fold, map}
use Rattle.std.specs.Borrow.{Bor}
use Rattle.std.specs.Option.{option_map_or}
use Rattle.std.specs.Str.{bytes_eq}
use Rattle.clap.specs.Simple.{App, on_top}
use Rattle.clap.specs.Words.{IsAmong, Kinds, Row, fault_of, new_app, subcommand_of, with_subcommand}
use Rattle.clap.specs.declared.error.kind.ErrorKind.{ErrorKind}
use Rattle.clap.specs.declared.error.kind.ErrorKind.TheVariants.{DisplayHelp, DisplayVersion}
use Rattle.command_line.specs.Offered.{parameter_text_in, several_in}
use Rattle.command_line.specs.Parameters.{Parameter, offered_app}
use Rattle.command_line.specs.declared.options.OptionNames.{OptionNames}
use Rattle.command_line.specs.declared.options.Presentation.TheVariants.{Report}
use Rattle.command_line.specs.declared.requests.Notes.{Notes}
use Rattle.command_line.specs.declared.parameters.NameList.{NameList}
use Rattle.command_line.specs.declared.parameters.NameList.TheVariants.{Units, Models, Formats, RunFormats, Edges}
use Rattle.command_line.specs.Requests.{Text, Asked, judging, refusing, showing}
use Rattle.command_line.specs.Options.{no_notes, notes_of}
use Rattle.command_line.specs.Subcommands.{Subcommand, asks, subcommands, text_by_name}
use Rattle.command_line.specs.Names.{known_names}

-- ---- the command line

-- where the lists of names are in memory
abbrev pub memory_of : OptionNames → NameList → Bor (List (Bor Text))
memory_of names Units = names.units
memory_of names Models = names.models
memory_of names Formats = names.formats
memory_of names RunFormats = names.run_formats
memory_of names Edges = names.edges

-- the lists in memory have the names of the units, of the memory models, of the formats of batches and of runs, and of the names of edges
abbrev pub HasKnownNames : OptionNames → Type 0
HasKnownNames names = (list : NameList) → map (λ name. name.now) (memory_of names list).now ≡ known_names list

-- the program, before its subcommands; the name of the program is none of its arguments
abbrev pub program_app : App
program_app = on_top (λ s. record s { no_binary_name = true; has_version = true }) (new_app (codes "tsobench"))

abbrev pub tsobench_app : OptionNames → App
tsobench_app names = fold (λ app c. with_subcommand app (offered_app (memory_of names) c.name c.parameters).top) program_app subcommands

-- ---- what the matches stand for

-- the text of the parameter of each name in the rows of a parse
abbrev pub given_in : List (Parameter NameList) → List Row → Text → Option Text
given_in parameters rows = text_by_name parameters (map (parameter_text_in rows) parameters)

-- what a subcommand asks for whose parse left these rows
abbrev pub asked_in : Subcommand → List Row → Asked
asked_in c rows = asks c (given_in c.parameters rows) (several_in rows c.parameters)

-- what is told beside it
abbrev pub notes_in : Subcommand → List Row → Notes
notes_in c rows = notes_of (given_in c.parameters rows)

-- by the subcommand's name and its rows, or what it is without a subcommand
abbrev pub by_subcommand : {X : Type 0} → (Subcommand → List Row → X) → X → Option (Text × List Row) → X
by_subcommand value none None = none
by_subcommand value none (Some found) = option_map_or (λ c. value c found.1) (find (λ c. bytes_eq c.name found.0) subcommands) none

-- without a subcommand standard input is judged, with one worker, and nothing is told beside it
abbrev pub asked_by : Option (Text × List Row) → Asked
asked_by = by_subcommand asked_in (judging Report None 1 None)

abbrev pub notes_by : Option (Text × List Row) → Notes
notes_by = by_subcommand notes_in no_notes

-- ---- what a kind of error stands for

abbrev pub asked_at : ErrorKind → Asked
asked_at DisplayHelp = showing
asked_at DisplayVersion = showing
asked_at _ = refusing

-- with no kind of error the matches say what is asked for, else one of the kinds does
abbrev pub IsAskedBy : Kinds → Option (Text × List Row) → Asked → Type 0
IsAskedBy [] found asked = asked ≡ asked_by found
IsAskedBy kinds found asked = (kind : ErrorKind) × IsAmong kind kinds × (asked ≡ asked_at kind)

-- what `clap` says that the arguments ask for, where `--unit` takes the names of the units, `--model` those of the memory
-- models, `--format` those of the formats, of a batch or of a run, and `--edges` those of the names of edges
abbrev pub IsAskedFor : List Text → Asked → Type 0
IsAskedFor arguments asked = (names : OptionNames) × HasKnownNames names
    × IsAskedBy (fault_of (tsobench_app names) arguments) (subcommand_of (tsobench_app names) arguments) asked
