-- For private functions: what they parse in place of the arguments.
use Rattle.std.specs.Prelude.{◌≡◌, List, [], ◌∷◌, Option, codes, find, option_map, unwrap_or, if◌then◌else◌}
use Rattle.std.specs.Str.{bytes_eq}
use Rattle.command_line.specs.Parameters.{Parameter, Values, any_text, flag, listed, option, optional, other, range, several}
use Rattle.clap.specs.Words.{fault_of, subcommand_of}
use Rattle.command_line.specs.Commands.{IsAskedBy, notes_by, tsobench_app}
use Rattle.command_line.specs.Requests.{Text, Asked}
use Rattle.command_line.specs.declared.requests.Notes.{Notes}
use Rattle.command_line.specs.declared.options.OptionNames.{OptionNames}
use Rattle.command_line.specs.Subcommands as s
use Rattle.command_line.specs.Subcommands.{subcommands}
use Rattle.command_line.specs.declared.subcommands.Subcommand.{Subcommand}
use Rattle.command_line.specs.declared.subcommands.Subcommand.TheVariants.{Judge, Decide, Explain, Draw, Reduce, Batch, Log, Follow, Check, Verify, Outcomes, Replay, Run, Make, Campaign}
use Rattle.command_line.specs.declared.parameters.NameList.{NameList}
use Rattle.command_line.specs.declared.parameters.Parameter.{Parameter as Declared}
use Rattle.command_line.specs.declared.parameters.Parameter.TheVariants as declared
use Rattle.command_line.specs.declared.parameters.Accepted.{Accepted}
use Rattle.command_line.specs.declared.parameters.Accepted.TheVariants as accepted

-- ---- parameters as code has them

abbrev pub values_of : Accepted → Values NameList
values_of (accepted.Number least most) = range least most
values_of (accepted.Name list) = listed list
values_of accepted.Text = any_text

abbrev pub parameter_of : Declared → Parameter NameList
parameter_of (declared.Option id value_name accepts default help) = option id.now (values_of accepts) (option_map (λ text. text.now) default)
parameter_of (declared.Optional id value_name accepts help) = optional id.now (values_of accepts)
parameter_of (declared.Flag id help) = flag id.now
parameter_of (declared.Other id value_name required help) = other id.now required
parameter_of (declared.Several id value_name help) = several id.now

-- ---- subcommands as code has them

abbrev pub member_of : Subcommand → s.Subcommand
member_of Judge = s.judge
member_of Decide = s.decide
member_of Explain = s.explain
member_of Draw = s.draw
member_of Reduce = s.reduce
member_of Batch = s.batch
member_of Log = s.log
member_of Follow = s.follow
member_of Check = s.check
member_of Verify = s.verify
member_of Outcomes = s.outcomes
member_of Replay = s.replay
member_of Run = s.run
member_of Make = s.make
member_of Campaign = s.campaign

-- ---- the arguments that are parsed

-- the option that asks for the help of the subcommand of this name
abbrev pub help_option_of : Text → Option (List Text)
help_option_of wanted = option_map (λ c. c.name ∷ codes "--help" ∷ []) (find (λ c. bytes_eq c.name wanted) subcommands)

-- `help`, and `help` with the name of a subcommand, as the option that asks for the same
abbrev pub parsed_as : List Text → List Text
parsed_as [] = []
parsed_as (first ∷ []) = if bytes_eq first (codes "help") then codes "--help" ∷ [] else first ∷ []
parsed_as (first ∷ wanted ∷ []) =
    if bytes_eq first (codes "help") then unwrap_or (help_option_of wanted) (first ∷ wanted ∷ []) else first ∷ wanted ∷ []
parsed_as (first ∷ second ∷ third ∷ rest) = first ∷ second ∷ third ∷ rest

-- what a parse of the arguments says of what is asked for
abbrev pub IsFound : OptionNames → List Text → Asked → Type 0
IsFound names arguments asked = IsAskedBy (fault_of (tsobench_app names) (parsed_as arguments)) (subcommand_of (tsobench_app names) (parsed_as arguments)) asked

-- what a parse of the arguments, where nothing fails, says of what is told beside it
abbrev pub AreNotesFound : OptionNames → List Text → Notes → Type 0
AreNotesFound names arguments notes = fault_of (tsobench_app names) (parsed_as arguments) ≡ [] → notes ≡ notes_by (subcommand_of (tsobench_app names) (parsed_as arguments))
