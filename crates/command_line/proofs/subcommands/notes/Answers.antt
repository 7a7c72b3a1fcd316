use Rattle.std.proofs.Common.{◌∙◌, None, Some}
use Rattle.command_line.specs.Commands.{notes_in}
use Rattle.command_line.specs.Options.{no_notes}
use Rattle.command_line.proofs.RequestLemmas.{first_named, none_named}
use Rattle.command_line.proofs.subcommands.notes.Goals as goal

pub returns-in-Some-subcommand_named : goal.returns-in-Some-subcommand_named
returns-in-Some-subcommand_named c =
    c.notes.ensures ∙ first_named notes_in no_notes c.args.matches.now _ _ (Some c.in-Some-subcommand_named.subcommand) c.in-Some.ensures.name c.in-Some.ensures.rows c.in-Some-subcommand_named.ensures

pub returns-in_default-subcommand_named : goal.returns-in_default-subcommand_named
returns-in_default-subcommand_named c = first_named notes_in no_notes c.args.matches.now _ _ None c.in-Some.ensures.name c.in-Some.ensures.rows c.in_default-subcommand_named.ensures

pub returns-in_default : goal.returns-in_default
returns-in_default c = none_named notes_in no_notes c.args.matches.now c.in_default.ensures.name
