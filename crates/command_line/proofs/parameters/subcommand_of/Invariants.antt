use Rattle.std.proofs.Common.{◌≡◌, false, map, take}
use Rattle.clap.specs.Words.{app_of}
use Rattle.clap.specs.declared.builder.command.Command.TheViews.{out-Command as fields_of}
use Rattle.command_line.specs.Parameters.{offered_app}
use Rattle.command_line.specs.Commands.{memory_of}
use Rattle.command_line.specs.Internal.Computed.{parameter_of}
use Rattle.command_line.proofs.parameters.subcommand_of.Given as goal

abbrev pub invariant-loop-parameter : goal.invariant-loop-parameter
invariant-loop-parameter l =
    (app_of l.command ≡ offered_app (memory_of l.names) l.name (map parameter_of (take l.parameter-index l.description.parameters.now)))
    × ((fields_of l.command).has_globals ≡ false)
