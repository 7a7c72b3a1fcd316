use Rattle.std.proofs.Common.{◌≡◌, drop, false, fold, map}
use Rattle.clap.specs.Words.{app_of, with_subcommand}
use Rattle.clap.specs.declared.builder.command.Command.TheViews.{out-Command as fields_of}
use Rattle.command_line.specs.Parameters.{offered_app}
use Rattle.command_line.specs.Commands.{memory_of}
use Rattle.command_line.specs.Internal.Computed.{member_of}
use Rattle.command_line.proofs.subcommands.with_subcommands.Given as goal

-- the command line so far with the subcommands that are left is the one with all
abbrev pub invariant-loop-subcommand : goal.invariant-loop-subcommand
invariant-loop-subcommand l =
    (fold (λ app c. with_subcommand app (offered_app (memory_of l.names) c.name c.parameters).top) (app_of l.program) (map member_of (drop l.subcommand-index l.list))
    ≡ fold (λ app c. with_subcommand app (offered_app (memory_of l.names) c.name c.parameters).top) (app_of l.fn.program) (map member_of l.list))
    × ((fields_of l.program).has_globals ≡ false)
