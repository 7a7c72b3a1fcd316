use Rattle.std.proofs.Common.{◌∙◌, Some, sym}
use Rattle.clap.specs.Words.{found_of, rows_of}
use Rattle.command_line.specs.Commands.{given_in}
use Rattle.command_line.specs.Subcommands.{run_parameters}
use Rattle.command_line.proofs.FoundLemmas.{run_options_found}
use Rattle.command_line.proofs.found.run_options.Goals as goal

pub returns : goal.returns
returns c =
    run_options_found (given_in run_parameters (rows_of (found_of c.args.matches.now))) _ _ (Some c.in_ok-printing.printing) _ c.unit_options.ensures c.workers.ensures
    (sym c.in_ok-printing.was ∙ c.printing.ensures) c.is_used.ensures
