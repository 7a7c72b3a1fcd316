use Rattle.std.proofs.Common.{◌∙◌, Some, sym}
use Rattle.clap.specs.Words.{found_of, rows_of}
use Rattle.command_line.specs.Commands.{given_in}
use Rattle.command_line.specs.Subcommands.{log_parameters}
use Rattle.command_line.proofs.FoundLemmas.{log_options_found}
use Rattle.command_line.proofs.found.logs.log_options.Goals as goal

pub returns : goal.returns
returns c =
    log_options_found (given_in log_parameters (rows_of (found_of c.args.matches.now))) _ _ _ _ (Some c.in_ok-form.form) c.number_within.ensures.value c.number_within-2.ensures.value
    c.number_within-3.ensures.value c.is_used.ensures (sym c.in_ok-form.was ∙ c.log_form.ensures)
